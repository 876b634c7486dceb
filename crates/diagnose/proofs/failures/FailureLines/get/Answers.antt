use Rattle.std.proofs.Common.{◌<◌, length, refl, arith}
use Rattle.std.proofs.lemmas.Option.{slice_get_read}
use Rattle.diagnose.proofs.TableLemmas.{seen_failures, read_failure}
use Rattle.diagnose.proofs.failures.FailureLines.get.Goals as goal

pub index-requires : goal.index-requires
index-requires c =
    let s = c.self.inside in
    let size = seen_failures s.cycles.items s.signals c.args.self.now c.self.view_is c.self.invariant in
    omega (arith, size)

pub get-requires : goal.get-requires
get-requires c =
    let s = c.self.inside in
    let size = seen_failures s.cycles.items s.signals c.args.self.now c.self.view_is c.self.invariant in
    omega (arith, size, c.self.invariant)

pub returns : goal.returns
returns c =
    let s = c.self.inside in
    let size = seen_failures s.cycles.items s.signals c.args.self.now c.self.view_is c.self.invariant in
    let inside : c.args.place < length s.cycles.items = omega (arith, size, c.requires) in
    read_failure s.cycles.items s.signals c.args.self.now c.args.place c.index.result.now c.get.result.now c.self.view_is
    (slice_get_read s.cycles.items (length s.cycles.items) c.args.place c.index.result.now refl inside c.index.ensures) c.get.ensures
