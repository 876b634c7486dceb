use Rattle.std.proofs.Common.{◌<◌, length, refl, arith}
use Rattle.std.proofs.lemmas.Option.{slice_get_read}
use Rattle.report.proofs.TableLemmas.{seen_lines, read_line}
use Rattle.report.proofs.fault_lines.FaultLines.get.Goals as goal

pub get-requires : goal.get-requires
get-requires c =
    let s = c.self.inside in
    let size = seen_lines s.faults s.outcomes.items s.pins c.args.self.now c.self.view_is c.self.invariant.0 c.self.invariant.1 in
    omega (arith, size, c.self.invariant.0)

pub index-requires : goal.index-requires
index-requires c =
    let s = c.self.inside in
    let size = seen_lines s.faults s.outcomes.items s.pins c.args.self.now c.self.view_is c.self.invariant.0 c.self.invariant.1 in
    omega (arith, size)

pub get-requires-2 : goal.get-requires-2
get-requires-2 c =
    let s = c.self.inside in
    let size = seen_lines s.faults s.outcomes.items s.pins c.args.self.now c.self.view_is c.self.invariant.0 c.self.invariant.1 in
    omega (arith, size, c.self.invariant.1)

pub returns : goal.returns
returns c =
    let s = c.self.inside in
    let size = seen_lines s.faults s.outcomes.items s.pins c.args.self.now c.self.view_is c.self.invariant.0 c.self.invariant.1 in
    let inside : c.args.place < length s.outcomes.items = omega (arith, size, c.requires) in
    read_line s.faults s.outcomes.items s.pins c.args.self.now c.args.place c.get.result.now c.index.result.now c.get-2.result.now c.self.view_is
    c.get.ensures (slice_get_read s.outcomes.items (length s.outcomes.items) c.args.place c.index.result.now refl inside c.index.ensures) c.get-2.ensures
