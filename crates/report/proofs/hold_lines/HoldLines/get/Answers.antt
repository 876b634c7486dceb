use Rattle.std.proofs.Common.{◌<◌, length, refl, arith}
use Rattle.std.proofs.lemmas.Option.{slice_get_read}
use Rattle.report.proofs.TableLemmas.{seen_holds, read_hold}
use Rattle.report.proofs.hold_lines.HoldLines.get.Goals as goal

pub get-requires : goal.get-requires
get-requires c =
    let s = c.self.inside in
    let size = seen_holds s.names s.bits.items c.args.self.now c.self.view_is c.self.invariant in
    omega (arith, size, c.self.invariant)

pub index-requires : goal.index-requires
index-requires c =
    let s = c.self.inside in
    let size = seen_holds s.names s.bits.items c.args.self.now c.self.view_is c.self.invariant in
    omega (arith, size)

pub returns : goal.returns
returns c =
    let s = c.self.inside in
    let size = seen_holds s.names s.bits.items c.args.self.now c.self.view_is c.self.invariant in
    let inside : c.args.place < length s.bits.items = omega (arith, size, c.requires) in
    read_hold s.names s.bits.items c.args.self.now c.args.place c.get.result.now c.index.result.now c.self.view_is c.get.ensures (slice_get_read s.bits.items (length s.bits.items) c.args.place c.index.result.now refl inside c.index.ensures)
