use Rattle.std.proofs.Common.{◌≡◌, Some, false, length, refl}
use Rattle.std.specs.List.{slice_get}
use Rattle.std.proofs.lemmas.Bool.{both_ways}
use Rattle.std.proofs.lemmas.Option.{slice_get_past, slice_get_read}
use Rattle.netlist.proofs.Placed.{signal_below}
use Rattle.fault_universe.proofs.Members.{branch_at_pin, no_pin, pin_at, read_signal}
use Rattle.fault_universe.proofs.named_faults.has_pin.Goals as goal

pub branches-requires : goal.branches-requires
branches-requires c =
    let n = c.args.netlist.now in
    let pins = c.pins.result.now in
    let h = c.in-Some.ensures.lookup in
    let read : slice_get pins c.args.k ≡ Some c.in-Some.x.now = slice_get_read pins (length pins) c.args.k c.in-Some.x.now refl h.3.0 h.1 in
    signal_below n c.sound.ensures.formed.numbered c.in-Some.x.now
    (read_signal n c.sound.ensures c.args.z c.args.k c.in-Some.x.now (pin_at n c.args.z c.args.k c.in-Some.x.now pins c.pins.ensures read))

pub returns-in-Some : goal.returns-in-Some
returns-in-Some c =
    let n = c.args.netlist.now in
    let pins = c.pins.result.now in
    let h = c.in-Some.ensures.lookup in
    let read : slice_get pins c.args.k ≡ Some c.in-Some.x.now = slice_get_read pins (length pins) c.args.k c.in-Some.x.now refl h.3.0 h.1 in
    branch_at_pin n c.sound.ensures c.args.z c.args.k pins c.pins.ensures c.in-Some.x.now c.branches.result.now c.is_empty.result read c.branches.ensures c.is_empty.ensures

pub returns-in-None : goal.returns-in-None
returns-in-None c =
    let n = c.args.netlist.now in
    let pins = c.pins.result.now in
    let h = c.in-None.ensures.lookup in (
      (λ e. absurd (both_ways false refl e)),
      (λ m. absurd (no_pin n c.sound.ensures c.args.z c.args.k pins c.pins.ensures (slice_get_past pins c.args.k h.3) m)),
    )
