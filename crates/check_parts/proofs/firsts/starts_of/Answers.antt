use Rattle.std.proofs.Common.{◌+◌, ◌*◌, ℕ, List, ap, length, arith, suc}
use Rattle.netlist.proofs.Placed.{signals_length}
use Rattle.check_parts.proofs.RowLemmas.{all_starts, more_starts, small_start}
use Rattle.check_parts.proofs.firsts.starts_of.Goals as goal

pub overflow_add-next-in-loop-x : goal.overflow_add-next-in-loop-x
overflow_add-next-in-loop-x c =
    let n = c.args.netlist.now in
    let size = signals_length n in
    let a = ap length c.inputs.ensures in
    let b = ap length c.definitions.ensures in
    let lt = c.loop-x-test.true in
    let small = small_start n c.sound.ensures (suc c.loop-x.x) (omega arith) in
    let pins = ap length c.pins.ensures in
    let here = c.loop-x.invariant.next_is in
    let few = c.sound.ensures.sized.small in
    omega arith

pub loop-x-preserved : goal.loop-x-preserved
loop-x-preserved c =
    more_starts c.args.netlist.now c.loop-x.starts.items c.push.new.self.items c.loop-x.x c.loop-x.next (c.loop-x.next + (4 + 2 * length c.pins.result.now))
    c.in_ok-push.ensures.items (ap (λ (ps : List ℕ). c.loop-x.next + (4 + 2 * length ps)) c.pins.ensures) c.loop-x.invariant

pub returns : goal.returns
returns c =
    let n = c.args.netlist.now in
    let size = signals_length n in
    let a = ap length c.inputs.ensures in
    let b = ap length c.definitions.ensures in
    let stop = c.loop-x-test.false in
    all_starts n c.loop-x.starts.items c.push-2.new.self.items c.loop-x.x c.loop-x.next c.in_ok-push-2.ensures.items (omega arith) c.loop-x.invariant
