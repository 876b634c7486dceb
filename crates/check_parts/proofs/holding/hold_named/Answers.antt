use Rattle.std.proofs.Common.{arith, ap, length}
use Rattle.check_parts.proofs.HeldLemmas.{all_held, input_here, input_signal, next_held, none_held_yet}
use Rattle.check_parts.proofs.holding.hold_named.Goals as goal

pub loop-k-init : goal.loop-k-init
loop-k-init c = none_held_yet c.args.netlist.now c.args.lines.now c.args.holds.now c.requires.none

pub hold_next-next-requires-clause-input : goal.hold_next-next-requires-clause-input
hold_next-next-requires-clause-input c =
    input_signal c.args.netlist.now c.sound.ensures c.inputs-input-items.result.now c.loop-k.k c.input-item.result c.inputs-input-items.ensures c.loop-k-test.true c.input-item.is

pub loop-k-preserved : goal.loop-k-preserved
loop-k-preserved c =
    next_held c.args.netlist.now c.args.lines.now c.loop-k.k c.loop-k.next c.input-item.result c.hold_next-next.result c.loop-k.holds c.hold_next-next.new.holds
    (input_here c.args.netlist.now c.inputs-input-items.result.now c.loop-k.k c.input-item.result c.inputs-input-items.ensures c.loop-k-test.true c.input-item.is)
    c.hold_next-next.ensures c.loop-k.invariant

pub returns : goal.returns
returns c =
    let w = all_held c.args.netlist.now c.args.lines.now c.loop-k.k c.loop-k.next c.loop-k.holds (let e = ap length c.inputs-input-items.ensures in let stop = c.loop-k-test.false in omega arith) c.loop-k.invariant in
    record { within = c.loop-k.invariant.within; matched = w.0; rest = w.1 }
