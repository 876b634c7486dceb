use Rattle.std.proofs.Common.{refl}
use Rattle.cell_order.proofs.OrderedLemmas.{all_written, next_line}
use Rattle.cell_order.proofs.writing.push_in_order.Goals as goal

pub loop-equation-init : goal.loop-equation-init
loop-equation-init c = record { done = refl; left = c.requires }

pub next_of-requires-clause-cells : goal.next_of-requires-clause-cells
next_of-requires-clause-cells c = c.loop-equation.invariant.left

pub loop-equation-preserved : goal.loop-equation-preserved
loop-equation-preserved c = record {
  done = next_line c.args.netlist.now c.definitions-equation-items.result.now c.definitions-equation-items.ensures c.loop-equation.equation-index c.loop-equation.next.now c.args.order.now
      c.loop-equation.out.items c.args.out.now.items c.equation-item.result c.next_of.result.0.now c.next_of.result.1.now c.push_equation.new.out.items c.loop-equation-test.true c.equation-item.is c.next_of.ensures
      c.in_ok-push_equation.ensures c.loop-equation.invariant.done;
  left = c.next_of.ensures.left;
}

pub returns : goal.returns
returns c =
    all_written c.args.netlist.now c.definitions-equation-items.result.now c.definitions-equation-items.ensures c.loop-equation.equation-index c.loop-equation.next.now c.args.order.now
    c.loop-equation.out.items c.args.out.now.items c.loop-equation-test.false c.loop-equation.invariant.done
