use Rattle.std.specs.List.{All, Contains}
use Rattle.scan_insert.specs.Scanned.{cell_ids}
use Rattle.cell_order.proofs.OrderedLemmas.{Unwritten}
use Rattle.cell_order.proofs.writing.push_in_order.Given as goal

abbrev pub invariant-loop-equation : goal.invariant-loop-equation
invariant-loop-equation l = record {
  done : Unwritten l.netlist l.equation-index l.next l.out.items l.fn.out.items l.order;
  left : All (Contains (cell_ids l.netlist)) l.next;
}
