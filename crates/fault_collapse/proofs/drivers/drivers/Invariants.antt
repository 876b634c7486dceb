use Rattle.std.proofs.Common.{◌≡◌, ◌+◌, length, vec_len}
use Rattle.fault_collapse.proofs.DriverTables.{AreFirst}
use Rattle.fault_collapse.proofs.Stems.{lines_before}
use Rattle.fault_collapse.proofs.drivers.drivers.Given as goal

abbrev pub invariant-loop-definition : goal.invariant-loop-definition
invariant-loop-definition l = record {
  size : vec_len l.drivers ≡ l.definition-index;
  next : l.next ≡ lines_before l.netlist (length l.netlist.inputs + l.definition-index);
  first : AreFirst l.netlist l.drivers.items;
}
