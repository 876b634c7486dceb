use Rattle.std.proofs.Common.{◌≡◌, ◌++◌, ◌+◌, drop, length}
use Rattle.std.specs.List.{filter}
use Rattle.statement.specs.Netlists.{is_cell}
use Rattle.scan_insert.specs.inner.Made.{scan_definitions}
use Rattle.scan_insert.proofs.parts.push_definitions.Given as goal

abbrev pub invariant-loop-definition : goal.invariant-loop-definition
invariant-loop-definition l = record {
  made : l.made.items ++ scan_definitions l.sites l.enables.enable l.enables.enable_not (drop l.cell l.befores) (drop l.definition-index l.netlist.definitions)
      ≡ l.initial.made.items ++ scan_definitions l.sites l.enables.enable l.enables.enable_not l.befores l.netlist.definitions;
  left : l.cell + length (filter is_cell (drop l.definition-index l.netlist.definitions)) ≡ length l.befores;
}
