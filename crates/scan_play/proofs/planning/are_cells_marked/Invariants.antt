use Rattle.std.proofs.Common.{take, ◌≡◌, true}
use Rattle.std.specs.List.{All}
use Rattle.statement.specs.Netlists.{Definition, is_cell}
use Rattle.scan_play.specs.inner.Plans.{AreMarked}
use Rattle.scan_play.proofs.planning.are_cells_marked.Given as goal

abbrev pub invariant-loop-definition : goal.invariant-loop-definition
invariant-loop-definition l = All (λ (d : Definition). is_cell d ≡ true → AreMarked l.marks d.pins) (take l.definition-index l.netlist.definitions)
