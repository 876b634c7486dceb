use Rattle.std.proofs.Common.{take}
use Rattle.std.specs.List.{flat_map}
use Rattle.statement.specs.Netlists.{Definition, cells}
use Rattle.redundancy_cert.specs.inner.Passing.{Marks}
use Rattle.redundancy_cert.proofs.observed.mark_pins.Given as goal

abbrev pub invariant-loop-cell : goal.invariant-loop-cell
invariant-loop-cell l = Marks (flat_map (λ (d : Definition). d.pins) (take l.cell-index (cells l.core))) l.fn.marks.items l.marks.items
