use Rattle.std.proofs.Common.{ℕ, ◌<◌, get_or}
use Rattle.statement.specs.declared.lines.Line.{Line}
use Rattle.refutation_check.specs.inner.Marks.{Spreads, marked}
use Rattle.refutation_check.specs.inner.Ways.{PassedBy}
use Rattle.refutation_check.proofs.WayLemmas.{IsPassedLine}
use Rattle.refutation_check.proofs.ways.pass.Given as goal

abbrev pub invariant-loop-k : goal.invariant-loop-k
invariant-loop-k l = record {
  spreads : Spreads (PassedBy l.netlist l.told l.fn.id) (marked l.fn.marks.items l.fn.list.items) (marked l.marks.items l.list.items);
  passed : (j : ℕ) (d : Line) → j < l.k → IsPassedLine l.netlist l.told l.marks.items (get_or l.lines j d);
}
