use Rattle.std.proofs.Common.{◌≡◌, ◌<◌, ℕ, true, get_or}
use Rattle.statement.specs.declared.lines.Line.{Line}
use Rattle.statement.specs.declared.lines.Line.TheVariants.{Pin}
use Rattle.netlist.specs.Netlist.{IsGateAt}
use Rattle.refutation_check.specs.inner.Marks.{ReadersOf, Spreads, is_marked, marked}
use Rattle.refutation_check.proofs.cones.mark_readers.Given as goal

abbrev pub invariant-loop-k : goal.invariant-loop-k
invariant-loop-k l = record {
  spreads : Spreads (ReadersOf l.netlist l.fn.id) (marked l.fn.marks.items l.fn.list.items) (marked l.marks.items l.list.items);
  passed : (j : ℕ) (d : Line) (z i : ℕ) → j < l.k → get_or l.lines j d ≡ Pin z i → IsGateAt l.netlist z → is_marked l.marks.items z ≡ true;
}
