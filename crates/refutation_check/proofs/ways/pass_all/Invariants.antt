use Rattle.std.proofs.Common.{◌≡◌, ◌+◌, ◌-◌, ℕ, true, length}
use Rattle.refutation_check.specs.inner.Marks.{AreListed, is_marked, marked, unmarked}
use Rattle.refutation_check.specs.inner.Ways.{AreOnWays, AreWaysPassed}
use Rattle.refutation_check.proofs.ways.pass_all.Given as goal

abbrev pub invariant-loop-next : goal.invariant-loop-next
invariant-loop-next l = record {
  size : length l.marks.items ≡ length l.fn.marks.items;
  listed : AreListed (marked l.marks.items l.list.items);
  kept : (x : ℕ) → is_marked l.fn.marks.items x ≡ true → is_marked l.marks.items x ≡ true;
  on : AreOnWays l.netlist l.told (marked l.fn.marks.items l.fn.list.items) (marked l.marks.items l.list.items);
  passed : AreWaysPassed l.netlist l.told (marked l.marks.items l.list.items) l.next;
}

abbrev pub decreases-loop-next : goal.decreases-loop-next
decreases-loop-next l = unmarked l.marks.items + length l.list.items - l.next
