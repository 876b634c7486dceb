use Rattle.std.proofs.Common.{◌≡◌, ◌<◌, ℕ, true, false, get_or}
use Rattle.refutation.specs.Refutations.{may_have, told_of}
use Rattle.refutation_check.specs.inner.Marks.{is_marked}
use Rattle.refutation_check.specs.inner.Trails.{Grows}
use Rattle.refutation_check.proofs.starting.widen.Given as goal

abbrev pub invariant-loop-k : goal.invariant-loop-k
invariant-loop-k l = record {
  grows : Grows l.fn.sets l.sets;
  wide : (j d : ℕ) → j < l.k → told_of l.sets.told (get_or l.list j d) ≡ may_have l.holds l.fault true (get_or l.list j d);
  others : (x : ℕ) → is_marked l.marks x ≡ false → told_of l.sets.told x ≡ told_of l.fn.sets.told x;
}
