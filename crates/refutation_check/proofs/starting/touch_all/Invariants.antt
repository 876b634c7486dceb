use Rattle.std.proofs.Common.{◌≡◌, length, take}
use Rattle.refutation_check.specs.inner.Sweeps.{AreTouched}
use Rattle.refutation_check.specs.inner.Trails.{Grows}
use Rattle.refutation_check.proofs.starting.touch_all.Given as goal

abbrev pub invariant-loop-k : goal.invariant-loop-k
invariant-loop-k l = record {
  grows : Grows l.fn.sets l.sets;
  told : l.sets.told ≡ l.fn.sets.told;
  touched : AreTouched l.sets (length l.fn.sets.trail) (take l.k l.list);
}
