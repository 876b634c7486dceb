use Rattle.std.proofs.Common.{◌≡◌, drop, take, length}
use Rattle.refutation.specs.Refutations.{denying}
use Rattle.refutation_check.specs.inner.Reasons.{AreWithin}
use Rattle.refutation_check.specs.inner.Trails.{Grows}
use Rattle.refutation_check.proofs.checks.deny.Given as goal

abbrev pub invariant-loop-k : goal.invariant-loop-k
invariant-loop-k l = record {
  grows : Grows l.fn.sets l.sets;
  within : AreWithin (length l.fn.sets.told) (take l.k l.clause);
  rest : denying l.sets.told (drop l.k l.clause) ≡ denying l.fn.sets.told l.clause;
}
