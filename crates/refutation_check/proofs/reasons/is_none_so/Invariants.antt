use Rattle.std.proofs.Common.{take}
use Rattle.refutation.specs.Refutations.{IsNoneSo}
use Rattle.refutation_check.proofs.reasons.is_none_so.Given as goal

abbrev pub invariant-loop-k : goal.invariant-loop-k
invariant-loop-k l = IsNoneSo l.told (take l.k l.clause)
