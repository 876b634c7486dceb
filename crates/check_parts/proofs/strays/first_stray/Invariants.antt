use Rattle.check_parts.proofs.StrayLemmas.{AreInOrder}
use Rattle.check_parts.proofs.strays.first_stray.Given as goal

abbrev pub invariant-loop-k : goal.invariant-loop-k
invariant-loop-k l = AreInOrder l.evidence l.left l.k
