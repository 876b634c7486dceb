use Rattle.std.proofs.Common.{Bool, MatchBool, below_more, subst}
use Rattle.slow_check.specs.inner.Walking.{IsTrueLine}
use Rattle.slow_check.proofs.walking.first_untrue.Goals as goal

pub loop-place-preserved : goal.loop-place-preserved
loop-place-preserved c =
    below_more _ _ c.loop-place.invariant
    (subst (λ (b : Bool). MatchBool b (IsTrueLine c.args.walk.now c.loop-place.place) (¬ IsTrueLine c.args.walk.now c.loop-place.place)) c.if-not-branch.false c.in_ok-is_true_at.ensures)
