use Rattle.refutation.specs.Refutations.{IsNever}
use Rattle.refutation_check.proofs.ReasonLemmas.{all_hold, all_more}
use Rattle.refutation_check.proofs.reasons.is_none_so.Goals as goal

pub loop-k-preserved : goal.loop-k-preserved
loop-k-preserved c =
    all_more (IsNever c.args.told.now) c.args.clause.now c.loop-k.k c.index-clause-k.result c.is_never-never.result c.loop-k-test.true c.index-clause-k.is c.is_never-never.ensures
    c.if-not-never.false c.loop-k.invariant

pub returns : goal.returns
returns c = all_hold (IsNever c.args.told.now) c.args.clause.now c.loop-k.k c.loop-k-test.false c.loop-k.invariant
