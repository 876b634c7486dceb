use Rattle.std.proofs.Common.{◌≤◌, length, ap, ◌∙◌, subst, arith}
use Rattle.std.proofs.lemmas.List.{take_all}
use Rattle.refutation.specs.declared.steps.Literal.{Literal}
use Rattle.refutation.specs.Refutations.{narrowed}
use Rattle.refutation_check.specs.inner.Reasons.{AreWithin}
use Rattle.refutation_check.proofs.TrailLemmas.{grows_then}
use Rattle.refutation_check.proofs.CheckLemmas.{denied_more, denied_all, within_more}
use Rattle.refutation_check.proofs.checks.deny.Goals as goal

pub returns-in_err-narrow-clause-grows : goal.returns-in_err-narrow-clause-grows
returns-in_err-narrow-clause-grows c = grows_then c.args.sets.now c.loop-k.sets c.narrow.new.self c.loop-k.invariant.grows c.in_err-narrow.ensures.grows

pub loop-k-preserved : goal.loop-k-preserved
loop-k-preserved c =
    let low = c.if-index-told.false in
    let index = c.index.ensures in
    let told = ap length c.told.ensures in
    let size = c.loop-k.invariant.grows.size in
    let here = ap (λ (l : Literal). l.signal) c.index-clause-k.is in
    record {
      grows = grows_then c.args.sets.now c.loop-k.sets c.narrow.new.self c.loop-k.invariant.grows c.in_ok-narrow.ensures.grows;
      within = within_more (length c.args.sets.now.told) c.args.clause.now c.loop-k.k c.index-clause-k.result c.loop-k-test.true c.index-clause-k.is (omega arith) c.loop-k.invariant.within;
      rest = denied_more c.args.sets.now.told c.loop-k.sets.told c.narrow.new.self.told c.args.clause.now c.loop-k.k c.index-clause-k-in-loop-k.result c.loop-k-test.true
          c.index-clause-k-in-loop-k.is c.loop-k.invariant.rest (c.in_ok-narrow.ensures.told ∙ ap (λ (l : Literal). narrowed c.loop-k.sets.told l) c.denied-denied.ensures);
    }

pub returns-clause-so : goal.returns-clause-so
returns-clause-so c =
    let end : length c.args.clause.now ≤ c.loop-k.k = c.loop-k-test.false in (
      subst (AreWithin (length c.args.sets.now.told)) (take_all c.loop-k.k c.args.clause.now end) c.loop-k.invariant.within,
      denied_all c.args.sets.now.told c.loop-k.sets.told c.args.clause.now c.loop-k.k end c.loop-k.invariant.rest,
    )
