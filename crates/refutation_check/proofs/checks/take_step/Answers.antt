use Rattle.std.proofs.Common.{length, ap, sym, ◌∙◌, subst}
use Rattle.refutation.specs.Refutations.{learned}
use Rattle.refutation.specs.declared.steps.Literal.{Literal}
use Rattle.std.specs.Prelude.{List}
use Rattle.refutation_check.specs.inner.Reasons.{AreWithin}
use Rattle.refutation_check.specs.inner.Trails.{Trailed}
use Rattle.refutation_check.proofs.CheckLemmas.{signals_within}
use Rattle.refutation_check.proofs.checks.take_step.Goals as goal

pub learn-requires : goal.learn-requires
learn-requires c =
    let b = c.args.basis.now in
    let s = c.requires.sets in
    let holds = c.in_ok-holds.ensures.so.0 c.if-not-holds.false in
    let same = ap (λ (t : Trailed). length t.told) c.in_ok-holds.ensures.back in
    subst (AreWithin (length c.step_holds.new.sets.told)) (sym c.clause.ensures)
    (signals_within b.netlist.now s.sound (length c.step_holds.new.sets.told) c.args.step.now.clause (same ∙ s.size) holds.within)

pub returns-clause-so : goal.returns-clause-so
returns-clause-so c = record {
  holds = c.in_ok-holds.ensures.so.0 c.if-not-holds.false;
  now = c.in_ok-learn.ensures.so ∙ (ap (λ (t : Trailed). learned t.told c.clause.result.now) c.in_ok-holds.ensures.back
      ∙ ap (λ (ls : List Literal). learned c.args.sets.now.told ls) c.clause.ensures);
}
