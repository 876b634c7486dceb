use Rattle.std.proofs.Common.{◌∷◌, [], true≢false, List, subst, sym, ◌∙◌}
use Rattle.std.specs.List.{Contains}
use Rattle.statement.specs.Patterns.{Pattern}
use Rattle.run_files.specs.inner.Often.{AreJoined}
use Rattle.run_files.proofs.JoinLemmas.{pushed}
use Rattle.run_files.proofs.differing.add_new.Goals as goal

pub returns : goal.returns
returns c =
    let old = c.args.patterns.now.items in
    let p = c.args.pattern in
    let none : ¬ Contains old p = (λ is.
    let among = subst (λ (ps : List Pattern). Contains ps p) (sym c.deref.ensures.value) is in
    absurd (true≢false (sym (c.is_among.ensures.1 among) ∙ c.if-is_among.false))) in
    subst (AreJoined old (p ∷ [])) (sym c.in_ok-push.ensures.items) (pushed old p none)
