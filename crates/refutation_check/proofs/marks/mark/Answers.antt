use Rattle.std.proofs.Common.{◌≡◌, List, ℕ, true, false, set, get_or, ap, sym, ◌∙◌, subst}
use Rattle.std.proofs.lemmas.List.{get_or_default}
use Rattle.refutation_check.specs.inner.Marks.{Is, Spreads, is_marked, marked}
use Rattle.refutation_check.proofs.MarkLemmas.{spreads_one}
use Rattle.refutation_check.proofs.marks.mark.Goals as goal

pub returns-in_ok-push-clause-spreads : goal.returns-in_ok-push-clause-spreads
returns-in_ok-push-clause-spreads c =
    let marks = c.args.marks.now.items in
    let list = c.args.list.now.items in
    let x = c.args.id in
    let off : is_marked marks x ≡ false =
    get_or_default marks x false c.index-2.result.now c.requires ∙ (ap (λ i. get_or marks i c.index-2.result.now) (sym c.index.ensures) ∙ (sym c.index-2.ensures ∙ c.if-not-index.true)) in
    subst (λ i. Spreads (Is x) (marked marks list) (marked (set marks i true) c.push.new.self.items)) (sym c.index-then-not-index.ensures)
    (subst (λ (xs : List ℕ). Spreads (Is x) (marked marks list) (marked (set marks x true) xs)) (sym c.in_ok-push.ensures.items) (spreads_one marks list x c.requires off))
