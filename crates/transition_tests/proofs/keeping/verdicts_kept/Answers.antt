use Rattle.std.proofs.Common.{◌≡◌, ℕ, ◌<◌, List, length, get_or, ◌∙◌, ap, arith}
use Rattle.std.proofs.lemmas.Result.{IfOk-weaker}
use Rattle.statement.specs.declared.lines.Point.{Point}
use Rattle.list_core.specs.Kept.{is_last_at, new_place}
use Rattle.list_core.proofs.FinishLemmas.{places_of_last}
use Rattle.transition_tests.specs.inner.Ends.{AreVerdictsOf}
use Rattle.transition_tests.proofs.EndLemmas.{ends_renamed, within_at}
use Rattle.transition_tests.proofs.keeping.verdicts_kept.Goals as goal

pub returns : goal.returns
returns c =
    let ls = c.args.last.now in
    let seen = c.args.marks.now in
    let made = c.deref.result.now in
    let size : length seen ≡ length made = omega (arith, c.in_ok-places.ensures.size, ap length c.deref.ensures.value) in
    let places = places_of_last ls seen made (length seen) c.requires.marks size
    (λ k lt. ap (λ (ps : List ℕ). get_or ps k 0) c.deref.ensures.value ∙ c.in_ok-places.ensures.each k lt) in
    IfOk-weaker c.verdicts_of-verdicts.result (λ v. AreVerdictsOf (λ (k : ℕ). get_or made k 0) c.args.found.items ls v.items) (λ v. AreVerdictsOf (new_place (is_last_at ls)) c.args.found.items ls v.items)
    (λ v. ends_renamed (λ (k : ℕ). get_or made k 0) (new_place (is_last_at ls)) c.args.found.items ls v.items
    (λ i (l : ℕ × Point) e.
    let low : l.0 < length seen = within_at (length seen) ls c.requires.within i l e in
    places l.0 (omega arith)))
    c.verdicts_of-verdicts.ensures
