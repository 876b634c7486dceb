use Rattle.std.proofs.Common.{◌≡◌, ◌∷◌, ◌++◌, [], sym, ap, ◌∙◌}
use Rattle.std.proofs.lemmas.List.{map_push}
use Rattle.bench_text.specs.inner.Stated.{names}
use Rattle.bench_text.proofs.FormLemmas.{pins-no_word, pins-none, pins-start, pins-fail, pins-fail_word, pins-end, pins-step}
use Rattle.bench_text.proofs.statements.pins.Goals as goal

pub returns-then-not-closes : goal.returns-then-not-closes
returns-then-not-closes c = sym (pins-no_word _ c.in_default.ensures.next c.if-not-closes.ensures)

pub returns-in_default : goal.returns-in_default
returns-in_default c = rw c.new-pins.ensures.items (sym (pins-none _ c.if-not-closes.ensures))

pub pins-init : goal.pins-init
pins-init c =
    let e : c.push.new.self.items ≡ c.in-Some.first ∷ [] = c.in_ok-push.ensures.ok ∙ ap (λ l. l ++ c.in-Some.first ∷ []) c.new-pins.ensures.items in
    rw e (pins-start _ _ _ c.in-Some.ensures.next)

pub returns-in_default-word_at : goal.returns-in_default-word_at
returns-in_default-word_at c = sym (pins-fail_word _ _ _ c.pins.invariant _ c.in-Some-mark_at.ensures.next c.in_default-word_at.ensures.next)

pub pins-preserved : goal.pins-preserved
pins-preserved c =
    let pin = c.in-Some-word_at.pin in
    let e : names c.push-in-Some-mark_at.new.self.items ≡ names c.pins.pins.items ++ pin.now ∷ [] = rw c.in_ok-push-2.ensures.ok (map_push _ c.pins.pins.items pin) in
    rw e (pins-step _ _ _ c.pins.invariant _ _ _ c.in-Some-mark_at.ensures.next c.in-Some-word_at.ensures.next)

pub returns-then-not-closes-2 : goal.returns-then-not-closes-2
returns-then-not-closes-2 c = sym (pins-fail _ _ _ c.pins.invariant c.in_default-mark_at.ensures.next c.if-not-closes-2.ensures)

pub returns : goal.returns
returns c = sym (pins-end _ _ _ c.pins.invariant c.if-not-closes-2.ensures)
