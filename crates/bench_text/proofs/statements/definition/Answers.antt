use Rattle.std.proofs.Common.{ℕ, List, Bor, sym, ap, ◌∙◌}
use Rattle.std.specs.Prelude.{option_map}
use Rattle.smallvec.specs.SmallVec.{SmallVec}
use Rattle.bench_text.specs.Keywords.{kind_of}
use Rattle.bench_text.specs.Forms.{Definition}
use Rattle.bench_text.specs.inner.Stated.{names}
use Rattle.bench_text.proofs.FormLemmas.{definition-no_word, definition-fails, definition-goes_on}
use Rattle.bench_text.proofs.statements.definition.Goals as goal

pub returns-in_default : goal.returns-in_default
returns-in_default c = sym (definition-no_word _ _ c.in_default.ensures.next)

pub returns-in_default-mark_at : goal.returns-in_default-mark_at
returns-in_default-mark_at c = sym (definition-fails _ _ _ _ c.in-Some.ensures.next c.in_default-mark_at.ensures.next)

pub returns-in-Some-2 : goal.returns-in-Some-2
returns-in-Some-2 c =
    let read = ap (option_map (λ (v : SmallVec (Bor (List ℕ))). names v.items)) (sym c.in-Some-2.is) ∙ c.in_ok-pins.ensures in
    rw c.kind_of.ensures (ap (option_map (λ xs. Definition c.args.name.now (kind_of c.in-Some.gate.now) xs)) read ∙ sym (definition-goes_on _ _ _ _ _ c.in-Some.ensures.next c.in-Some-mark_at.ensures.next))

pub returns-in-None : goal.returns-in-None
returns-in-None c =
    let read = ap (option_map (λ (v : SmallVec (Bor (List ℕ))). names v.items)) (sym c.in-None.is) ∙ c.in_ok-pins.ensures in
    ap (option_map (λ xs. Definition c.args.name.now (kind_of c.in-Some.gate.now) xs)) read ∙ sym (definition-goes_on _ _ _ _ _ c.in-Some.ensures.next c.in-Some-mark_at.ensures.next)
