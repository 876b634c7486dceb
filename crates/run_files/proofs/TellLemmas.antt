-- Verdicts told class by class.
use Rattle.std.proofs.Common.{◌≡◌, ◌≢◌, ℕ, ◌+◌, ◌<◌, ◌≤◌, List, length, get_or, None, Option, sym, ap, ◌∙◌, arith, below_more, get_or-set_other, get_or-set_same}
use Rattle.std.specs.Prelude.{slice_set}
use Rattle.statement.specs.declared.lines.Point.{Point}
use Rattle.list_core.specs.declared.verdicts.Verdict.{Verdict}
use Rattle.list_core.specs.declared.verdicts.Verdict.TheVariants.{Open}
use Rattle.list_core.specs.Verdicts.{verdict_at}
use Rattle.run_files.specs.inner.Often.{told_verdict}

-- one class more is told
pub told_more : (last : List (Option (ℕ × Point))) (first old new : List Verdict) (i : ℕ) (known : Option (ℕ × Point))
    → get_or last i None ≡ known → i < length old → new ≡ slice_set old i (told_verdict known (verdict_at old i))
    → ((c : ℕ) → c < i → verdict_at old c ≡ told_verdict (get_or last c None) (verdict_at first c))
    → ((c : ℕ) → i ≤ c → verdict_at old c ≡ verdict_at first c)
    → (c : ℕ) → c < i + 1 → verdict_at new c ≡ told_verdict (get_or last c None) (verdict_at first c)
told_more last first old new i known at within is before others =
    below_more (λ c. verdict_at new c ≡ told_verdict (get_or last c None) (verdict_at first c)) i
    (λ c lt.
    let ne : c ≢ i = (λ e. absurd (omega (arith, lt, e))) in
    ap (λ vs. verdict_at vs c) is ∙ (get_or-set_other old i c (told_verdict known (verdict_at old i)) Open ne ∙ before c lt))
    (ap (λ vs. verdict_at vs i) is ∙ (get_or-set_same old i (told_verdict known (verdict_at old i)) Open within
    ∙ (ap (λ l. told_verdict l (verdict_at old i)) (sym at) ∙ ap (λ v. told_verdict (get_or last i None) v) (others i (omega arith)))))

-- the others stay
pub untold_stay : (first old new : List Verdict) (i : ℕ) (v : Verdict) → new ≡ slice_set old i v
    → ((c : ℕ) → i ≤ c → verdict_at old c ≡ verdict_at first c) → (c : ℕ) → i + 1 ≤ c → verdict_at new c ≡ verdict_at first c
untold_stay first old new i v is before c lt =
    let ne : c ≢ i = (λ e. absurd (omega (arith, lt, e))) in
    ap (λ vs. verdict_at vs c) is ∙ (get_or-set_other old i c v Open ne ∙ before c (omega (arith, lt)))
