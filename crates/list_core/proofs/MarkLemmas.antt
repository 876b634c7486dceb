-- Marks and verdicts, a class at a time.
use Rattle.std.proofs.Common.{zero, suc, ◌≡◌, ◌≢◌, ℕ, ◌+◌, ◌<◌, ◌≤◌, ◌==◌, ◌||◌, Bool, true, false, List, [], ◌∷◌, ◌++◌, length, take, get_or, Some, None, Option, refl, sym, ap, ◌∙◌, arith, below_more, get_or-set_other, get_or-set_same}
use Rattle.std.specs.List.{slice_get}
use Rattle.std.specs.Prelude.{slice_set}
use Rattle.statement.specs.declared.lines.Point.{Point}
use Rattle.list_core.specs.declared.verdicts.Verdict.{Verdict}
use Rattle.list_core.specs.declared.verdicts.Verdict.TheVariants.{Open}
use Rattle.list_core.specs.Verdicts.{verdict_at}
use Rattle.list_core.specs.Kept.{is_last_at}
use Rattle.list_core.specs.inner.Marks.{last_at, new_verdict}

or_assoc : (a b c : Bool) → ((a || b) || c) ≡ (a || (b || c))
or_assoc true b c = refl
or_assoc false b c = refl

last_append : (xs ys : List (Option (ℕ × Point))) (k : ℕ) → is_last_at (xs ++ ys) k ≡ (is_last_at xs k || is_last_at ys k)
last_append [] ys k = refl
last_append (None ∷ xs) ys k = last_append xs ys k
last_append (Some l ∷ xs) ys k = ap (λ b. (l.0 == k) || b) (last_append xs ys k) ∙ sym (or_assoc (l.0 == k) (is_last_at xs k) (is_last_at ys k))

next_take : {X : Type 0} (xs : List X) (i : ℕ) (x : X) → slice_get xs i ≡ Some x → take (suc i) xs ≡ take i xs ++ x ∷ []
next_take [] i x e = cc
next_take (y ∷ ys) zero x e = let same : y ≡ x = cc in ap (λ z. z ∷ []) same
next_take (y ∷ ys) (suc i) x e = ap (λ zs. y ∷ zs) (next_take ys i x e)

pub marks_more : (ls : List (Option (ℕ × Point))) (i : ℕ) (old new : List Bool) (class : Option (ℕ × Point)) → slice_get ls i ≡ Some class
    → ((k : ℕ) → get_or new k false ≡ (get_or old k false || is_last_at (class ∷ []) k))
    → ((k : ℕ) → get_or old k false ≡ is_last_at (take i ls) k)
    → (k : ℕ) → get_or new k false ≡ is_last_at (take (i + 1) ls) k
marks_more ls i old new class at step before k =
    let one : suc i ≡ i + 1 = omega arith in
    step k ∙ (ap (λ b. b || is_last_at (class ∷ []) k) (before k) ∙ (sym (last_append (take i ls) (class ∷ []) k)
    ∙ (ap (λ xs. is_last_at xs k) (sym (next_take ls i class at)) ∙ ap (λ j. is_last_at (take j ls) k) one)))

-- one class more is named
pub named_more : (ls : List (Option (ℕ × Point))) (first old new : List Verdict) (i : ℕ) (class : Option (ℕ × Point)) (marked : ℕ → Bool)
    → last_at ls i ≡ class → i < length old → new ≡ slice_set old i (new_verdict marked class (verdict_at old i))
    → ((c : ℕ) → c < i → verdict_at old c ≡ new_verdict marked (last_at ls c) (verdict_at first c))
    → ((c : ℕ) → i ≤ c → verdict_at old c ≡ verdict_at first c)
    → (c : ℕ) → c < i + 1 → verdict_at new c ≡ new_verdict marked (last_at ls c) (verdict_at first c)
named_more ls first old new i class marked at within is before others =
    below_more (λ c. verdict_at new c ≡ new_verdict marked (last_at ls c) (verdict_at first c)) i
    (λ c lt. let ne : c ≢ i = (λ e. absurd (omega (arith, lt, e))) in ap (λ vs. verdict_at vs c) is ∙ (get_or-set_other old i c (new_verdict marked class (verdict_at old i)) Open ne ∙ before c lt))
    (ap (λ vs. verdict_at vs i) is ∙ (get_or-set_same old i (new_verdict marked class (verdict_at old i)) Open within
    ∙ (ap (λ l. new_verdict marked l (verdict_at old i)) (sym at) ∙ ap (λ v. new_verdict marked (last_at ls i) v) (others i (omega arith)))))

pub others_stay : (first old new : List Verdict) (i : ℕ) (v : Verdict) → new ≡ slice_set old i v
    → ((c : ℕ) → i ≤ c → verdict_at old c ≡ verdict_at first c) → (c : ℕ) → i + 1 ≤ c → verdict_at new c ≡ verdict_at first c
others_stay first old new i v is before c lt =
    let ne : c ≢ i = (λ e. absurd (omega (arith, lt, e))) in
    ap (λ vs. verdict_at vs c) is ∙ (get_or-set_other old i c v Open ne ∙ before c (omega (arith, lt)))
