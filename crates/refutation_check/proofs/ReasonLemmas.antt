-- Whether a reason is contradicted, from what a check of it finds.
use Rattle.std.proofs.Common.{◌≡◌, ◌↔◌, ℕ, ◌+◌, ◌<◌, ◌≤◌, Bool, true, List, map, length, get_or, take, Some, refl, sym, ◌∙◌, ap, subst, arith}
use Rattle.std.specs.List.{All, Contains, slice_get}
use Rattle.std.proofs.lemmas.List.{take_all, get_or-map, length-map}
use Rattle.std.proofs.lemmas.List.Elements.{All-more}
use Rattle.std.proofs.lemmas.Option.{slice_get-get_or}
use Rattle.refutation.specs.declared.steps.Literal.{Literal}
use Rattle.refutation.specs.Steps.{Step}
use Rattle.refutation.specs.Refutations.{Told, IsNoneSo, IsLemmaBlocked, clauses}
use Rattle.refutation_check.specs.inner.Reasons.{AreWithin}

-- ---- all of a list

pub all_hold : {X : Type 0} (P : X → Type 0) (xs : List X) (i : ℕ) → length xs ≤ i → All P (take i xs) → (true ≡ true) ↔ All P xs
all_hold P xs i l h = ((λ _. subst (All P) (take_all i xs l) h), (λ _. refl))

pub all_more : {X : Type 0} (P : X → Type 0) (xs : List X) (i : ℕ) (x : X) (b : Bool) → i < length xs → x ≡ get_or xs i x → (b ≡ true) ↔ P x → b ≡ true → All P (take i xs) → All P (take (i + 1) xs)
all_more P xs i x b l e is on h = All-more P xs i x l h (subst P e (is.0 on))

pub lemma_there : (steps : List Step) (lemmas : List (List Literal)) (told : Told) (k : ℕ) (step : Step) (clause : List Literal) (b : Bool) → lemmas ≡ clauses steps → k < length steps
    → step ≡ get_or steps k step → clause ≡ step.clause → (b ≡ true) ↔ IsNoneSo told clause → (b ≡ true) ↔ IsLemmaBlocked lemmas told k
lemma_there steps lemmas told k step clause b e l is c none =
    let size : length lemmas ≡ length steps = ap length e ∙ length-map steps (λ (s : Step). s.clause) in
    let there : slice_get lemmas k ≡ Some clause =
    slice_get-get_or lemmas k clause (omega arith) ∙ ap (λ y. Some y) (ap (λ ls. get_or ls k clause) e ∙ (get_or-map (λ (s : Step). s.clause) steps k step clause l ∙ (ap (λ (s : Step). s.clause) (sym is) ∙ sym c))) in (
      (λ h. record { clause = clause; there = there; none = none.0 h }),
      (λ w. none.1 (subst (IsNoneSo told) (some_same (sym w.there ∙ there)) w.none)),
    ) where
      some_same : {x y : List Literal} → Some x ≡ Some y → x ≡ y
      some_same e = cc

pub mapped_contains : {X Y : Type 0} (g : X → Y) (xs : List X) (x : X) → Contains xs x → Contains (map g xs) (g x)
mapped_contains g xs x c = (c.0, (let e = length-map xs g in let l = c.1 in omega arith), get_or-map g xs c.0 x (g x) c.1 ∙ ap g c.2)

pub within_at : (steps : List Step) (count k : ℕ) (step : Step) (clause : List Literal) → All (AreWithin count) (clauses steps) → k < length steps → step ≡ get_or steps k step → clause ≡ step.clause
    → AreWithin count clause
within_at steps count k step clause h l is c =
    let size = length-map steps (λ (s : Step). s.clause) in
    subst (AreWithin count) (get_or-map (λ (s : Step). s.clause) steps k step clause l ∙ (ap (λ (s : Step). s.clause) (sym is) ∙ sym c)) (h k clause (omega arith))
