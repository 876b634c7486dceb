-- Texts compared one by one.
use Rattle.std.proofs.Common.{◌≡◌, ◌≤◌, ℕ, ◌+◌, List, [], ◌∷◌, ◌++◌, length, take, Some, sym, ◌∙◌, ap, add-one}
use Rattle.std.specs.List.{slice_get}
use Rattle.std.proofs.lemmas.List.{take_all}
use Rattle.known_tests.proofs.KnownParts.{next_taken}

take_at : (xs : List (List ℕ)) (k : ℕ) (x : List ℕ) → slice_get xs k ≡ Some x → take (k + 1) xs ≡ take k xs ++ x ∷ []
take_at xs k x e = ap (λ i. take i xs) (add-one k) ∙ next_taken xs k x e

pub more_same : (xs ys : List (List ℕ)) (k : ℕ) (x y : List ℕ) → slice_get xs k ≡ Some x → slice_get ys k ≡ Some y → x ≡ y → take k xs ≡ take k ys → take (k + 1) xs ≡ take (k + 1) ys
more_same xs ys k x y p q same so_far =
    take_at xs k x p ∙ (ap (λ zs. zs ++ x ∷ []) so_far ∙ (ap (λ z. take k ys ++ z ∷ []) same ∙ sym (take_at ys k y q)))

pub all_same : (xs ys : List (List ℕ)) (k : ℕ) → length xs ≤ k → length ys ≤ k → take k xs ≡ take k ys → xs ≡ ys
all_same xs ys k l m e = sym (take_all k xs l) ∙ (e ∙ take_all k ys m)

pub one_other : (xs ys : List (List ℕ)) (k : ℕ) (x y : List ℕ) → slice_get xs k ≡ Some x → slice_get ys k ≡ Some y → (x ≡ y → ⊥) → xs ≡ ys → ⊥
one_other xs ys k x y p q other e = other (let both : Some x ≡ Some y = sym p ∙ (ap (λ zs. slice_get zs k) e ∙ q) in cc)
