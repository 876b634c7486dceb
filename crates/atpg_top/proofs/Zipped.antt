-- A text that is made of two lists side by side.
use Rattle.std.proofs.Common.{◌≡◌, ℕ, zero, suc, ◌+◌, ◌≤◌, List, [], ◌∷◌, ◌++◌, Some, length, get_or, take, drop, sym, ◌∙◌, ap, arith, add-one, append_assoc, append-nil}
use Rattle.std.specs.List.{flat_map, slice_get, zip}
use Rattle.std.proofs.lemmas.Grind.{flat_map-append}
use Rattle.std.proofs.lemmas.Slice.Zip.{length-zip}
use Rattle.std.proofs.lemmas.List.{take_all, take-append-drop}

next : {X : Type 0} (f : X × ℕ → List ℕ) (xs : List X) (ks : List ℕ) (i : ℕ) (x : X) → length ks ≡ length xs → slice_get xs i ≡ Some x
    → flat_map f (take (suc i) (zip xs ks)) ≡ flat_map f (take i (zip xs ks)) ++ f (x, get_or ks i 0)
next f [] ks i x size at = absurd (cc)
next f (y ∷ xs) [] i x size at = absurd (omega arith)
next f (y ∷ xs) (k ∷ ks) zero x size at = (let same : y ≡ x = cc in append-nil (f (y, k)) ∙ ap (λ z. f (z, k)) same)
next f (y ∷ xs) (k ∷ ks) (suc i) x size at =
    ap (λ t. f (y, k) ++ t) (next f xs ks i x (omega arith) at) ∙ sym (append_assoc (f (y, k)) (flat_map f (take i (zip xs ks))) (f (x, get_or ks i 0)))

-- one more pair
pub one_more : {X : Type 0} (f : X × ℕ → List ℕ) (xs : List X) (ks : List ℕ) (i : ℕ) (x : X) (start : List ℕ) → length ks ≡ length xs → slice_get xs i ≡ Some x
    → (start ++ flat_map f (take i (zip xs ks))) ++ f (x, get_or ks i 0) ≡ start ++ flat_map f (take (i + 1) (zip xs ks))
one_more f xs ks i x start size at =
    append_assoc start (flat_map f (take i (zip xs ks))) (f (x, get_or ks i 0))
    ∙ rw add-one (ap (λ t. start ++ t) (sym (next f xs ks i x size at)))

-- the text is what comes of the first pairs and then of the others
pub then_others : {X : Type 0} (f : X × ℕ → List ℕ) (ps : List (X × ℕ)) (i : ℕ) (start : List ℕ)
    → (start ++ flat_map f (take i ps)) ++ flat_map f (drop i ps) ≡ start ++ flat_map f ps
then_others f ps i start =
    append_assoc start (flat_map f (take i ps)) (flat_map f (drop i ps))
    ∙ ap (λ t. start ++ t) (sym (flat_map-append f (take i ps) (drop i ps)) ∙ ap (flat_map f) (take-append-drop i ps))

pub all_taken : {X : Type 0} (f : X × ℕ → List ℕ) (xs : List X) (ks : List ℕ) (i : ℕ) (start : List ℕ) → length ks ≡ length xs → length xs ≤ i
    → start ++ flat_map f (take i (zip xs ks)) ≡ start ++ flat_map f (zip xs ks)
all_taken f xs ks i start size past =
    let few : length (zip xs ks) ≤ i = omega (arith, length-zip xs ks) in
    ap (λ ps. start ++ flat_map f ps) (take_all i (zip xs ks) few)
