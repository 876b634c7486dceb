-- What stands at the known inputs, one input after the other.
use Rattle.std.proofs.Common.{◌≡◌, ◌≤◌, ℕ, zero, suc, ◌+◌, Bool, true, false, cond, List, [], ◌∷◌, ◌++◌, length, map, take, Some, refl, sym, ◌∙◌, ap, add-one}
use Rattle.std.specs.Prelude.{slice_index_or}
use Rattle.std.specs.List.{slice_get}
use Rattle.std.proofs.lemmas.List.{map-append, take_all}
use Rattle.unknown_inputs.specs.Unknowns.{Unknowns, known_part}

-- what stands at an input, unless it is left out
abbrev pub one_known : {V : Type 0} → Bool → V → List V
one_known left_out v = cond left_out [] (v ∷ [])

pub known_none : {V : Type 0} (us : Unknowns) → known_part {V = V} us [] ≡ []
known_none [] = refl
known_none (u ∷ us) = refl

pub next_taken : {V : Type 0} (vs : List V) (k : ℕ) (v : V) → slice_get vs k ≡ Some v → take (suc k) vs ≡ take k vs ++ v ∷ []
next_taken [] k v e = cc
next_taken (w ∷ vs) zero v e = let same : w ≡ v = cc in ap (λ z. z ∷ []) same
next_taken (w ∷ vs) (suc k) v e = ap (λ zs. w ∷ zs) (next_taken vs k v e)

pub more_taken : {V : Type 0} (vs : List V) (k : ℕ) (v : V) → slice_get vs k ≡ Some v → take (k + 1) vs ≡ take k vs ++ v ∷ []
more_taken vs k v e = ap (λ i. take i vs) (add-one k) ∙ next_taken vs k v e

known_next : {V : Type 0} (us : Unknowns) (vs : List V) (k : ℕ) (v : V) → slice_get vs k ≡ Some v
    → known_part us (take (suc k) vs) ≡ known_part us (take k vs) ++ one_known (slice_index_or us k false) v
known_next [] vs k v e = next_taken vs k v e
known_next (u ∷ us) [] k v e = cc
known_next {V} (true ∷ us) (w ∷ vs) zero v e = known_none {V = V} us
known_next {V} (false ∷ us) (w ∷ vs) zero v e = let same : w ≡ v = cc in ap (λ zs. w ∷ zs) (known_none {V = V} us) ∙ ap (λ z. z ∷ []) same
known_next (true ∷ us) (w ∷ vs) (suc k) v e = known_next us vs k v e
known_next (false ∷ us) (w ∷ vs) (suc k) v e = ap (λ zs. w ∷ zs) (known_next us vs k v e)

-- one input more
pub known_more : {V : Type 0} (us : Unknowns) (vs : List V) (k : ℕ) (v : V) → slice_get vs k ≡ Some v
    → known_part us (take (k + 1) vs) ≡ known_part us (take k vs) ++ one_known (slice_index_or us k false) v
known_more us vs k v e = ap (λ i. known_part us (take i vs)) (add-one k) ∙ known_next us vs k v e

map_one : {V W : Type 0} (f : V → W) (b : Bool) (v : V) → map f (one_known b v) ≡ one_known b (f v)
map_one f true v = refl
map_one f false v = refl

-- the same of what is said of each
pub mapped_more : {V W : Type 0} (f : V → W) (us : Unknowns) (vs : List V) (k : ℕ) (v : V) (old : List W) (w : W) (left_out : Bool) (new : List W) → slice_get vs k ≡ Some v
    → old ≡ map f (known_part us (take k vs)) → w ≡ f v → left_out ≡ slice_index_or us k false → new ≡ old ++ one_known left_out w → new ≡ map f (known_part us (take (k + 1) vs))
mapped_more f us vs k v old w left_out new at o is out n =
    n ∙ (ap (λ ws. ws ++ one_known left_out w) o ∙ (ap (λ x. map f (known_part us (take k vs)) ++ one_known left_out x) is
    ∙ (ap (λ b. map f (known_part us (take k vs)) ++ one_known b (f v)) out
    ∙ (ap (λ ws. map f (known_part us (take k vs)) ++ ws) (sym (map_one f (slice_index_or us k false) v))
    ∙ (sym (map-append f (known_part us (take k vs)) (one_known (slice_index_or us k false) v)) ∙ ap (map f) (sym (known_more us vs k v at)))))))

pub mapped_all : {V W : Type 0} (f : V → W) (us : Unknowns) (vs : List V) (k : ℕ) (made : List W) → length vs ≤ k → made ≡ map f (known_part us (take k vs))
    → made ≡ map f (known_part us vs)
mapped_all f us vs k made all is = is ∙ ap (λ zs. map f (known_part us zs)) (take_all k vs all)

pub plain_more : {V : Type 0} (us : Unknowns) (vs : List V) (k : ℕ) (v : V) (old new : List V) (left_out : Bool) → slice_get vs k ≡ Some v
    → old ≡ known_part us (take k vs) → left_out ≡ slice_index_or us k false → new ≡ old ++ one_known left_out v → new ≡ known_part us (take (k + 1) vs)
plain_more us vs k v old new left_out at o out n =
    n ∙ (ap (λ ws. ws ++ one_known left_out v) o ∙ (ap (λ b. known_part us (take k vs) ++ one_known b v) out ∙ sym (known_more us vs k v at)))

pub plain_all : {V : Type 0} (us : Unknowns) (vs : List V) (k : ℕ) (made : List V) → length vs ≤ k → made ≡ known_part us (take k vs) → made ≡ known_part us vs
plain_all us vs k made all is = is ∙ ap (known_part us) (take_all k vs all)
