-- Lists by place, and their batches.
use Rattle.std.proofs.Common.{◌≡◌, ℕ, suc, zero, ◌+◌, ◌-◌, ◌<◌, ◌≤◌, min, List, [], ◌∷◌, length, take, drop, slice_get, refl, sym, ◌∙◌, ap, inl, inr, arith}
use Rattle.std.proofs.lemmas.Bool.{cases_lt}
use Rattle.std.proofs.lemmas.List.{length-drop, take_all}

pub take_get : {A : Type 0} (m : ℕ) (xs : List A) (j : ℕ) → j < m → slice_get (take m xs) j ≡ slice_get xs j
take_get zero xs j l = absurd (omega (arith, l))
take_get (suc m) [] j l = refl
take_get (suc m) (x ∷ xs) zero l = refl
take_get (suc m) (x ∷ xs) (suc j) l = take_get m xs j (omega (arith, l))

pub drop_get : {A : Type 0} (s : ℕ) (xs : List A) (j : ℕ) → slice_get (drop s xs) j ≡ slice_get xs (s + j)
drop_get zero xs j = ap (λ i. slice_get xs i) (let e : j ≡ zero + j = omega arith in e)
drop_get (suc s) [] j = refl
drop_get (suc s) (x ∷ xs) j = drop_get s xs j ∙ ap (λ i. slice_get (x ∷ xs) i) (let e : suc (s + j) ≡ suc s + j = omega arith in e)

-- the items from a place on, so many or as many as there are
pub batch_taken : {A : Type 0} (xs : List A) (start most count : ℕ) → start ≤ length xs → count ≡ min (length xs - start) most → take (start + count - start) (drop start xs) ≡ take most (drop start xs)
batch_taken xs start most count l e =
    let is : start + count - start ≡ count = omega arith in
    let size = length-drop start xs in
    ap (λ i. take i (drop start xs)) is ∙ elim (cases_lt (length xs - start) most) [
      | inl short ↦ take_all count (drop start xs) (omega (arith, e, size, short)) ∙ sym (take_all most (drop start xs) (omega (arith, size, short)))
      | inr long ↦ ap (λ i. take i (drop start xs)) (let same : count ≡ most = omega (arith, e, long) in same)
    ]
