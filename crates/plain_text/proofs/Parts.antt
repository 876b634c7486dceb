-- Texts that begin or end with a word, and texts in two parts at a byte.
use Rattle.std.proofs.Common.{◌≡◌, ◌≢◌, ℕ, suc, ◌+◌, ◌-◌, ◌<◌, true, false, List, [], ◌∷◌, ◌++◌, length, take, drop, get_or, refl, sym, ◌∙◌, ap, nat_eq, arith, length-append}
use Rattle.std.proofs.Math.Seq.{drop-append_seam, drop-cons, take-append_seam}
use Rattle.std.proofs.lemmas.List.{take-append-drop}
use Rattle.std.proofs.lemmas.List.Elements.{All-head, All-tail}
use Rattle.std.specs.Cmp.Lexicographic.{other_text, pointwise, same_text}
use Rattle.std.specs.List.{All}

pub with_prefix : (xs p x : List ℕ) → pointwise nat_eq (take (length p) xs) p ≡ true → x ≡ drop (length p) xs → xs ≡ p ++ x
with_prefix xs p x same is =
    sym (take-append-drop (length p) xs)
    ∙ (ap (λ ys. ys ++ drop (length p) xs) (same_text (take (length p) xs) p (sym same)) ∙ ap (λ ys. p ++ ys) (sym is))

pub no_prefix : (xs p : List ℕ) → pointwise nat_eq (take (length p) xs) p ≡ false → (r : List ℕ) → xs ≢ p ++ r
no_prefix xs p other r e = other_text (take (length p) xs) p (sym other) (ap (take (length p)) e ∙ take-append_seam p r)

pub with_suffix : (xs s r : List ℕ) → pointwise nat_eq (drop (length xs - length s) xs) s ≡ true → r ≡ take (length xs - length s) xs → xs ≡ r ++ s
with_suffix xs s r same is =
    sym (take-append-drop (length xs - length s) xs)
    ∙ (ap (λ ys. take (length xs - length s) xs ++ ys) (same_text (drop (length xs - length s) xs) s (sym same)) ∙ ap (λ ys. ys ++ s) (sym is))

pub no_suffix : (xs s : List ℕ) → pointwise nat_eq (drop (length xs - length s) xs) s ≡ false → (r : List ℕ) → xs ≢ r ++ s
no_suffix xs s other r e =
    let size : length (r ++ s) - length s ≡ length r = omega (arith, length-append r s) in
    other_text (drop (length xs - length s) xs) s (sym other)
    (ap (λ ys. drop (length ys - length s) ys) e ∙ (ap (λ k. drop k (r ++ s)) size ∙ drop-append_seam r s))

-- parts at the first such byte
pub same_parts : (c : ℕ) (xs ys rs ss : List ℕ) → All (λ b. b ≢ c) xs → All (λ b. b ≢ c) ys → xs ++ c ∷ rs ≡ ys ++ c ∷ ss → (xs ≡ ys) × (rs ≡ ss)
same_parts c [] [] rs ss h k e = (refl, cc)
same_parts c [] (y ∷ ys) rs ss h k e = let same : y ≡ c = cc in absurd (All-head (λ b. b ≢ c) y ys k same)
same_parts c (x ∷ xs) [] rs ss h k e = let same : x ≡ c = cc in absurd (All-head (λ b. b ≢ c) x xs h same)
same_parts c (x ∷ xs) (y ∷ ys) rs ss h k e =
    let heads : x ≡ y = cc in
    let tails : xs ++ c ∷ rs ≡ ys ++ c ∷ ss = cc in
    let m = same_parts c xs ys rs ss (All-tail (λ b. b ≢ c) x xs h) (All-tail (λ b. b ≢ c) y ys k) tails in
    (ap (λ z. z ∷ xs) heads ∙ ap (λ zs. y ∷ zs) m.0, m.1)

pub byte_inside : (c : ℕ) (xs rs : List ℕ) → All (λ b. b ≢ c) (xs ++ c ∷ rs) → ⊥
byte_inside c [] rs h = All-head (λ b. b ≢ c) c rs h refl
byte_inside c (x ∷ xs) rs h = byte_inside c xs rs (All-tail (λ b. b ≢ c) x (xs ++ c ∷ rs) h)
