-- The lines of a text.
use Rattle.std.proofs.Common.{◌≡◌, ◌<◌, ◌≤◌, ◌+◌, ℕ, suc, Bool, true, false, not, cond, List, [], ◌∷◌, length, take, drop, refl, sym, ap, ◌∙◌, arith, ⊎_elim, take_all, drop-drop}
use Rattle.std.specs.Prelude.{Option, Some, None, nat_lt, position, ◌==◌}
use Rattle.std.specs.List.{prefix_len, onto_first}
use Rattle.std.proofs.lemmas.Bool.Decides.{nat_tests}
use Rattle.std.proofs.lemmas.List.{at_drop_all}
use Rattle.std.proofs.lemmas.List.Sums.{position_or_len_is}
use Rattle.memchr.specs.Find.{IsFirstByte, is_byte}
use Rattle.bench_text.specs.Bytes.{lines}
use Rattle.bench_text.proofs.Lists.{false_if}
use Rattle.bench_text.proofs.Runs.{either}
use Rattle.bench_text.proofs.LineLemmas.{no_place}

abbrev is_other : ℕ → Bool
is_other b = not (b == 10)

pub lines-end : (b : ℕ) (bs : List ℕ) → (b == 10) ≡ true → lines (b ∷ bs) ≡ [] ∷ lines bs
unfolding lines
lines-end b bs h = rw h refl

pub lines-more : (b : ℕ) (bs : List ℕ) → (b == 10) ≡ false → lines (b ∷ bs) ≡ onto_first b (lines bs)
unfolding lines
lines-more b bs h = rw h refl

pub lines-none : lines [] ≡ []
unfolding lines
lines-none = refl

-- the first line ends at the first LF
pub lines-cut : (bs : List ℕ) → prefix_len is_other bs < length bs → lines bs ≡ take (prefix_len is_other bs) bs ∷ lines (drop (prefix_len is_other bs + 1) bs)
lines-cut [] h = absurd (omega arith)
lines-cut (b ∷ bs) h = ⊎_elim
    (λ (t : (b == 10) ≡ true). rw t (lines-end b bs t))
    (λ (f : (b == 10) ≡ false).
    let n : prefix_len is_other (b ∷ bs) ≡ suc (prefix_len is_other bs) = rw f (omega arith) in
    let m : suc (prefix_len is_other bs) + 1 ≡ suc (prefix_len is_other bs + 1) = omega arith in
    rw (n, m) (lines-more b bs f ∙ ap (onto_first b) (lines-cut bs (omega (arith, n)))))
    (either (b == 10))

-- or, where there is none, is all
pub lines-last : (bs : List ℕ) → length bs ≤ prefix_len is_other bs → 0 < length bs → lines bs ≡ bs ∷ []
lines-last [] h k = absurd (omega arith)
lines-last (b ∷ []) h k = ⊎_elim
    (λ (t : (b == 10) ≡ true). let n : prefix_len is_other (b ∷ []) ≡ 0 = rw t refl in absurd (omega (arith, n)))
    (λ (f : (b == 10) ≡ false). lines-more b [] f ∙ ap (onto_first b) lines-none)
    (either (b == 10))
lines-last (b ∷ c ∷ bs) h k = ⊎_elim
    (λ (t : (b == 10) ≡ true). let n : prefix_len is_other (b ∷ c ∷ bs) ≡ 0 = rw t refl in absurd (omega (arith, n)))
    (λ (f : (b == 10) ≡ false).
    let n : prefix_len is_other (b ∷ c ∷ bs) ≡ 1 + prefix_len is_other (c ∷ bs) = rw f refl in
    lines-more b (c ∷ bs) f ∙ ap (onto_first b) (lines-last (c ∷ bs) (omega (arith, n)) (omega arith)))
    (either (b == 10))

pub some_place : (b : Bool) (n i : ℕ) → cond b (Some n) None ≡ Some i → (b ≡ true) × (n ≡ i)
some_place true n i e = (refl, cc)
some_place false n i e = cc

pub place-below : (n m : ℕ) → nat_lt n m ≡ true → n < m
place-below n m h = grind (arith, nat_tests)

-- the first line, in the words of the code
pub cut_at : (bs : List ℕ) (i : ℕ) (a b c : List ℕ) → Some i ≡ position (λ x. x == 10) bs → a ≡ take i bs → b ≡ drop i bs → c ≡ drop 1 b → lines bs ≡ a ∷ lines c
cut_at bs i a b c e f g h =
    let p = some_place (nat_lt (prefix_len is_other bs) (length bs)) (prefix_len is_other bs) i (sym e) in
    let below = place-below _ _ p.0 in
    let rest : c ≡ drop (prefix_len is_other bs + 1) bs = h ∙ ap (drop 1) (g ∙ ap (λ n. drop n bs) (sym p.1)) ∙ drop-drop 1 (prefix_len is_other bs) bs in
    lines-cut bs below ∙ (λ j. take (p.1 j) bs ∷ lines (sym rest j)) ∙ ap (λ l. l ∷ lines c) (sym f)

pub all_at : (bs a c : List ℕ) → None ≡ position (λ x. x == 10) bs → 0 < length bs → a ≡ take (length bs) bs → c ≡ drop (length bs) bs → lines bs ≡ a ∷ lines c
all_at bs a c e k f g =
    let whole : a ≡ bs = f ∙ take_all (length bs) bs (omega arith) in
    let nothing : c ≡ [] = g ∙ at_drop_all (λ l. l) bs (length bs) (omega arith) in
    lines-last bs (no_place _ _ (sym e)) k ∙ (λ j. sym whole j ∷ sym (ap lines nothing ∙ lines-none) j)

-- what the search for a byte finds is its first place
found : (n m k : ℕ) → n ≡ k → k < m → Some k ≡ cond (nat_lt n m) (Some n) None
found n m k e h = let t : nat_lt n m ≡ true = grind (arith, nat_tests) in rw t (ap (λ i. Some i) (sym e))

missed : (n m : ℕ) → n ≡ m → None ≡ cond (nat_lt n m) (Some n) None
missed n m e = let f : nat_lt n m ≡ false = grind (arith, nat_tests) in rw f refl

pub first-place : (bs : List ℕ) (r : Option ℕ) → IsFirstByte (is_byte 10) bs r → r ≡ position (λ b. b == 10) bs
first-place bs None h =
    missed _ _ (position_or_len_is (λ b. b == 10) bs (length bs) 0 (omega arith) (λ k l. false_if _ (h k (omega arith) l)) (λ l. absurd (omega (arith, l))))
first-place bs (Some k) h =
    found _ _ k (position_or_len_is (λ b. b == 10) bs k 0 (omega (arith, h.0.high)) (λ j l. false_if _ (h.0.before j (omega arith) l)) (λ _. h.1)) h.0.high

-- a text has no more lines than bytes
onto-length : (b : ℕ) (ls : List (List ℕ)) → length (onto_first b ls) ≤ 1 + length ls
onto-length b [] = omega arith
onto-length b (l ∷ ls) = omega arith

pub lines-length : (bs : List ℕ) → length (lines bs) ≤ length bs
lines-length [] = omega (arith, ap length lines-none)
lines-length (b ∷ bs) = ⊎_elim
    (λ (t : (b == 10) ≡ true). omega (arith, ap length (lines-end b bs t), lines-length bs))
    (λ (f : (b == 10) ≡ false). omega (arith, ap length (lines-more b bs f), onto-length b (lines bs), lines-length bs))
    (either (b == 10))
