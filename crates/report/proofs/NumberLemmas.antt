-- Lines of counts and shares.
use Rattle.std.proofs.Common.{◌≡◌, ◌≢◌, ℕ, zero, suc, ◌+◌, ◌*◌, ◌/◌, ◌%◌, ◌^◌, ◌<◌, List, [], ◌∷◌, ◌++◌, length, get_or, Some, refl, sym, ◌∙◌, ap, subst, codes, decimal, append_assoc, arith}
use Rattle.std.specs.List.{All, slice_get}
use Rattle.std.proofs.lemmas.Fmt.{decimal_digit, decimal_injective}
use Rattle.std.proofs.lemmas.List.{append-nil}
use Rattle.std.proofs.lemmas.List.Elements.{All-head, All-nil, All-tail}
use Rattle.plain_text.proofs.Parts.{byte_inside, same_parts}
use Rattle.report.specs.Texts.{count_line, hundredths, share_line, some_line}
use Rattle.report.specs.inner.Counts.{some_counts}
use Rattle.report.specs.Beginnings.{Begins, NoneBegins, IsCount, IsShare}
use Rattle.report.specs.inner.Lines.{NoSome, SomeBegins, count_end, share_end}
use Rattle.report.proofs.ByteLemmas.{Above, above_append, above_cons, above_lacks, above_less, number_above}
use Rattle.report.proofs.LineLemmas.{IsLined, IsTold, behind_told, line_told}

-- counts
pub count_lined : IsLined IsCount decimal count_end
count_lined = record { end = λ k. refl; whole = λ k v. above_lacks 47 10 (decimal k) (omega arith) (number_above k v) }

pub count_told : (word : List ℕ) → IsTold IsCount (count_line word)
count_told word =
    behind_told IsCount word count_end
    (line_told IsCount decimal count_end count_lined (λ x y v w e. decimal_injective x y v w e))

-- a line that stands only where its count isn't 0
pub some_told : (word : List ℕ) (k l : ℕ) (r s : List ℕ) → IsCount k → IsCount l → (k ≡ 0 → NoSome word r) → (l ≡ 0 → NoSome word s)
    → some_line word k ++ r ≡ some_line word l ++ s → (k ≡ l) × (r ≡ s)
some_told word zero zero r s v w n m e = (refl, e)
some_told word zero (suc l) r s v w n m e = absurd (n refl (suc l) s (omega arith, w) e)
some_told word (suc k) zero r s v w n m e = absurd (m refl (suc k) r (omega arith, v) (sym e))
some_told word (suc k) (suc l) r s v w n m e = count_told word (suc k) (suc l) r s v w e

pub some_found : (word text rest : List ℕ) (k : ℕ) → 0 < k → Begins IsCount (count_line word) text k rest → SomeBegins word text k rest
some_found word text rest zero some is = absurd (omega arith)
some_found word text rest (suc k) some is = (is, λ none. absurd (omega arith))

pub no_some : (word text : List ℕ) → NoneBegins IsCount (count_line word) text → SomeBegins word text 0 text
no_some word text none = ((omega arith, refl), λ is k rest v e. none k rest v.1 e)

pub only_zero : (word text after : List ℕ) (k : ℕ) → k ≡ 0 → Begins IsCount (count_line word) text k after → SomeBegins word text 0 text
only_zero word text after k none is =
    ((omega arith, refl), λ same l rest v e. let told = (count_told word k l after rest is.0 v.1 (sym is.1 ∙ e)).0 in omega arith)

pub counts_told : (ws : List (List ℕ)) (cs ds r s : List ℕ) → length cs ≡ length ws → length ds ≡ length ws → All IsCount cs → All IsCount ds
    → some_counts ws cs ++ r ≡ some_counts ws ds ++ s → (cs ≡ ds) × (r ≡ s)
counts_told [] [] [] r s a b v w e = (refl, e)
counts_told [] [] (d ∷ ds) r s a b v w e = absurd (omega arith)
counts_told [] (c ∷ cs) ds r s a b v w e = absurd (omega arith)
counts_told (x ∷ ws) [] ds r s a b v w e = absurd (omega arith)
counts_told (x ∷ ws) (c ∷ cs) [] r s a b v w e = absurd (omega arith)
counts_told (x ∷ ws) (c ∷ cs) (d ∷ ds) r s a b v w e =
    let first = count_told x c d (some_counts ws cs ++ r) (some_counts ws ds ++ s) (All-head IsCount c cs v) (All-head IsCount d ds w)
    (sym (append_assoc (count_line x c) (some_counts ws cs) r) ∙ (e ∙ append_assoc (count_line x d) (some_counts ws ds) s)) in
    let others = counts_told ws cs ds r s (omega arith) (omega arith) (All-tail IsCount c cs v) (All-tail IsCount d ds w) first.1 in
    (ap (λ k. k ∷ cs) first.0 ∙ ap (λ ks. d ∷ ks) others.0, others.1)

-- the line of the next word is no count's
pub no_counts : (ws : List (List ℕ)) (found cs rest r w : List ℕ) → slice_get ws (length found) ≡ Some w → length found < length cs
    → All IsCount found → All IsCount cs → NoneBegins IsCount (count_line w) rest → some_counts ws found ++ rest ≢ some_counts ws cs ++ r
no_counts [] found cs rest r w p l v u none e = cc
no_counts (x ∷ ws) [] [] rest r w p l v u none e = absurd (omega arith)
no_counts (x ∷ ws) [] (c ∷ cs) rest r w p l v u none e =
    let same : x ≡ w = cc in
    none c (some_counts ws cs ++ r) (All-head IsCount c cs u)
    (e ∙ (append_assoc (count_line x c) (some_counts ws cs) r ∙ ap (λ y. count_line y c ++ (some_counts ws cs ++ r)) same))
no_counts (x ∷ ws) (d ∷ found) [] rest r w p l v u none e = absurd (omega arith)
no_counts (x ∷ ws) (d ∷ found) (c ∷ cs) rest r w p l v u none e =
    let first = count_told x d c (some_counts ws found ++ rest) (some_counts ws cs ++ r) (All-head IsCount d found v) (All-head IsCount c cs u)
    (sym (append_assoc (count_line x d) (some_counts ws found) rest) ∙ (e ∙ append_assoc (count_line x c) (some_counts ws cs) r)) in
    no_counts ws found cs rest r w p (omega arith) (All-tail IsCount d found v) (All-tail IsCount c cs u) none first.1

-- one count more
counts_none : (ws : List (List ℕ)) → some_counts ws [] ≡ []
counts_none [] = refl
counts_none (w ∷ ws) = refl

counts_more : (ws : List (List ℕ)) (cs w : List ℕ) (c : ℕ) → slice_get ws (length cs) ≡ Some w → some_counts ws (cs ++ c ∷ []) ≡ some_counts ws cs ++ count_line w c
counts_more [] cs w c p = cc
counts_more (x ∷ ws) [] w c p =
    let same : x ≡ w = cc in
    ap (λ t. count_line x c ++ t) (counts_none ws) ∙ (append-nil (count_line x c) ∙ ap (λ y. count_line y c) same)
counts_more (x ∷ ws) (d ∷ cs) w c p =
    ap (λ t. count_line x d ++ t) (counts_more ws cs w c p) ∙ sym (append_assoc (count_line x d) (some_counts ws cs) (count_line w c))

pub next_count_read : (ws : List (List ℕ)) (cs ds w text rest after : List ℕ) (c : ℕ) → slice_get ws (length cs) ≡ Some w → text ≡ some_counts ws cs ++ rest
    → rest ≡ count_line w c ++ after → ds ≡ cs ++ c ∷ [] → text ≡ some_counts ws ds ++ after
next_count_read ws cs ds w text rest after c p t e d =
    t ∙ (ap (λ u. some_counts ws cs ++ u) e ∙ (sym (append_assoc (some_counts ws cs) (count_line w c) after)
    ∙ ap (λ u. u ++ after) (sym (counts_more ws cs w c p) ∙ ap (some_counts ws) (sym d))))

-- shares
hundredths_is : (n : ℕ) → hundredths n ≡ decimal (n / 100) ++ 46 ∷ (48 + n / 10 % 10) ∷ (48 + n % 10) ∷ []
hundredths_is n =
    ap (λ t. decimal (n / 100) ++ (codes "." ++ t))
    (ap (λ t. t ++ decimal (n % 10)) (decimal_digit (n / 10 % 10) (omega arith)) ∙ ap (λ t. (48 + n / 10 % 10) ∷ t) (decimal_digit (n % 10) (omega arith)))

share_whole : (n : ℕ) → IsShare n → All (λ b. b ≢ 10) (hundredths n)
share_whole n v =
    above_lacks 45 10 (hundredths n) (omega arith)
    (subst (Above 45) (sym (hundredths_is n))
    (above_append 45 (decimal (n / 100)) (46 ∷ (48 + n / 10 % 10) ∷ (48 + n % 10) ∷ []) (above_less 47 45 (decimal (n / 100)) (omega arith) (number_above (n / 100) v))
    (above_cons 45 46 ((48 + n / 10 % 10) ∷ (48 + n % 10) ∷ []) (omega arith) (above_cons 45 (48 + n / 10 % 10) ((48 + n % 10) ∷ []) (omega arith) (above_cons 45 (48 + n % 10) [] (omega arith) (All-nil (λ b. 45 < b)))))))

pub share_lined : IsLined IsShare hundredths share_end
share_lined = record { end = λ n. refl; whole = share_whole }

whole_lacks : (n : ℕ) → IsShare n → All (λ b. b ≢ 46) (decimal (n / 100))
whole_lacks n v = above_lacks 47 46 (decimal (n / 100)) (omega arith) (number_above (n / 100) v)

-- a share in two parts at its point
module _ (text front digits : List ℕ) (lacks : All (λ b. b ≢ 46) front) (is : text ≡ front ++ 46 ∷ digits) where
  share_parts : (n : ℕ) → IsShare n → text ≡ hundredths n → (front ≡ decimal (n / 100)) × (digits ≡ (48 + n / 10 % 10) ∷ (48 + n % 10) ∷ [])
  share_parts n v e =
      same_parts 46 front (decimal (n / 100)) digits ((48 + n / 10 % 10) ∷ (48 + n % 10) ∷ []) lacks (whole_lacks n v) (sym is ∙ (e ∙ hundredths_is n))

  pub no_whole : ((k : ℕ) → k < 2 ^ 64 → front ≢ decimal k) → (n : ℕ) → IsShare n → text ≢ hundredths n
  no_whole none n v e = none (n / 100) v (share_parts n v e).0

  pub no_digits : ((tens ones : ℕ) → tens < 10 → ones < 10 → digits ≢ (48 + tens) ∷ (48 + ones) ∷ []) → (n : ℕ) → IsShare n → text ≢ hundredths n
  no_digits none n v e = none (n / 10 % 10) (n % 10) (omega arith) (omega arith) (share_parts n v e).1

  pub share_found : (whole part : ℕ) → whole < 2 ^ 64 → part < 100 → front ≡ decimal whole → digits ≡ (48 + part / 10) ∷ (48 + part % 10) ∷ []
      → IsShare (whole * 100 + part) × (text ≡ hundredths (whole * 100 + part))
  share_found whole part small less w d =
      let high : (whole * 100 + part) / 100 ≡ whole = omega arith in
      let tens : (whole * 100 + part) / 10 % 10 ≡ part / 10 = omega arith in
      let ones : (whole * 100 + part) % 10 ≡ part % 10 = omega arith in (
        omega arith,
        is ∙ (ap (λ t. t ++ 46 ∷ digits) (w ∙ ap decimal (sym high)) ∙ (ap (λ t. decimal ((whole * 100 + part) / 100) ++ 46 ∷ t)
            (d ∙ (ap (λ t. (48 + t) ∷ (48 + part % 10) ∷ []) (sym tens) ∙ ap (λ t. (48 + (whole * 100 + part) / 10 % 10) ∷ (48 + t) ∷ []) (sym ones)))
            ∙ sym (hundredths_is (whole * 100 + part)))),
      )

pub no_point : (text : List ℕ) → All (λ b. b ≢ 46) text → (n : ℕ) → IsShare n → text ≢ hundredths n
no_point text none n v e = byte_inside 46 (decimal (n / 100)) ((48 + n / 10 % 10) ∷ (48 + n % 10) ∷ []) (subst (All (λ b. b ≢ 46)) (e ∙ hundredths_is n) none)

share_same : (n m : ℕ) → IsShare n → IsShare m → hundredths n ≡ hundredths m → n ≡ m
share_same n m v w e =
    let p = share_parts (hundredths m) (decimal (m / 100)) ((48 + m / 10 % 10) ∷ (48 + m % 10) ∷ []) (whole_lacks m w) (hundredths_is m) n v (sym e) in
    let whole : m / 100 ≡ n / 100 = decimal_injective (m / 100) (n / 100) w v p.0 in
    let tens : 48 + m / 10 % 10 ≡ 48 + n / 10 % 10 = ap (λ xs. get_or xs 0 0) p.1 in
    let ones : 48 + m % 10 ≡ 48 + n % 10 = ap (λ xs. get_or xs 1 0) p.1 in
    omega arith

pub share_told : (word : List ℕ) → IsTold IsShare (share_line word)
share_told word =
    behind_told IsShare word share_end (line_told IsShare hundredths share_end share_lined share_same)
