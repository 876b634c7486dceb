-- The lines of a text, one by one.
use Rattle.std.proofs.Common.{◌≡◌, ◌≢◌, ◌<◌, ◌&&◌, ℕ, Bool, true, false, List, [], ◌∷◌, ◌++◌, length, refl, sym, ap, ◌∙◌, inl, inr, arith}
use Rattle.std.specs.Prelude.{◌==◌}
use Rattle.std.specs.List.{All, list_all, onto_first}
use Rattle.std.proofs.lemmas.Bool.Decides.{eqb_tells}
use Rattle.std.proofs.lemmas.List.Elements.{All-head, All-tail, All-weaker}
use Rattle.std.proofs.lemmas.List.Splits.{slice_split_at, slice_split_none}
use Rattle.bench_text.specs.Bytes.{lines}
use Rattle.bench_text.proofs.TextLemmas.{lines-end, lines-more, lines-none}
use Rattle.cell_order.specs.Orders.{words_of}

within : (b : ℕ) (bs : List ℕ) → b ≢ 10 → lines (b ∷ bs) ≡ onto_first b (lines bs)
within b bs other = elim (eqb_tells b 10) [
  | inl same ↦ absurd (other same.1)
  | inr differs ↦ lines-more b bs differs.0
]

-- the first line ends at the first LF
pub line_cut : (front rest : List ℕ) → All (λ b. b ≢ 10) front → lines (front ++ 10 ∷ rest) ≡ front ∷ lines rest
line_cut [] rest h = lines-end 10 rest refl
line_cut (b ∷ bs) rest h =
    within b (bs ++ 10 ∷ rest) (All-head (λ b. b ≢ 10) b bs h) ∙ ap (onto_first b) (line_cut bs rest (All-tail (λ b. b ≢ 10) b bs h))

-- or, where there is none, is all
pub line_last : (text : List ℕ) → All (λ b. b ≢ 10) text → 0 < length text → lines text ≡ text ∷ lines []
line_last [] h some = absurd (omega arith)
line_last (b ∷ []) h some = within b [] (All-head (λ b. b ≢ 10) b [] h) ∙ (ap (onto_first b) lines-none ∙ ap (λ ls. (b ∷ []) ∷ ls) (sym lines-none))
line_last (b ∷ c ∷ bs) h some =
    within b (c ∷ bs) (All-head (λ b. b ≢ 10) b (c ∷ bs) h) ∙ ap (onto_first b) (line_last (c ∷ bs) (All-tail (λ b. b ≢ 10) b (c ∷ bs) h) (omega arith))

-- ---- a test of all lines, one line more

module _ (test : List ℕ → Bool) (rest line after : List ℕ) (first : lines rest ≡ line ∷ lines after) where
  opened : list_all test (lines rest) ≡ test line && list_all test (lines after)
  opened = ap (list_all test) first

  pub all_line : (b : Bool) → b ≡ test line → b ≡ true → list_all test (lines rest) ≡ list_all test (lines after)
  all_line b is fine = opened ∙ ap (λ t. t && list_all test (lines after)) (sym is ∙ fine)

  pub bad_line : (b : Bool) → b ≡ test line → b ≡ false → list_all test (lines rest) ≡ false
  bad_line b is bad = opened ∙ ap (λ t. t && list_all test (lines after)) (sym is ∙ bad)

pub no_line : (test : List ℕ → Bool) (rest : List ℕ) → length rest ≡ 0 → list_all test (lines rest) ≡ true
no_line test [] e = ap (list_all test) lines-none
no_line test (b ∷ bs) e = absurd (omega arith)

-- ---- the words of a line, one word more

not_blank : (b : ℕ) → b ≢ 32 → (b == 32) ≡ false
not_blank b other = elim (eqb_tells b 32) [
  | inl same ↦ absurd (other same.1)
  | inr differs ↦ differs.0
]

pub word_cut : (front rest : List ℕ) → All (λ b. b ≢ 32) front → words_of (front ++ 32 ∷ rest) ≡ front ∷ words_of rest
word_cut front rest h = slice_split_at (λ b. b == 32) front 32 rest (All-weaker (λ b. b ≢ 32) (λ b. (b == 32) ≡ false) not_blank front h) refl

pub word_last : (line : List ℕ) → All (λ b. b ≢ 32) line → words_of line ≡ line ∷ []
word_last line h = slice_split_none (λ b. b == 32) line (All-weaker (λ b. b ≢ 32) (λ b. (b == 32) ≡ false) not_blank line h)

-- a test of all words
module _ (test : List ℕ → Bool) (rest word more : List ℕ) (first : words_of rest ≡ word ∷ words_of more) where
  opened_words : list_all test (words_of rest) ≡ test word && list_all test (words_of more)
  opened_words = ap (list_all test) first

  pub all_word : (b : Bool) → b ≡ test word → b ≡ true → list_all test (words_of rest) ≡ list_all test (words_of more)
  all_word b is fine = opened_words ∙ ap (λ t. t && list_all test (words_of more)) (sym is ∙ fine)

  pub bad_word : (b : Bool) → b ≡ test word → b ≡ false → list_all test (words_of rest) ≡ false
  bad_word b is bad = opened_words ∙ ap (λ t. t && list_all test (words_of more)) (sym is ∙ bad)

and_true : (b : Bool) → b && true ≡ b
and_true true = refl
and_true false = refl

pub one_word : (test : List ℕ → Bool) (line : List ℕ) → All (λ b. b ≢ 32) line → list_all test (words_of line) ≡ test line
one_word test line h = ap (list_all test) (word_last line h) ∙ and_true (test line)
