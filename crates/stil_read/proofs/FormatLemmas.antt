-- What stands at the front of a text, in the words of the format.
use Rattle.std.proofs.Common.{suc, zero, ◌≡◌, ◌≢◌, ℕ, Bool, true, false, if◌then◌else◌, List, [], ◌∷◌, ◌++◌, length, take, drop, refl, sym, ap, ◌∙◌, append_assoc, eq-eqb}
use Rattle.statement.specs.Benches.{Text}
use Rattle.stil_read.specs.declared.bytes.Class.{Class}
use Rattle.stil_read.specs.declared.bytes.Class.TheVariants as class
use Rattle.stil_read.specs.Tokens.{Spelled, Stray, Between, InQuotes, InLine, InBlock, class_of, tokens_from, tokens}
use Rattle.stil_read.specs.Format.{IsLongestRun, HasNoEnd, HasNo, TokensAreOfFormat}
use Rattle.stil_read.specs.inner.Shown.{goes_on, word_by, word_len, opens_comment, ends_block}
use Rattle.stil_read.proofs.TokenLemmas.{step_from, at_end, not_equal, at_gap, at_mark, at_star, at_other, line_end_at, line_more_at, block_place, block_more, block_end, open_block, word_len-more, word_len-none, word_none, IsWordFront, letter_front, slash_front, slash_47, comment_line, comment_block, tokens_none}

-- ---- words

run_len : (w rest : Text) → IsLongestRun w rest → word_len (w ++ rest) ≡ length w
run_len [] [] h = word_none
run_len [] (b ∷ bs) h = word_len-none b bs h
run_len (b ∷ bs) rest h = word_len-more b (bs ++ rest) h.0 ∙ ap suc (run_len bs rest h.1)

no_comment : (o : Bool) → (if o then false else true) ≡ true → o ≡ false
no_comment true h = cc
no_comment false h = refl

front_by : (kind : Class) (b : ℕ) (bs : Text) → class_of b ≡ kind → word_by kind bs ≡ true → IsWordFront (b ∷ bs)
front_by class.Letter b bs is h = letter_front b bs is
front_by class.Slash b bs is h = slash_front b bs is (no_comment (opens_comment bs) h)
front_by class.Gap b bs is h = cc
front_by class.Mark b bs is h = cc
front_by class.Quote b bs is h = cc
front_by class.Star b bs is h = cc
front_by class.Other b bs is h = cc

taken : (xs ys : Text) → take (length xs) (xs ++ ys) ≡ xs
taken [] ys = refl
taken (x ∷ xs) ys = ap (λ l. x ∷ l) (taken xs ys)

dropped : (xs ys : Text) → drop (length xs) (xs ++ ys) ≡ ys
dropped [] ys = refl
dropped (x ∷ xs) ys = dropped xs ys

word : (b : ℕ) (bs rest : Text) → IsLongestRun (b ∷ bs) rest → tokens (b ∷ (bs ++ rest)) ≡ Spelled (b ∷ bs) ∷ tokens rest
word b bs rest h =
    let all = b ∷ (bs ++ rest) in
    front_by (class_of b) b (bs ++ rest) refl h.0
    ∙ ap (λ k. Spelled (take k all) ∷ tokens (drop k all)) (run_len (b ∷ bs) rest h)
    ∙ ap (λ w. Spelled w ∷ tokens (drop (length (b ∷ bs)) all)) (taken (b ∷ bs) rest)
    ∙ ap (λ r. Spelled (b ∷ bs) ∷ tokens r) (dropped (b ∷ bs) rest)

-- ---- quoted texts

quoted_from : (inside rest : Text) (q : ℕ) (text : Text) → HasNo q inside → tokens_from (InQuotes q text) (inside ++ q ∷ rest) ≡ Spelled (text ++ (inside ++ q ∷ [])) ∷ tokens rest
quoted_from [] rest q text h = step_from (InQuotes q text) q rest ∙ (rw (eq-eqb q q refl) refl)
quoted_from (b ∷ bs) rest q text h =
    step_from (InQuotes q text) b (bs ++ q ∷ rest)
    ∙ (rw (not_equal b q h.0) (quoted_from bs rest q (text ++ b ∷ []) h.1))
    ∙ ap (λ w. Spelled w ∷ tokens rest) (append_assoc text (b ∷ []) (bs ++ q ∷ []))

open_from : (inside : Text) (q : ℕ) (text : Text) → HasNo q inside → tokens_from (InQuotes q text) inside ≡ Stray ∷ []
open_from [] q text h = at_end (InQuotes q text)
open_from (b ∷ bs) q text h = step_from (InQuotes q text) b bs ∙ (rw (not_equal b q h.0) (open_from bs q (text ++ b ∷ []) h.1))

quote_first : (q : ℕ) (bs : Text) → class_of q ≡ class.Quote → tokens (q ∷ bs) ≡ tokens_from (InQuotes q (q ∷ [])) bs
quote_first q bs is = step_from Between q bs ∙ (rw is refl)

-- ---- comments

line_from : (inside rest : Text) → HasNo 10 inside → tokens_from InLine (inside ++ 10 ∷ rest) ≡ tokens rest
line_from [] rest h = line_end_at (10 ∷ rest) (10 ∷ rest) 10 rest refl refl refl
line_from (b ∷ bs) rest h =
    let all = b ∷ (bs ++ 10 ∷ rest) in
    line_more_at all all b (bs ++ 10 ∷ rest) refl refl h.0 ∙ line_from bs rest h.1

last_from : (inside : Text) → HasNo 10 inside → tokens_from InLine inside ≡ []
last_from [] h = at_end InLine
last_from (b ∷ bs) h = line_more_at (b ∷ bs) (b ∷ bs) b bs refl refl h.0 ∙ last_from bs h.1

star_42 : class_of 42 ≡ class.Star
unfolding class_of
star_42 = refl

star_goes_on : (before : Class) → ends_block before class.Star ≡ false
star_goes_on = elim [ class.Gap ↦ refl | class.Mark ↦ refl | class.Quote ↦ refl | class.Slash ↦ refl | class.Star ↦ refl | class.Letter ↦ refl | class.Other ↦ refl ]

block_from : (before : Class) (inside rest : Text) → HasNoEnd before inside → tokens_from (block_place before) (inside ++ 42 ∷ 47 ∷ rest) ≡ tokens rest
block_from before [] rest h = block_more before class.Star 42 (47 ∷ rest) star_42 (star_goes_on before) ∙ block_end class.Star class.Slash 47 rest slash_47 refl
block_from before (b ∷ bs) rest h = block_more before (class_of b) b (bs ++ 42 ∷ 47 ∷ rest) refl h.0 ∙ block_from (class_of b) bs rest h.1

unended_from : (before : Class) (inside : Text) → HasNoEnd before inside → tokens_from (block_place before) inside ≡ Stray ∷ []
unended_from before [] h = open_block before
unended_from before (b ∷ bs) h = block_more before (class_of b) b bs refl h.0 ∙ unended_from (class_of b) bs h.1

pub format : TokensAreOfFormat
format = record {
  none = tokens_none;
  gap = at_gap;
  mark = at_mark;
  word = word;
  quoted = λ q inside rest is h. quote_first q (inside ++ q ∷ rest) is ∙ quoted_from inside rest q (q ∷ []) h;
  open_quote = λ q inside is h. quote_first q inside is ∙ open_from inside q (q ∷ []) h;
  line = λ inside rest h. comment_line 47 47 (inside ++ 10 ∷ rest) slash_47 slash_47 ∙ line_from inside rest h;
  last_line = λ inside h. comment_line 47 47 inside slash_47 slash_47 ∙ last_from inside h;
  block = λ inside rest h. comment_block 47 42 (inside ++ 42 ∷ 47 ∷ rest) slash_47 star_42 ∙ block_from class.Other inside rest h;
  open_block = λ inside h. comment_block 47 42 inside slash_47 star_42 ∙ unended_from class.Other inside h;
  star = at_star;
  other = at_other;
}
