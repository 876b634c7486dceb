-- What the scanner makes of the front of some bytes.
use Rattle.std.proofs.Common.{suc, zero, ◌⊎◌, inl, inr, ◌≡◌, ℕ, ◌+◌, ◌<◌, Bool, true, false, cond, not, List, [], ◌∷◌, ◌++◌, length, take, drop, refl, sym, ap, ◌∙◌, subst, arith, append_assoc, append-nil, ⊎_elim, eq-eqb}
use Rattle.std.specs.Prelude.{◌==◌}
use Rattle.std.specs.List.{prefix_len}
use Rattle.std.proofs.lemmas.Bool.Decides.{nat_tests}
use Rattle.stil_read.specs.declared.bytes.Class.{Class}
use Rattle.stil_read.specs.declared.bytes.Class.TheVariants as class
use Rattle.stil_read.specs.Tokens.{Token, Spelled, Stray, LexState, Between, InWord, BehindSlash, InQuotes, InLine, InBlock, BehindStar, Turn, first_byte, in_word, behind_slash, behind_star, in_block, behind, class_of, ended_word, go, turn, last_tokens, tokens_from, tokens}
use Rattle.stil_read.specs.inner.Shown.{IsFirst, begins_gap, ends_block, gap_by, goes_on, is_opener, opens_comment, word_by, word_len}

either : (b : Bool) → (b ≡ true) ⊎ (b ≡ false)
either true = inl refl
either false = inr refl

pub is_equal : (m n : ℕ) → (m == n) ≡ true → m ≡ n
is_equal m n h = grind (arith, nat_tests)

pub not_equal : (m n : ℕ) → (m ≡ n → ⊥) → (m == n) ≡ false
not_equal m n h = ⊎_elim (λ (t : (m == n) ≡ true). absurd (h (is_equal m n t))) (λ (f : (m == n) ≡ false). f) (either (m == n))

-- the tokens behind a turn
abbrev after_turn : Turn → List ℕ → List Token
after_turn t bs = t.ends ++ tokens_from t.place bs

pub step_from : (place : LexState) (b : ℕ) (bs : List ℕ) → tokens_from place (b ∷ bs) ≡ after_turn (turn place b) bs
unfolding tokens_from
step_from place b bs = refl

pub at_end : (place : LexState) → tokens_from place [] ≡ last_tokens place
unfolding tokens_from
at_end place = refl

-- ---- single bytes between tokens

module _ (b : ℕ) (bs : List ℕ) (kind : Class) (is : class_of b ≡ kind) where
  between : tokens (b ∷ bs) ≡ after_turn (first_byte kind b) bs
  between = step_from Between b bs ∙ ap (λ k. after_turn (first_byte k b) bs) is

  word_turn : (word : List ℕ) → tokens_from (InWord word) (b ∷ bs) ≡ after_turn (in_word kind word b) bs
  word_turn word = step_from (InWord word) b bs ∙ ap (λ k. after_turn (in_word k word b) bs) is

  slash_turn : (word : List ℕ) → tokens_from (BehindSlash word) (b ∷ bs) ≡ after_turn (behind_slash kind word b) bs
  slash_turn word = step_from (BehindSlash word) b bs ∙ ap (λ k. after_turn (behind_slash k word b) bs) is

  block_turn : tokens_from InBlock (b ∷ bs) ≡ after_turn (in_block kind) bs
  block_turn = step_from InBlock b bs ∙ ap (λ k. after_turn (in_block k) bs) is

  star_turn : tokens_from BehindStar (b ∷ bs) ≡ after_turn (behind_star kind) bs
  star_turn = step_from BehindStar b bs ∙ ap (λ k. after_turn (behind_star k) bs) is

pub at_gap : (b : ℕ) (bs : List ℕ) → class_of b ≡ class.Gap → tokens (b ∷ bs) ≡ tokens bs
at_gap b bs is = between b bs class.Gap is

pub at_mark : (b : ℕ) (bs : List ℕ) → class_of b ≡ class.Mark → tokens (b ∷ bs) ≡ Spelled (b ∷ []) ∷ tokens bs
at_mark b bs is = between b bs class.Mark is

pub at_star : (b : ℕ) (bs : List ℕ) → class_of b ≡ class.Star → tokens (b ∷ bs) ≡ Stray ∷ tokens bs
at_star b bs is = between b bs class.Star is

pub at_other : (b : ℕ) (bs : List ℕ) → class_of b ≡ class.Other → tokens (b ∷ bs) ≡ Stray ∷ tokens bs
at_other b bs is = between b bs class.Other is

-- ---- comments

pub line_end_at : (all rest : List ℕ) (b : ℕ) (bs : List ℕ) → tokens_from InLine all ≡ tokens_from InLine rest → rest ≡ b ∷ bs → b ≡ 10 → tokens_from InLine all ≡ tokens bs
line_end_at all rest b bs e f h = e ∙ ap (tokens_from InLine) f ∙ step_from InLine b bs ∙ (rw (eq-eqb b 10 h) refl)

pub line_more_at : (all rest : List ℕ) (b : ℕ) (bs : List ℕ) → tokens_from InLine all ≡ tokens_from InLine rest → rest ≡ b ∷ bs → (b ≡ 10 → ⊥) → tokens_from InLine all ≡ tokens_from InLine bs
line_more_at all rest b bs e f h = e ∙ ap (tokens_from InLine) f ∙ step_from InLine b bs ∙ (rw (not_equal b 10 h) refl)

-- where a comment stands behind a byte of this class
abbrev pub block_place : Class → LexState
block_place class.Star = BehindStar
block_place kind = InBlock

pub block_end : (before kind : Class) (b : ℕ) (bs : List ℕ) → class_of b ≡ kind → ends_block before kind ≡ true → tokens_from (block_place before) (b ∷ bs) ≡ tokens bs
block_end class.Star class.Slash b bs is h = star_turn b bs class.Slash is
block_end class.Star class.Gap b bs is h = cc
block_end class.Star class.Mark b bs is h = cc
block_end class.Star class.Quote b bs is h = cc
block_end class.Star class.Star b bs is h = cc
block_end class.Star class.Letter b bs is h = cc
block_end class.Star class.Other b bs is h = cc
block_end class.Gap kind b bs is h = cc
block_end class.Mark kind b bs is h = cc
block_end class.Quote kind b bs is h = cc
block_end class.Slash kind b bs is h = cc
block_end class.Letter kind b bs is h = cc
block_end class.Other kind b bs is h = cc

in_block-go : (kind : Class) → in_block kind ≡ go (block_place kind)
in_block-go = elim [ class.Gap ↦ refl | class.Mark ↦ refl | class.Quote ↦ refl | class.Slash ↦ refl | class.Star ↦ refl | class.Letter ↦ refl | class.Other ↦ refl ]

star_more : (kind : Class) → ends_block class.Star kind ≡ false → behind_star kind ≡ go (block_place kind)
star_more class.Slash h = cc
star_more class.Gap h = refl
star_more class.Mark h = refl
star_more class.Quote h = refl
star_more class.Star h = refl
star_more class.Letter h = refl
star_more class.Other h = refl

in_more : (kind : Class) (b : ℕ) (bs : List ℕ) → class_of b ≡ kind → tokens_from InBlock (b ∷ bs) ≡ tokens_from (block_place kind) bs
in_more kind b bs is = block_turn b bs kind is ∙ ap (λ t. after_turn t bs) (in_block-go kind)

pub block_more : (before kind : Class) (b : ℕ) (bs : List ℕ) → class_of b ≡ kind → ends_block before kind ≡ false → tokens_from (block_place before) (b ∷ bs) ≡ tokens_from (block_place kind) bs
block_more class.Star kind b bs is h = star_turn b bs kind is ∙ ap (λ t. after_turn t bs) (star_more kind h)
block_more class.Gap kind b bs is h = in_more kind b bs is
block_more class.Mark kind b bs is h = in_more kind b bs is
block_more class.Quote kind b bs is h = in_more kind b bs is
block_more class.Slash kind b bs is h = in_more kind b bs is
block_more class.Letter kind b bs is h = in_more kind b bs is
block_more class.Other kind b bs is h = in_more kind b bs is

pub block_end_at : (all rest : List ℕ) (before : Class) (b : ℕ) (bs : List ℕ) (kind : Class) → tokens_from InBlock all ≡ tokens_from (block_place before) rest → rest ≡ b ∷ bs
    → kind ≡ class_of b → ends_block before kind ≡ true → tokens_from InBlock all ≡ tokens bs
block_end_at all rest before b bs kind e f is h = e ∙ ap (tokens_from (block_place before)) f ∙ block_end before kind b bs (sym is) h

pub block_more_at : (all rest : List ℕ) (before : Class) (b : ℕ) (bs : List ℕ) (kind : Class) → tokens_from InBlock all ≡ tokens_from (block_place before) rest → rest ≡ b ∷ bs
    → kind ≡ class_of b → ends_block before kind ≡ false → tokens_from InBlock all ≡ tokens_from (block_place kind) bs
block_more_at all rest before b bs kind e f is h = e ∙ ap (tokens_from (block_place before)) f ∙ block_more before kind b bs (sym is) h

pub open_block : (before : Class) → tokens_from (block_place before) [] ≡ Stray ∷ []
open_block = elim [ class.Gap ↦ at_end InBlock | class.Mark ↦ at_end InBlock | class.Quote ↦ at_end InBlock | class.Slash ↦ at_end InBlock | class.Star ↦ at_end BehindStar | class.Letter ↦ at_end InBlock | class.Other ↦ at_end InBlock ]

-- ---- words

abbrev IsWordAt : ℕ → List ℕ → List ℕ → Type 0
IsWordAt c cs bs = tokens_from (InWord (c ∷ cs)) bs ≡ Spelled ((c ∷ cs) ++ take (word_len bs) bs) ∷ tokens (drop (word_len bs) bs)

pub word_len-more : (b : ℕ) (bs : List ℕ) → goes_on (b ∷ bs) ≡ true → word_len (b ∷ bs) ≡ suc (word_len bs)
unfolding word_len
word_len-more b bs h = let e : 1 + word_len bs ≡ suc (word_len bs) = omega arith in rw h e

pub word_len-none : (b : ℕ) (bs : List ℕ) → goes_on (b ∷ bs) ≡ false → word_len (b ∷ bs) ≡ 0
unfolding word_len
word_len-none b bs h = rw h refl

-- a word that goes on over a byte
word_more : (c : ℕ) (cs : List ℕ) (b : ℕ) (bs : List ℕ) → goes_on (b ∷ bs) ≡ true → tokens_from (InWord (c ∷ cs)) (b ∷ bs) ≡ tokens_from (InWord (c ∷ (cs ++ b ∷ []))) bs
    → IsWordAt c (cs ++ b ∷ []) bs → IsWordAt c cs (b ∷ bs)
word_more c cs b bs h step rest = rw (word_len-more b bs h) (step ∙ rest ∙ ap (λ w. Spelled (c ∷ w) ∷ tokens (drop (word_len bs) bs)) (append_assoc cs (b ∷ []) (take (word_len bs) bs)))

-- a word that ends before a byte
word_stop : (c : ℕ) (cs : List ℕ) (b : ℕ) (bs : List ℕ) → goes_on (b ∷ bs) ≡ false → tokens_from (InWord (c ∷ cs)) (b ∷ bs) ≡ Spelled (c ∷ cs) ∷ tokens (b ∷ bs) → IsWordAt c cs (b ∷ bs)
word_stop c cs b bs h step = rw (word_len-none b bs h) (step ∙ ap (λ w. Spelled (c ∷ w) ∷ tokens (b ∷ bs)) (sym (append-nil cs)))

stops_at : (kind : Class) (c : ℕ) (cs : List ℕ) (b : ℕ) (bs : List ℕ) → class_of b ≡ kind → in_word kind (c ∷ cs) b ≡ behind (c ∷ cs) (first_byte kind b)
    → tokens_from (InWord (c ∷ cs)) (b ∷ bs) ≡ Spelled (c ∷ cs) ∷ tokens (b ∷ bs)
stops_at kind c cs b bs is turns = word_turn b bs kind is (c ∷ cs) ∙ ap (λ t. after_turn t bs) turns ∙ ap (λ ts. Spelled (c ∷ cs) ∷ ts) (sym (between b bs kind is))

-- behind a slash that belongs to a word, it goes on as behind any other byte of it
slash_on : (kind : Class) (word : List ℕ) (b : ℕ) (bs : List ℕ) → class_of b ≡ kind → is_opener kind ≡ false
    → tokens_from (BehindSlash word) (b ∷ bs) ≡ tokens_from (InWord (word ++ 47 ∷ [])) (b ∷ bs)
slash_on class.Slash word b bs is h = cc
slash_on class.Star word b bs is h = cc
slash_on class.Gap word b bs is h = slash_turn b bs class.Gap is word ∙ sym (word_turn b bs class.Gap is (word ++ 47 ∷ []))
slash_on class.Mark word b bs is h = slash_turn b bs class.Mark is word ∙ sym (word_turn b bs class.Mark is (word ++ 47 ∷ []))
slash_on class.Quote word b bs is h = slash_turn b bs class.Quote is word ∙ sym (word_turn b bs class.Quote is (word ++ 47 ∷ []))
slash_on class.Letter word b bs is h = slash_turn b bs class.Letter is word ∙ sym (word_turn b bs class.Letter is (word ++ 47 ∷ []))
slash_on class.Other word b bs is h = slash_turn b bs class.Other is word ∙ sym (word_turn b bs class.Other is (word ++ 47 ∷ []))

-- a comment ends the word before it
comment_by : (kind : Class) (word : List ℕ) (b : ℕ) (bs : List ℕ) → class_of b ≡ kind → is_opener kind ≡ true
    → tokens_from (BehindSlash word) (b ∷ bs) ≡ ended_word word ++ tokens_from (BehindSlash []) (b ∷ bs)
comment_by class.Slash word b bs is h =
    slash_turn b bs class.Slash is word ∙ ap (λ t. t ++ tokens_from InLine bs) (append-nil (ended_word word)) ∙ ap (λ t. ended_word word ++ t) (sym (slash_turn b bs class.Slash is []))
comment_by class.Star word b bs is h =
    slash_turn b bs class.Star is word ∙ ap (λ t. t ++ tokens_from InBlock bs) (append-nil (ended_word word)) ∙ ap (λ t. ended_word word ++ t) (sym (slash_turn b bs class.Star is []))
comment_by class.Gap word b bs is h = cc
comment_by class.Mark word b bs is h = cc
comment_by class.Quote word b bs is h = cc
comment_by class.Letter word b bs is h = cc
comment_by class.Other word b bs is h = cc

slash_word : (b : ℕ) (bs : List ℕ) → class_of b ≡ class.Slash → opens_comment bs ≡ false → goes_on (b ∷ bs) ≡ true
slash_word b bs is o = ap (λ k. word_by k bs) is ∙ (rw o refl)

slash_comment : (b : ℕ) (bs : List ℕ) → class_of b ≡ class.Slash → opens_comment bs ≡ true → goes_on (b ∷ bs) ≡ false
slash_comment b bs is o = ap (λ k. word_by k bs) is ∙ (rw o refl)

-- only the slash is of its class
only_slash : (g m q s t l : Bool) → cond g class.Gap (cond m class.Mark (cond q class.Quote (cond s class.Slash (cond t class.Star (cond l class.Letter class.Other))))) ≡ class.Slash → s ≡ true
only_slash true m q s t l e = cc
only_slash false true q s t l e = cc
only_slash false false true s t l e = cc
only_slash false false false true t l e = refl
only_slash false false false false true l e = cc
only_slash false false false false false true e = cc
only_slash false false false false false false e = cc

slash_is : (b : ℕ) → class_of b ≡ class.Slash → b ≡ 47
unfolding class_of
slash_is b e = is_equal b 47 (only_slash _ _ _ (b == 47) _ _ e)

pub slash_47 : class_of 47 ≡ class.Slash
unfolding class_of
slash_47 = refl

word_slash : (c : ℕ) (cs bs : List ℕ) → ((d : ℕ) (ds : List ℕ) → IsWordAt d ds bs) → IsWordAt c cs (47 ∷ bs)
word_slash c cs [] rest =
    word_more c cs 47 [] (slash_word 47 [] slash_47 refl)
    (word_turn 47 [] class.Slash slash_47 (c ∷ cs) ∙ at_end (BehindSlash (c ∷ cs)) ∙ sym (at_end (InWord (c ∷ (cs ++ 47 ∷ []))))) (rest c (cs ++ 47 ∷ []))
word_slash c cs (b ∷ bs) rest = ⊎_elim
    (λ (o : opens_comment (b ∷ bs) ≡ true). word_stop c cs 47 (b ∷ bs) (slash_comment 47 (b ∷ bs) slash_47 o)
    (word_turn 47 (b ∷ bs) class.Slash slash_47 (c ∷ cs) ∙ comment_by (class_of b) (c ∷ cs) b bs refl o ∙ ap (λ ts. Spelled (c ∷ cs) ∷ ts) (sym (between 47 (b ∷ bs) class.Slash slash_47))))
    (λ (o : opens_comment (b ∷ bs) ≡ false). word_more c cs 47 (b ∷ bs) (slash_word 47 (b ∷ bs) slash_47 o)
    (word_turn 47 (b ∷ bs) class.Slash slash_47 (c ∷ cs) ∙ slash_on (class_of b) (c ∷ cs) b bs refl o) (rest c (cs ++ 47 ∷ [])))
    (either (opens_comment (b ∷ bs)))

word_by_class : (kind : Class) (c : ℕ) (cs : List ℕ) (b : ℕ) (bs : List ℕ) → class_of b ≡ kind → ((d : ℕ) (ds : List ℕ) → IsWordAt d ds bs) → IsWordAt c cs (b ∷ bs)
word_by_class class.Slash c cs b bs is rest = subst (λ x. IsWordAt c cs (x ∷ bs)) (sym (slash_is b is)) (word_slash c cs bs rest)
word_by_class class.Letter c cs b bs is rest = word_more c cs b bs (ap (λ k. word_by k bs) is) (word_turn b bs class.Letter is (c ∷ cs)) (rest c (cs ++ b ∷ []))
word_by_class class.Gap c cs b bs is rest = word_stop c cs b bs (ap (λ k. word_by k bs) is) (stops_at class.Gap c cs b bs is refl)
word_by_class class.Mark c cs b bs is rest = word_stop c cs b bs (ap (λ k. word_by k bs) is) (stops_at class.Mark c cs b bs is refl)
word_by_class class.Quote c cs b bs is rest = word_stop c cs b bs (ap (λ k. word_by k bs) is) (stops_at class.Quote c cs b bs is refl)
word_by_class class.Star c cs b bs is rest = word_stop c cs b bs (ap (λ k. word_by k bs) is) (stops_at class.Star c cs b bs is refl)
word_by_class class.Other c cs b bs is rest = word_stop c cs b bs (ap (λ k. word_by k bs) is) (stops_at class.Other c cs b bs is refl)

pub word_none : word_len [] ≡ 0
unfolding word_len
word_none = refl

word_at : (bs : List ℕ) (c : ℕ) (cs : List ℕ) → IsWordAt c cs bs
word_at [] c cs = rw word_none (at_end (InWord (c ∷ cs)) ∙ ap (λ w. Spelled (c ∷ w) ∷ []) (sym (append-nil cs)) ∙ ap (λ t. Spelled (c ∷ (cs ++ [])) ∷ t) (sym (at_end Between)))
word_at (b ∷ bs) c cs = word_by_class (class_of b) c cs b bs refl (λ d ds. word_at bs d ds)

-- a word at the front
abbrev pub IsWordFront : List ℕ → Type 0
IsWordFront all = tokens all ≡ Spelled (take (word_len all) all) ∷ tokens (drop (word_len all) all)

pub letter_front : (b : ℕ) (bs : List ℕ) → class_of b ≡ class.Letter → IsWordFront (b ∷ bs)
letter_front b bs is = rw (word_len-more b bs (ap (λ k. word_by k bs) is)) (between b bs class.Letter is ∙ word_at bs b [])

slash_by : (bs : List ℕ) → opens_comment bs ≡ false → IsWordFront (47 ∷ bs)
slash_by [] o = rw (word_len-more 47 [] (slash_word 47 [] slash_47 refl), word_none) (between 47 [] class.Slash slash_47 ∙ at_end (BehindSlash []) ∙ ap (λ t. Spelled (47 ∷ []) ∷ t) (sym (at_end Between)))
slash_by (b ∷ bs) o =
    rw (word_len-more 47 (b ∷ bs) (slash_word 47 (b ∷ bs) slash_47 o)) (between 47 (b ∷ bs) class.Slash slash_47 ∙ slash_on (class_of b) [] b bs refl o ∙ word_at (b ∷ bs) 47 [])

pub slash_front : (b : ℕ) (bs : List ℕ) → class_of b ≡ class.Slash → opens_comment bs ≡ false → IsWordFront (b ∷ bs)
slash_front b bs is o = subst (λ x. IsWordFront (x ∷ bs)) (sym (slash_is b is)) (slash_by bs o)

-- ---- gaps

pub comment_line : (b c : ℕ) (bs : List ℕ) → class_of b ≡ class.Slash → class_of c ≡ class.Slash → tokens (b ∷ c ∷ bs) ≡ tokens_from InLine bs
comment_line b c bs is also = between b (c ∷ bs) class.Slash is ∙ slash_turn c bs class.Slash also []

pub comment_block : (b c : ℕ) (bs : List ℕ) → class_of b ≡ class.Slash → class_of c ≡ class.Star → tokens (b ∷ c ∷ bs) ≡ tokens_from InBlock bs
comment_block b c bs is also = between b (c ∷ bs) class.Slash is ∙ slash_turn c bs class.Star also []

-- ---- quoted texts

abbrev other : ℕ → ℕ → Bool
other q b = not (b == q)

abbrev IsQuotedAt : ℕ → List ℕ → List ℕ → List ℕ → Type 0
IsQuotedAt q text bs [] = tokens_from (InQuotes q text) bs ≡ Stray ∷ []
IsQuotedAt q text bs (c ∷ rest) = tokens_from (InQuotes q text) bs ≡ Spelled (text ++ (take (prefix_len (other q) bs) bs ++ c ∷ [])) ∷ tokens rest

quoted_more : (q b : ℕ) (text bs r : List ℕ) → (b == q) ≡ false → IsQuotedAt q (text ++ b ∷ []) bs r → IsQuotedAt q text (b ∷ bs) r
quoted_more q b text bs [] h rest = step_from (InQuotes q text) b bs ∙ (rw h rest)
quoted_more q b text bs (c ∷ after) h rest =
    let e : 1 + prefix_len (other q) bs ≡ suc (prefix_len (other q) bs) = omega arith in
    rw (h, e) (step_from (InQuotes q text) b bs ∙ (rw h rest) ∙ ap (λ w. Spelled w ∷ tokens after) (append_assoc text (b ∷ []) (take (prefix_len (other q) bs) bs ++ c ∷ [])))

quoted_by : (bs : List ℕ) (q : ℕ) (text : List ℕ) → IsQuotedAt q text bs (drop (prefix_len (other q) bs) bs)
quoted_by [] q text = at_end (InQuotes q text)
quoted_by (b ∷ bs) q text = ⊎_elim
    (λ (h : (b == q) ≡ true). rw h (step_from (InQuotes q text) b bs ∙ (rw h refl)))
    (λ (h : (b == q) ≡ false).
    let e : 1 + prefix_len (other q) bs ≡ suc (prefix_len (other q) bs) = omega arith in
    let d : drop (prefix_len (other q) (b ∷ bs)) (b ∷ bs) ≡ drop (prefix_len (other q) bs) bs = rw (h, e) refl in
    subst (IsQuotedAt q text (b ∷ bs)) (sym d) (quoted_more q b text bs (drop (prefix_len (other q) bs) bs) h (quoted_by bs q (text ++ b ∷ []))))
    (either (b == q))

pub record Cut (xs : List ℕ) (n : ℕ) : Type 0 where
  pub here : ℕ
  pub after : List ℕ
  pub dropped : drop n xs ≡ here ∷ after
  pub front : take (suc n) xs ≡ take n xs ++ here ∷ []
  pub back : drop (suc n) xs ≡ after

cut : (xs : List ℕ) (n : ℕ) → n < length xs → Cut xs n
cut [] n h = absurd (omega arith)
cut (x ∷ xs) zero h = record { here = x; after = xs; dropped = refl; front = refl; back = refl }
cut (x ∷ xs) (suc n) h =
    let k : n < length xs = omega arith in
    let c = cut xs n k in
    record { here = c.here; after = c.after; dropped = c.dropped; front = ap (λ l. x ∷ l) c.front; back = c.back }

pub drop-all : (xs : List ℕ) → drop (length xs) xs ≡ []
drop-all [] = refl
drop-all (x ∷ xs) = drop-all xs

pub quoted_open : (q : ℕ) (rest : List ℕ) (n : ℕ) → class_of q ≡ class.Quote → n ≡ prefix_len (other q) rest → n ≡ length rest → tokens (q ∷ rest) ≡ Stray ∷ []
quoted_open q rest n is run all =
    let none : drop (prefix_len (other q) rest) rest ≡ [] = ap (λ k. drop k rest) (sym run ∙ all) ∙ drop-all rest in
    let found : IsQuotedAt q (q ∷ []) rest [] = subst (IsQuotedAt q (q ∷ []) rest) none (quoted_by rest q (q ∷ [])) in
    between q rest class.Quote is ∙ found

pub quoted_front : (q : ℕ) (rest : List ℕ) (n : ℕ) → class_of q ≡ class.Quote → n ≡ prefix_len (other q) rest → n < length rest
    → tokens (q ∷ rest) ≡ Spelled (take (n + 2) (q ∷ rest)) ∷ tokens (drop (n + 2) (q ∷ rest))
quoted_front q rest n is run h =
    let c = cut rest n h in
    let e : n + 2 ≡ suc (suc n) = omega arith in
    let there : drop (prefix_len (other q) rest) rest ≡ c.here ∷ c.after = ap (λ k. drop k rest) (sym run) ∙ c.dropped in
    let found : IsQuotedAt q (q ∷ []) rest (c.here ∷ c.after) = subst (IsQuotedAt q (q ∷ []) rest) there (quoted_by rest q (q ∷ [])) in
    rw e (between q rest class.Quote is ∙ found ∙ ap (λ w. Spelled (q ∷ w) ∷ tokens c.after) (ap (λ k. take k rest ++ c.here ∷ []) (sym run) ∙ sym c.front) ∙ ap (λ r. Spelled (q ∷ take (suc n) rest) ∷ tokens r) (sym c.back))

-- ---- what is known where a gap begins, and where none does

pub gap_kinds : (kind : Class) (bs : List ℕ) → gap_by kind bs ≡ true → (kind ≡ class.Gap → ⊥) → (kind ≡ class.Slash) × (opens_comment bs ≡ true)
gap_kinds class.Gap bs h g = absurd (g refl)
gap_kinds class.Slash bs h g = (refl, h)
gap_kinds class.Mark bs h g = cc
gap_kinds class.Quote bs h g = cc
gap_kinds class.Star bs h g = cc
gap_kinds class.Letter bs h g = cc
gap_kinds class.Other bs h g = cc

pub opener_kinds : (kind : Class) → is_opener kind ≡ true → (kind ≡ class.Slash → ⊥) → kind ≡ class.Star
opener_kinds class.Slash h s = absurd (s refl)
opener_kinds class.Star h s = refl
opener_kinds class.Gap h s = cc
opener_kinds class.Mark h s = cc
opener_kinds class.Quote h s = cc
opener_kinds class.Letter h s = cc
opener_kinds class.Other h s = cc

pub tokens_none : tokens [] ≡ []
tokens_none = at_end Between

-- ---- lemmas for the functions: where the bytes begin so

pub gap_at : (all : List ℕ) (b : ℕ) (bs : List ℕ) (kind : Class) → all ≡ b ∷ bs → kind ≡ class_of b → kind ≡ class.Gap → tokens all ≡ tokens bs
gap_at all b bs kind e is k = ap tokens e ∙ at_gap b bs (sym is ∙ k)

-- no gap: a comment opens behind the slash
pub opens_at : (all : List ℕ) (b : ℕ) (bs : List ℕ) (kind : Class) → all ≡ b ∷ bs → kind ≡ class_of b → begins_gap all ≡ true → (kind ≡ class.Gap → ⊥)
    → (tokens all ≡ tokens_from (BehindSlash []) bs) × (opens_comment bs ≡ true)
opens_at all b bs kind e is h g =
    let k = gap_kinds (class_of b) bs (ap begins_gap (sym e) ∙ h) (λ j. g (is ∙ j)) in
    (ap tokens e ∙ between b bs class.Slash k.0, k.1)

pub line_at : (all : List ℕ) (b : ℕ) (bs : List ℕ) (kind : Class) → all ≡ b ∷ bs → kind ≡ class_of b → kind ≡ class.Slash → tokens_from (BehindSlash []) all ≡ tokens_from InLine bs
line_at all b bs kind e is k = ap (tokens_from (BehindSlash [])) e ∙ slash_turn b bs class.Slash (sym is ∙ k) []

pub block_at : (all : List ℕ) (b : ℕ) (bs : List ℕ) (kind : Class) → all ≡ b ∷ bs → kind ≡ class_of b → opens_comment all ≡ true → (kind ≡ class.Slash → ⊥)
    → tokens_from (BehindSlash []) all ≡ tokens_from InBlock bs
block_at all b bs kind e is h s =
    let k = opener_kinds (class_of b) (ap opens_comment (sym e) ∙ h) (λ j. s (is ∙ j)) in
    ap (tokens_from (BehindSlash [])) e ∙ slash_turn b bs class.Star k []

pub first_at : (all : List ℕ) (b : ℕ) (bs : List ℕ) (kind other : Class) → all ≡ b ∷ bs → kind ≡ class_of b → kind ≡ other → IsFirst other all
first_at all b bs kind found e is k = subst (IsFirst found) (sym e) (sym is ∙ k)

quote_of : (all : List ℕ) (b : ℕ) (bs : List ℕ) → all ≡ b ∷ bs → IsFirst class.Quote all → class_of b ≡ class.Quote
quote_of all b bs e h = subst (IsFirst class.Quote) e h

pub open_at : (all : List ℕ) (q : ℕ) (rest : List ℕ) (n : ℕ) → all ≡ q ∷ rest → IsFirst class.Quote all → n ≡ prefix_len (other q) rest → n ≡ length rest → tokens all ≡ Stray ∷ []
open_at all q rest n e h run whole = ap tokens e ∙ quoted_open q rest n (quote_of all q rest e h) run whole

pub quoted_at : (all : List ℕ) (q : ℕ) (rest : List ℕ) (n : ℕ) → all ≡ q ∷ rest → IsFirst class.Quote all → n ≡ prefix_len (other q) rest → n < length rest
    → tokens all ≡ Spelled (take (n + 2) all) ∷ tokens (drop (n + 2) all)
quoted_at all q rest n e h run some =
    subst (λ l. tokens l ≡ Spelled (take (n + 2) l) ∷ tokens (drop (n + 2) l)) (sym e) (quoted_front q rest n (quote_of all q rest e h) run some)

word_kinds : (kind : Class) (b : ℕ) (bs : List ℕ) → class_of b ≡ kind → word_by kind bs ≡ true → IsWordFront (b ∷ bs)
word_kinds class.Letter b bs is h = letter_front b bs is
word_kinds class.Slash b bs is h = slash_front b bs is (⊎_elim
    (λ (t : opens_comment bs ≡ true). let k : false ≡ true = (rw t at h) in cc)
    (λ (f : opens_comment bs ≡ false). f) (either (opens_comment bs)))
word_kinds class.Gap b bs is h = cc
word_kinds class.Mark b bs is h = cc
word_kinds class.Quote b bs is h = cc
word_kinds class.Star b bs is h = cc
word_kinds class.Other b bs is h = cc

pub word_front : (all : List ℕ) → goes_on all ≡ true → IsWordFront all
word_front [] h = cc
word_front (b ∷ bs) h = word_kinds (class_of b) b bs refl h

pub word_some : (all : List ℕ) → goes_on all ≡ true → (0 < word_len all) × (0 < length all)
word_some [] h = cc
word_some (b ∷ bs) h = let k = word_len-more b bs h in (omega (arith, k), omega arith)

pub mark_at : (all : List ℕ) (b : ℕ) (bs : List ℕ) (kind : Class) → all ≡ b ∷ bs → kind ≡ class_of b → kind ≡ class.Mark
    → tokens all ≡ Spelled (take 1 all) ∷ tokens (drop 1 all)
mark_at all b bs kind e is k = subst (λ l. tokens l ≡ Spelled (take 1 l) ∷ tokens (drop 1 l)) (sym e) (at_mark b bs (sym is ∙ k))

pub star_at : (all : List ℕ) (b : ℕ) (bs : List ℕ) (kind : Class) → all ≡ b ∷ bs → kind ≡ class_of b → kind ≡ class.Star → tokens all ≡ Stray ∷ tokens bs
star_at all b bs kind e is k = ap tokens e ∙ at_star b bs (sym is ∙ k)

pub other_at : (all : List ℕ) (b : ℕ) (bs : List ℕ) (kind : Class) → all ≡ b ∷ bs → kind ≡ class_of b → kind ≡ class.Other → tokens all ≡ Stray ∷ tokens bs
other_at all b bs kind e is k = ap tokens e ∙ at_other b bs (sym is ∙ k)

pub len_more : (all rest : List ℕ) (b : ℕ) (bs : List ℕ) (n : ℕ) → n + word_len rest ≡ word_len all → rest ≡ b ∷ bs → goes_on rest ≡ true → n + 1 + word_len bs ≡ word_len all
len_more all rest b bs n e f h =
    let k : word_len rest ≡ suc (word_len bs) = ap word_len f ∙ word_len-more b bs (ap goes_on (sym f) ∙ h) in omega (arith, e, k)

pub len_stop : (all rest : List ℕ) (b : ℕ) (bs : List ℕ) (n : ℕ) → n + word_len rest ≡ word_len all → rest ≡ b ∷ bs → goes_on rest ≡ false → n ≡ word_len all
len_stop all rest b bs n e f h =
    let k : word_len rest ≡ 0 = ap word_len f ∙ word_len-none b bs (ap goes_on (sym f) ∙ h) in omega (arith, e, k)

pub len_end : (all rest : List ℕ) (n : ℕ) → n + word_len rest ≡ word_len all → rest ≡ [] → n ≡ word_len all
len_end all rest n e f = let k : word_len rest ≡ 0 = ap word_len f ∙ word_none in omega (arith, e, k)

pub stray_end : (all xs back : List ℕ) → tokens all ≡ Stray ∷ [] → back ≡ drop (length xs) xs → tokens all ≡ Stray ∷ tokens back
stray_end all xs back e f = e ∙ ap (λ ts. Stray ∷ ts) (sym (ap tokens (f ∙ drop-all xs) ∙ tokens_none))

pub at_quote : (b : ℕ) (bs : List ℕ) → class_of b ≡ class.Quote → tokens (b ∷ bs) ≡ tokens_from (InQuotes b (b ∷ [])) bs
at_quote b bs is = between b bs class.Quote is

pub at_letter : (b : ℕ) (bs : List ℕ) → class_of b ≡ class.Letter → tokens (b ∷ bs) ≡ tokens_from (InWord (b ∷ [])) bs
at_letter b bs is = between b bs class.Letter is

pub letter_in_word : (b : ℕ) (bs : List ℕ) → class_of b ≡ class.Letter → (c : ℕ) (cs : List ℕ) → tokens_from (InWord (c ∷ cs)) (b ∷ bs) ≡ tokens_from (InWord (c ∷ (cs ++ b ∷ []))) bs
letter_in_word b bs is c cs = word_turn b bs class.Letter is (c ∷ cs)

pub mark_in_word : (b : ℕ) (bs : List ℕ) → class_of b ≡ class.Mark → (c : ℕ) (cs : List ℕ) → tokens_from (InWord (c ∷ cs)) (b ∷ bs) ≡ Spelled (c ∷ cs) ∷ Spelled (b ∷ []) ∷ tokens bs
mark_in_word b bs is c cs = word_turn b bs class.Mark is (c ∷ cs)
