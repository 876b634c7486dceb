-- The tokens of written lines.
use Rattle.std.proofs.Common.{◌≡◌, ◌∙◌, ℕ, false, [], ◌∷◌, ◌++◌, ap, sym, refl, append_assoc, append-nil}
use Rattle.std.specs.Prelude.{◌==◌, codes}
use Rattle.statement.specs.Benches.{Text}
use Rattle.stil_write.specs.Pieces.{assignment, signal_line, signal_lines}
use Rattle.statement.specs.Stils.{assignments, quoted}
use Rattle.stil_read.specs.declared.bytes.Class.TheVariants as class
use Rattle.stil_read.specs.Tokens.{InQuotes, InWord, Spelled, class_of, tokens, tokens_from}
use Rattle.stil_read.specs.inner.Assigned.{assignment_tokens}
use Rattle.stil_read.specs.inner.Signals.{signal_tokens}
use Rattle.stil_read.specs.inner.Whole.{IsWhole, place_after}
use Rattle.stil_read.specs.inner.Written.{AreLetters, AssignmentsTokens, IsValueWord, IsQuotable, KindsAreWhole, QuotedTokens, SignalLinesTokens}
use Rattle.stil_read.proofs.TokenLemmas.{at_gap, at_letter, at_mark, at_quote, mark_in_word, letter_in_word, step_from}
use Rattle.stil_read.proofs.WholeLemmas.{whole_then_rest}

in_quotes : (name text rest : Text) → IsQuotable name → tokens_from (InQuotes 34 text) ((name ++ 34 ∷ []) ++ rest) ≡ Spelled (text ++ (name ++ 34 ∷ [])) ∷ tokens rest
in_quotes [] text rest q = step_from (InQuotes 34 text) 34 rest
in_quotes (b ∷ bs) text rest q =
    let h : (b == 34) ≡ false = q.0 in
    step_from (InQuotes 34 text) b ((bs ++ 34 ∷ []) ++ rest) ∙ (rw h (in_quotes bs (text ++ b ∷ []) rest q.1))
    ∙ ap (λ w. Spelled w ∷ tokens rest) (append_assoc text (b ∷ []) (bs ++ 34 ∷ []))

quote_class : class_of 34 ≡ class.Quote
unfolding class_of
quote_class = refl

pub blank_class : class_of 32 ≡ class.Gap
unfolding class_of
blank_class = refl

pub quoted_tokens : QuotedTokens
quoted_tokens name rest q = at_quote 34 ((name ++ 34 ∷ []) ++ rest) quote_class ∙ in_quotes name (34 ∷ []) rest q

one_line : (kind name rest : Text) → IsWhole kind → IsQuotable name → tokens (signal_line kind name ++ rest) ≡ Spelled (quoted name) ∷ (tokens kind ++ tokens rest)
one_line kind name rest whole q =
    at_gap 32 (32 ∷ ((quoted name ++ kind) ++ rest)) blank_class ∙ at_gap 32 ((quoted name ++ kind) ++ rest) blank_class
    ∙ ap tokens (append_assoc (quoted name) kind rest) ∙ quoted_tokens name (kind ++ rest) q ∙ ap (λ ts. Spelled (quoted name) ∷ ts) (whole_then_rest kind rest whole)

pub signal_lines_tokens : SignalLinesTokens
signal_lines_tokens kind [] rest whole q = refl
signal_lines_tokens kind (name ∷ names) rest whole q =
    ap tokens (append_assoc (signal_line kind name) (signal_lines kind names) rest) ∙ one_line kind name (signal_lines kind names ++ rest) whole q.0
    ∙ ap (λ ts. Spelled (quoted name) ∷ (tokens kind ++ ts)) (signal_lines_tokens kind names rest whole q.1)
    ∙ ap (λ ts. Spelled (quoted name) ∷ ts) (sym (append_assoc (tokens kind) (signal_tokens kind names) (tokens rest)))

pub kinds_are_whole : KindsAreWhole
unfolding place_after class_of
kinds_are_whole = record { inputs = refl; scan_inputs = refl; outputs = refl; scan_outputs = refl }

-- ---- assignments

semicolon_class : class_of 59 ≡ class.Mark
unfolding class_of
semicolon_class = refl

equals_class : class_of 61 ≡ class.Mark
unfolding class_of
equals_class = refl

word_run : (word : Text) (c : ℕ) (cs rest : Text) → AreLetters word → tokens_from (InWord (c ∷ cs)) (word ++ 59 ∷ rest) ≡ Spelled (c ∷ (cs ++ word)) ∷ Spelled (59 ∷ []) ∷ tokens rest
word_run [] c cs rest l = mark_in_word 59 rest semicolon_class c cs ∙ ap (λ w. Spelled (c ∷ w) ∷ Spelled (59 ∷ []) ∷ tokens rest) (sym (append-nil cs))
word_run (b ∷ bs) c cs rest l =
    letter_in_word b (bs ++ 59 ∷ rest) l.0 c cs ∙ word_run bs c (cs ++ b ∷ []) rest l.1
    ∙ ap (λ w. Spelled (c ∷ w) ∷ Spelled (59 ∷ []) ∷ tokens rest) (append_assoc cs (b ∷ []) bs)

pub word_tokens : (word rest : Text) → IsValueWord word → tokens (word ++ 59 ∷ rest) ≡ Spelled word ∷ Spelled (59 ∷ []) ∷ tokens rest
word_tokens [] rest w = absurd w
word_tokens (b ∷ bs) rest w = at_letter b (bs ++ 59 ∷ rest) w.0 ∙ word_run bs b [] rest w.1

-- behind the name: ` = `, the word, `; `
one_value : (word rest : Text) → IsValueWord word → tokens ((codes " = " ++ (word ++ codes "; ")) ++ rest) ≡ Spelled (61 ∷ []) ∷ Spelled word ∷ Spelled (59 ∷ []) ∷ tokens rest
one_value word rest w =
    at_gap 32 (61 ∷ 32 ∷ ((word ++ codes "; ") ++ rest)) blank_class ∙ at_mark 61 (32 ∷ ((word ++ codes "; ") ++ rest)) equals_class
    ∙ ap (λ ts. Spelled (61 ∷ []) ∷ ts) (at_gap 32 ((word ++ codes "; ") ++ rest) blank_class ∙ ap tokens (append_assoc word (codes "; ") rest)
    ∙ word_tokens word (32 ∷ rest) w ∙ ap (λ ts. Spelled word ∷ Spelled (59 ∷ []) ∷ ts) (at_gap 32 rest blank_class))

one_assignment : (signal word rest : Text) → IsQuotable signal → IsValueWord word → tokens (assignment signal word ++ rest) ≡ assignment_tokens (quoted signal) word ++ tokens rest
one_assignment signal word rest q w =
    ap tokens (append_assoc (quoted signal) (codes " = " ++ (word ++ codes "; ")) rest) ∙ quoted_tokens signal ((codes " = " ++ (word ++ codes "; ")) ++ rest) q
    ∙ ap (λ ts. Spelled (quoted signal) ∷ ts) (one_value word rest w)

pub assignments_tokens : AssignmentsTokens
assignments_tokens [] words rest a = refl
assignments_tokens (signal ∷ signals) [] rest a = refl
assignments_tokens (signal ∷ signals) (word ∷ words) rest a =
    ap tokens (append_assoc (assignment signal word) (assignments signals words) rest) ∙ one_assignment signal word (assignments signals words ++ rest) a.0 a.1
    ∙ ap (λ ts. assignment_tokens (quoted signal) word ++ ts) (assignments_tokens signals words rest a.2)
