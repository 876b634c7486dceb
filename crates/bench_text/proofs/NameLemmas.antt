-- The words of a line are names.
use Rattle.std.proofs.Common.{◌≡◌, ℕ, Bool, true, false, List, [], ◌∷◌, refl, arith, ⊎_elim, lit<}
use Rattle.std.specs.Prelude.{Option, Some, None, ◌==◌}
use Rattle.std.specs.List.{list_all, AllByRecursion}
use Rattle.bench_text.specs.Bytes.{is_blank}
use Rattle.bench_text.specs.Tokens.{Token, Word, Open, Close, Comma, Equals, mark, is_word_byte, begins_in_word, longer, add, tokens}
use Rattle.bench_text.proofs.Plain.{is_plain, IsNamed}
use Rattle.bench_text.proofs.Runs.{either}
use Rattle.bench_text.proofs.TokenLemmas.{is_word, not_word}
use Rattle.bench_text.proofs.Lists.{both_true}

marked : (b : ℕ) (t : Token) → mark b ≡ Some t → IsNamed t
marked b (Word w) h = absurd (not_word (b == 40) (b == 41) (b == 44) (b == 61) w h)
marked b Open h = tt
marked b Close h = tt
marked b Comma h = tt
marked b Equals h = tt

longer-named : (b : ℕ) (ts : List Token) → is_word_byte b ≡ true → is_plain b ≡ true → AllByRecursion IsNamed ts → AllByRecursion IsNamed (longer b ts)
longer-named b [] w p h = tt
longer-named b (Word x ∷ ts) w p h = (record { some = omega arith; word = rw (w, h.0.word) refl; plain = rw (p, h.0.plain) refl }, h.1)
longer-named b (Open ∷ ts) w p h = h
longer-named b (Close ∷ ts) w p h = h
longer-named b (Comma ∷ ts) w p h = h
longer-named b (Equals ∷ ts) w p h = h

added : (b : ℕ) (goes_on : Bool) (ts : List Token) (o : Option Token) → mark b ≡ o → is_blank b ≡ false → is_plain b ≡ true → AllByRecursion IsNamed ts → AllByRecursion IsNamed (add b o goes_on ts)
added b goes_on ts (Some t) m n p h = (marked b t m, h)
added b true ts None m n p h = longer-named b ts (is_word b n m) p h
added b false ts None m n p h = let w = is_word b n m in (record { some = lit< tt; word = rw w refl; plain = rw p refl }, h)

pub tokens-named : (bs : List ℕ) → list_all is_plain bs ≡ true → AllByRecursion IsNamed (tokens bs)
unfolding tokens
tokens-named [] h = tt
tokens-named (b ∷ bs) h =
    let p = both_true (is_plain b) (list_all is_plain bs) h in
    let more = tokens-named bs p.1 in
    ⊎_elim
    (λ (t : is_blank b ≡ true). rw t more)
    (λ (f : is_blank b ≡ false). rw f (added b (begins_in_word bs) (tokens bs) (mark b) refl f p.0 more))
    (either (is_blank b))
