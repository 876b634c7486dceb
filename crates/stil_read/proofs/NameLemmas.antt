-- Names, numbers and words that the tokens keep whole.
use Rattle.std.proofs.Common.{◌≡◌, ◌∙◌, ◌+◌, ◌-◌, ◌*◌, ◌/◌, ◌%◌, ◌≤◌, ◌<◌, ℕ, zero, suc, Bool, true, false, List, [], ◌∷◌, ◌++◌, ap, sym, refl, subst, append_assoc, append-nil, length, arith, decimal, replicate, lit<, lit≤}
use Rattle.std.specs.Prelude.{◌==◌, ◌&&◌, ◌||◌, not, nat_le, codes, IsTrue, ⊤, if◌then◌else◌}
use Rattle.std.specs.Fmt.{digits, digits_onto, digit_glyph}
use Rattle.std.specs.List.{All, AllZip}
use Rattle.std.proofs.lemmas.List.Elements.{All-head, All-tail}
use Rattle.statement.specs.Benches.{Text}
use Rattle.stil_write.specs.declared.forms.Form.{Form}
use Rattle.stil_write.specs.declared.forms.CharKind.{CharKind}
use Rattle.stil_write.specs.declared.forms.CharKind.TheVariants as values
use Rattle.stil_write.specs.StilFiles.{IsStilName, IsWord, is_stil_name_byte, is_value}
use Rattle.statement.specs.Stils.{numbered, where_chained}
use Rattle.stil_read.specs.declared.bytes.Class.{Class}
use Rattle.stil_read.specs.declared.bytes.Class.TheVariants as class
use Rattle.stil_read.specs.Tokens.{class_of}
use Rattle.stil_read.specs.inner.Written.{AreAssignable, AreLetters, AreQuotable, IsQuotable, IsValueWord}
use Rattle.stil_read.proofs.TokenLemmas.{is_equal, not_equal}

-- ---- names

both : (a b : Bool) → (a && b) ≡ true → (a ≡ true) × (b ≡ true)
both true b e = (refl, e)
both false b e = cc

neither : (a b : Bool) → not (a || b) ≡ true → (a ≡ false) × (b ≡ false)
neither true b e = cc
neither false true e = cc
neither false false e = (refl, refl)

no_quotes : (b : ℕ) → is_stil_name_byte b ≡ true → ((b == 34) ≡ false) × ((b == 39) ≡ false)
no_quotes b e = neither (b == 34) (b == 39) ((both (nat_le 33 b && nat_le b 126) (not (b == 34 || b == 39)) e).1)

-- it has no single quote
abbrev pub IsUnquoted : Text → Type 0
IsUnquoted [] = ⊤
IsUnquoted (b ∷ bs) = ((b == 39) ≡ false) × IsUnquoted bs

abbrev pub AreUnquoted : List Text → Type 0
AreUnquoted [] = ⊤
AreUnquoted (name ∷ names) = IsUnquoted name × AreUnquoted names

bytes_quotable : (bs : Text) → All (λ b. IsTrue (is_stil_name_byte b)) bs → IsQuotable bs × IsUnquoted bs
bytes_quotable [] h = (tt, tt)
bytes_quotable (b ∷ bs) h =
    let first = no_quotes b (All-head (λ x. IsTrue (is_stil_name_byte x)) b bs h) in
    let rest = bytes_quotable bs (All-tail (λ x. IsTrue (is_stil_name_byte x)) b bs h) in
    ((first.0, rest.0), (first.1, rest.1))

pub names_quotable : (names : List Text) → All IsStilName names → AreQuotable names
names_quotable [] h = tt
names_quotable (name ∷ names) h = ((bytes_quotable name (All-head IsStilName name names h).bytes).0, names_quotable names (All-tail IsStilName name names h))

pub names_unquoted : (names : List Text) → All IsStilName names → AreUnquoted names
names_unquoted [] h = tt
names_unquoted (name ∷ names) h = ((bytes_quotable name (All-head IsStilName name names h).bytes).1, names_unquoted names (All-tail IsStilName name names h))

pub quotable-append : (x y : Text) → IsQuotable x → IsQuotable y → IsQuotable (x ++ y)
quotable-append [] y h k = k
quotable-append (b ∷ x) y h k = (h.0, quotable-append x y h.1 k)

pub unquoted-append : (x y : Text) → IsUnquoted x → IsUnquoted y → IsUnquoted (x ++ y)
unquoted-append [] y h k = k
unquoted-append (b ∷ x) y h k = (h.0, unquoted-append x y h.1 k)

pub all_quotable-append : (xs ys : List Text) → AreQuotable xs → AreQuotable ys → AreQuotable (xs ++ ys)
all_quotable-append [] ys h k = k
all_quotable-append (x ∷ xs) ys h k = (h.0, all_quotable-append xs ys h.1 k)

-- ---- letters

digit_class : (d : ℕ) → d < 10 → class_of (48 + d) ≡ class.Letter
unfolding class_of
digit_class zero h = refl
digit_class (suc zero) h = refl
digit_class (suc (suc zero)) h = refl
digit_class (suc (suc (suc zero))) h = refl
digit_class (suc (suc (suc (suc zero)))) h = refl
digit_class (suc (suc (suc (suc (suc zero))))) h = refl
digit_class (suc (suc (suc (suc (suc (suc zero)))))) h = refl
digit_class (suc (suc (suc (suc (suc (suc (suc zero))))))) h = refl
digit_class (suc (suc (suc (suc (suc (suc (suc (suc zero)))))))) h = refl
digit_class (suc (suc (suc (suc (suc (suc (suc (suc (suc zero))))))))) h = refl
digit_class (suc (suc (suc (suc (suc (suc (suc (suc (suc (suc d)))))))))) h = absurd (omega (arith, h))

glyph_of : (d : ℕ) → d < 10 → digit_glyph false d ≡ 48 + d
glyph_of zero h = refl
glyph_of (suc zero) h = refl
glyph_of (suc (suc zero)) h = refl
glyph_of (suc (suc (suc zero))) h = refl
glyph_of (suc (suc (suc (suc zero)))) h = refl
glyph_of (suc (suc (suc (suc (suc zero))))) h = refl
glyph_of (suc (suc (suc (suc (suc (suc zero)))))) h = refl
glyph_of (suc (suc (suc (suc (suc (suc (suc zero))))))) h = refl
glyph_of (suc (suc (suc (suc (suc (suc (suc (suc zero)))))))) h = refl
glyph_of (suc (suc (suc (suc (suc (suc (suc (suc (suc zero))))))))) h = refl
glyph_of (suc (suc (suc (suc (suc (suc (suc (suc (suc (suc d)))))))))) h = absurd (omega (arith, h))

abbrev AreDigits : Text → Type 0
AreDigits [] = ⊤
AreDigits (b ∷ bs) = (class_of b ≡ class.Letter) × (b < 58) × AreDigits bs

either : (P : Text → Type 0) (b : Bool) (x y : Text) → P x → P y → P (if b then x else y)
either P true x y p q = p
either P false x y p q = q

one_digit : (n : ℕ) (acc : Text) → AreDigits acc → AreDigits (digit_glyph false (n % 10) ∷ acc)
one_digit n acc h =
    let small : n % 10 < 10 = omega arith in
    let g = glyph_of (n % 10) small in
    (ap class_of g ∙ digit_class (n % 10) small, omega (arith, g, small), h)

digits_from : (k n : ℕ) (acc : Text) → AreDigits acc → AreDigits (digits_onto k 10 false n acc)
digits_from zero n acc h = h
digits_from (suc k) n acc h =
    let more = one_digit n acc h in
    either AreDigits (n / 10 == 0) (digit_glyph false (n % 10) ∷ acc) (digits_onto k 10 false (n / 10) (digit_glyph false (n % 10) ∷ acc)) more
    (digits_from k (n / 10) (digit_glyph false (n % 10) ∷ acc) more)

abbrev IsSome : Text → Type 0
IsSome [] = ⊥
IsSome (b ∷ bs) = ⊤

some_from : (k n b : ℕ) (acc : Text) → IsSome (digits_onto k 10 false n (b ∷ acc))
some_from zero n b acc = tt
some_from (suc k) n b acc =
    either IsSome (n / 10 == 0) (digit_glyph false (n % 10) ∷ b ∷ acc) (digits_onto k 10 false (n / 10) (digit_glyph false (n % 10) ∷ b ∷ acc)) tt
    (some_from k (n / 10) (digit_glyph false (n % 10)) (b ∷ acc))

some_digits : (k n : ℕ) → IsSome (digits_onto (suc k) 10 false n [])
some_digits k n =
    either IsSome (n / 10 == 0) (digit_glyph false (n % 10) ∷ []) (digits_onto k 10 false (n / 10) (digit_glyph false (n % 10) ∷ [])) tt
    (some_from k (n / 10) (digit_glyph false (n % 10)) [])

decimal_digits : (n : ℕ) → AreDigits (decimal n) × IsSome (decimal n)
unfolding digits
decimal_digits n = (digits_from 64 n [] tt, some_digits 63 n)

digits_letters : (text : Text) → AreDigits text → AreLetters text
digits_letters [] h = tt
digits_letters (b ∷ bs) h = (h.0, digits_letters bs h.2)

some_letters : (text : Text) → AreLetters text → IsSome text → IsValueWord text
some_letters [] h s = s
some_letters (b ∷ bs) h s = h

pub decimal_word : (n : ℕ) → IsValueWord (decimal n)
decimal_word n = let d = decimal_digits n in some_letters (decimal n) (digits_letters (decimal n) d.0) d.1

-- it begins with a byte below the letters
abbrev pub BeginsLow : Text → Type 0
BeginsLow [] = ⊤
BeginsLow (b ∷ bs) = b < 65

digits_low : (text : Text) → AreDigits text → BeginsLow text
digits_low [] h = tt
digits_low (b ∷ bs) h = let l = h.1 in omega (arith, l)

pub decimal_low : (n : ℕ) → BeginsLow (decimal n)
decimal_low n = digits_low (decimal n) ((decimal_digits n).0)

digits_quotable : (text : Text) → AreDigits text → ((b : ℕ) → class_of b ≡ class.Letter → (b == 34) ≡ false) → IsQuotable text
digits_quotable [] h q = tt
digits_quotable (b ∷ bs) h q = (q b h.0, digits_quotable bs h.2 q)

quote_no_letter : class_of 34 ≡ class.Letter → ⊥
unfolding class_of
quote_no_letter e = cc

letter_unquoted : (b : ℕ) → class_of b ≡ class.Letter → (b == 34) ≡ false
letter_unquoted b e = not_equal b 34 (λ s. quote_no_letter (sym (ap class_of s) ∙ e))

pub decimal_quotable : (n : ℕ) → IsQuotable (decimal n)
decimal_quotable n = digits_quotable (decimal n) ((decimal_digits n).0) letter_unquoted

pub numbered_quotable : (stem : Text) (n : ℕ) → IsQuotable stem → AreQuotable (numbered stem n)
numbered_quotable stem zero h = tt
numbered_quotable stem (suc n) h = all_quotable-append (numbered stem n) ((stem ++ decimal n) ∷ []) (numbered_quotable stem n h) (quotable-append stem (decimal n) h (decimal_quotable n), tt)

-- ---- values

letter_at : (b c : ℕ) → class_of c ≡ class.Letter → (b == c) ≡ true → class_of b ≡ class.Letter
letter_at b c h e = ap class_of (is_equal b c e) ∙ h

letters_of : (a b : Bool) (X : Type 0) → (a || b) ≡ true → (a ≡ true → X) → (b ≡ true → X) → X
letters_of true b X e f g = f refl
letters_of false b X e f g = g e

pub value_letters : (class_of 48 ≡ class.Letter) × (class_of 49 ≡ class.Letter) × (class_of 80 ≡ class.Letter) × (class_of 72 ≡ class.Letter) × (class_of 76 ≡ class.Letter) × (class_of 88 ≡ class.Letter) × (class_of 35 ≡ class.Letter)
unfolding class_of
value_letters = (refl, refl, refl, refl, refl, refl, refl)

value_class : (v : CharKind) (b : ℕ) → is_value v b ≡ true → class_of b ≡ class.Letter
value_class values.Bits b e = letters_of (b == 48) (b == 49) (class_of b ≡ class.Letter) e (letter_at b 48 value_letters.0) (letter_at b 49 value_letters.1)
value_class values.Pulses b e = letters_of (b == 48) (b == 80) (class_of b ≡ class.Letter) e (letter_at b 48 value_letters.0) (letter_at b 80 value_letters.2)
value_class values.Strobes b e =
    letters_of (b == 72 || b == 76) (b == 88) (class_of b ≡ class.Letter) e
    (λ f. letters_of (b == 72) (b == 76) (class_of b ≡ class.Letter) f (letter_at b 72 value_letters.3) (letter_at b 76 value_letters.4)) (letter_at b 88 value_letters.5)

word_letters : (v : CharKind) (word : Text) → All (λ b. IsTrue (is_value v b)) word → AreLetters word
word_letters v [] h = tt
word_letters v (b ∷ bs) h = (value_class v b (All-head (λ x. IsTrue (is_value v x)) b bs h), word_letters v bs (All-tail (λ x. IsTrue (is_value v x)) b bs h))

some_size : (word : Text) → 1 ≤ length word → IsSome word
some_size [] h = omega arith
some_size (b ∷ bs) h = tt

pub value_word : (form : Form) (word : Text) → 1 ≤ form.size → IsWord form word → IsValueWord word
value_word form word h w =
    let n = w.0 in
    some_letters word (word_letters form.values word w.1) (some_size word (omega (arith, n, h)))

-- every form has characters
abbrev pub AreSized : List Form → Type 0
AreSized [] = ⊤
AreSized (form ∷ forms) = (1 ≤ form.size) × AreSized forms

pub sized-append : (xs ys : List Form) → AreSized xs → AreSized ys → AreSized (xs ++ ys)
sized-append [] ys h k = k
sized-append (x ∷ xs) ys h k = (h.0, sized-append xs ys h.1 k)

pub sized_copies : (n : ℕ) (form : Form) → 1 ≤ form.size → AreSized (replicate n form)
sized_copies zero form h = tt
sized_copies (suc n) form h = (h, sized_copies n form h)

pub sized_chained : (n : ℕ) (form : Form) → 1 ≤ form.size → AreSized (where_chained n form)
sized_chained zero form h = tt
sized_chained (suc n) form h = (h, tt)

pub assignable : (signals : List Text) (forms : List Form) (words : List Text) → AreQuotable signals → AreSized forms → AllZip IsWord forms words → AreAssignable signals words
assignable [] forms words q s a = tt
assignable (x ∷ signals) forms [] q s a = tt
assignable (x ∷ signals) [] (w ∷ words) q s a = absurd a
assignable (x ∷ signals) (form ∷ forms) (w ∷ words) q s a = (q.0, value_word form w s.0 a.0, assignable signals forms words q.1 s.1 a.1)
