-- The bytes of names, numbers and words.
use Rattle.std.proofs.Common.{◌≡◌, ◌≢◌, ℕ, ◌+◌, ◌%◌, ◌^◌, ◌<◌, ◌≤◌, Bool, true, false, Option, None, Some, MatchOption, ◌↔◌, length, List, [], ◌∷◌, ◌++◌, refl, sym, ◌∙◌, nat_lt, nat_le, ◌&&◌, codes, decimal, arith}
use Rattle.std.specs.List.{All, list_all}
use Rattle.std.proofs.lemmas.Bool.{and_from, and_parts, leb-true, ltb-true}
use Rattle.std.proofs.lemmas.Fmt.{decimal_by_steps}
use Rattle.std.proofs.lemmas.List.Elements.{All-append, All-cons, All-head, All-nil, All-tail, All-weaker}
use Rattle.statement.specs.Netlists.{is_name_byte}
use Rattle.statement.specs.Faults.{value_text}
use Rattle.report.specs.Reports.{IsBenchWord}

abbrev pub Above : ℕ → List ℕ → Type 0
Above low = All (λ b. low < b)

pub above_by_test : (low : ℕ) (xs : List ℕ) → list_all (nat_lt low) xs ≡ true → Above low xs
above_by_test low [] e = All-nil (λ b. low < b)
above_by_test low (x ∷ xs) e =
    let parts = and_parts (nat_lt low x) (list_all (nat_lt low) xs) e in
    All-cons (λ b. low < b) x xs (ltb-true low x parts.0) (above_by_test low xs parts.1)

pub above_less : (low lower : ℕ) (xs : List ℕ) → lower ≤ low → Above low xs → Above lower xs
above_less low lower xs l h = All-weaker (λ b. low < b) (λ b. lower < b) (λ b k. omega arith) xs h

pub above_lacks : (low c : ℕ) (xs : List ℕ) → c ≤ low → Above low xs → All (λ b. b ≢ c) xs
above_lacks low c xs l h = All-weaker (λ b. low < b) (λ b. b ≢ c) (λ b k e. omega arith) xs h

pub above_append : (low : ℕ) (xs ys : List ℕ) → Above low xs → Above low ys → Above low (xs ++ ys)
above_append low xs ys h k = All-append (λ b. low < b) xs ys h k

pub above_cons : (low x : ℕ) (xs : List ℕ) → low < x → Above low xs → Above low (x ∷ xs)
above_cons low x xs h k = All-cons (λ b. low < b) x xs h k

pub number_above : (n : ℕ) → n < 2 ^ 64 → Above 47 (decimal n)
number_above n l =
    decimal_by_steps (λ m ds. Above 47 ds) (λ m s. above_cons 47 (48 + m) [] (omega arith) (All-nil (λ b. 47 < b)))
    (λ m ds t h. above_append 47 ds ((48 + m % 10) ∷ []) h (above_cons 47 (48 + m % 10) [] (omega arith) (All-nil (λ b. 47 < b)))) n l

name_byte_above : (b : ℕ) → is_name_byte b ≡ true → 32 < b
name_byte_above b h =
    let low = leb-true 33 b (and_parts (nat_le 33 b) (nat_le b 126) (and_parts (nat_le 33 b && nat_le b 126) _ h).0).0 in
    omega arith

all_by_test : (test : ℕ → Bool) (xs : List ℕ) → list_all test xs ≡ true → All (λ b. test b ≡ true) xs
all_by_test test [] e = All-nil (λ b. test b ≡ true)
all_by_test test (x ∷ xs) e =
    let parts = and_parts (test x) (list_all test xs) e in
    All-cons (λ b. test b ≡ true) x xs parts.0 (all_by_test test xs parts.1)

test_by_all : (test : ℕ → Bool) (xs : List ℕ) → All (λ b. test b ≡ true) xs → list_all test xs ≡ true
test_by_all test [] h = refl
test_by_all test (x ∷ xs) h =
    and_from (test x) (list_all test xs) (All-head (λ b. test b ≡ true) x xs h) (test_by_all test xs (All-tail (λ b. test b ≡ true) x xs h))

pub word_by_test : (text : List ℕ) (told : Bool) → 0 < length text → told ≡ list_all is_name_byte text → (told ≡ true) ↔ IsBenchWord text
word_by_test text told some e =
    ((λ t. record { some = some; bytes = all_by_test is_name_byte text (sym e ∙ t) }), (λ w. e ∙ test_by_all is_name_byte text w.bytes))

-- what follows from what an answer says
pub option_weaker : {A : Type 0} (o : Option A) {P P' : Type 0} {Q Q' : A → Type 0} → (P → P') → ((x : A) → Q x → Q' x) → MatchOption o P Q → MatchOption o P' Q'
option_weaker None f g h = f h
option_weaker (Some x) f g h = g x h

pub word_above : (name : List ℕ) → IsBenchWord name → Above 32 name
word_above name w = All-weaker (λ b. is_name_byte b ≡ true) (λ b. 32 < b) name_byte_above name w.bytes

pub value_above : (value : Bool) → Above 32 (value_text value)
value_above false = above_by_test 32 (codes "/0") refl
value_above true = above_by_test 32 (codes "/1") refl
