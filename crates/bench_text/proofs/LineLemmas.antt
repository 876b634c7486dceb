-- A line on its own.
use denote.Ref.{Bor}
use Rattle.std.proofs.Common.{◌≡◌, ◌≤◌, ℕ, suc, Bool, true, false, not, cond, List, [], ◌∷◌, length, take, drop, refl, sym, ap, ◌∙◌, arith, ⊎_elim}
use Rattle.std.specs.Prelude.{Option, Some, None, option_map, nat_lt, nat_le, ◌==◌, ◌&&◌, if◌then◌else◌}
use Rattle.smallvec.specs.SmallVec.{SmallVec}
use Rattle.std.proofs.lemmas.Bool.Decides.{nat_tests}
use Rattle.std.specs.List.{list_all, list_any, prefix_len, AllByRecursion}
use Rattle.bench_text.specs.declared.refusal.Names.{Names}
use Rattle.bench_text.specs.declared.refusal.BenchKind.TheVariants.{BadByte, BadLine, BadPins}
use Rattle.bench_text.specs.Bytes.{code, is_allowed, is_blank, is_code}
use Rattle.bench_text.specs.Tokens.{Token, Word, Open, Close, Comma, Equals, mark, begins_in_word, add, tokens}
use Rattle.bench_text.proofs.TokenLemmas.{not_word}
use Rattle.netlist.specs.Gates.{allows_pins}
use Rattle.bench_text.specs.Forms.{Statement, Nothing, Input, Output, Definition, statement}
use Rattle.netlist.specs.Designs.{is_reserved}
use Rattle.bench_text.specs.Refusals.{longest, is_short, statement_names, says}
use Rattle.bench_text.specs.inner.OneLine.{own_refusal, gate_refusal}
use Rattle.bench_text.specs.declared.statements.Statement.{Statement as Borrowed}
use Rattle.bench_text.specs.declared.statements.Statement.TheVariants as borrowed
use Rattle.statement.specs.declared.kinds.Kind.{Kind}
use Rattle.bench_text.specs.inner.Stated.{statement_of}
use Rattle.bench_text.proofs.Lists.{list_any-names, both_true}
use Rattle.bench_text.proofs.Runs.{either, drop-run_yes, take-run_yes, drop-run_no, take-run_no}

some_place : (b : Bool) (n i : ℕ) → cond b (Some n) None ≡ Some i → n ≡ i
some_place true n i e = cc
some_place false n i e = cc

pub no_place : (n m : ℕ) → cond (nat_lt n m) (Some n) None ≡ None → m ≤ n
no_place n m e = ⊎_elim
    (λ (h : nat_lt n m ≡ true). let f : Some n ≡ None = ap (λ b. cond b (Some n) None) (sym h) ∙ e in cc)
    (λ (h : nat_lt n m ≡ false). grind (arith, nat_tests))
    (either (nat_lt n m))

code-more : (b : ℕ) (bs : List ℕ) → not (b == 35) ≡ true → code (b ∷ bs) ≡ b ∷ code bs
code-more b bs h = take-run_yes (λ x. not (x == 35)) b bs h

code-stop : (b : ℕ) (bs : List ℕ) → not (b == 35) ≡ false → code (b ∷ bs) ≡ []
code-stop b bs h = take-run_no (λ x. not (x == 35)) b bs h

-- the run of code at the front is the line without its comment
abbrev IsCut : List ℕ → Type 0
IsCut bs = (take (prefix_len is_code bs) bs ≡ code bs) × (list_all is_allowed (code bs) ≡ true)

cut-more : (b : ℕ) (bs : List ℕ) → is_code b ≡ true → IsCut bs → IsCut (b ∷ bs)
cut-more b bs t h =
    let q = both_true (is_allowed b) (not (b == 35)) t in
    let e = code-more b bs q.1 in
    (take-run_yes is_code b bs t ∙ ap (λ l. b ∷ l) h.0 ∙ sym e, ap (list_all is_allowed) e ∙ rw (q.0, h.1) refl)

-- it is, where the line ends behind it
pub cut-end : (bs : List ℕ) → drop (prefix_len is_code bs) bs ≡ [] → IsCut bs
cut-end [] e = (refl, refl)
cut-end (b ∷ bs) e = ⊎_elim
    (λ (t : is_code b ≡ true). cut-more b bs t (cut-end bs (sym (drop-run_yes is_code b bs t) ∙ e)))
    (λ (f : is_code b ≡ false). let k : b ∷ bs ≡ [] = sym (drop-run_no is_code b bs f) ∙ e in cc)
    (either (is_code b))

is_hash : (c : ℕ) → c ≡ 35 → not (c == 35) ≡ false
is_hash c h = rw h refl

no_hash : (c : ℕ) → (c ≡ 35 → ⊥) → (c == 35) ≡ false
no_hash c h = grind (arith, nat_tests)

-- and where a comment does
pub cut-comment : (bs : List ℕ) (c : ℕ) (rest : List ℕ) → drop (prefix_len is_code bs) bs ≡ c ∷ rest → c ≡ 35 → IsCut bs
cut-comment [] c rest e h = cc
cut-comment (b ∷ bs) c rest e h = ⊎_elim
    (λ (t : is_code b ≡ true). cut-more b bs t (cut-comment bs c rest (sym (drop-run_yes is_code b bs t) ∙ e) h))
    (λ (f : is_code b ≡ false).
    let k : b ∷ bs ≡ c ∷ rest = sym (drop-run_no is_code b bs f) ∙ e in
    let s : b ≡ c = cc in
    let none = code-stop b bs (is_hash b (s ∙ h)) in
    (take-run_no is_code b bs f ∙ sym none, ap (list_all is_allowed) none))
    (either (is_code b))

-- the same of what was cut off there
pub cut-is : (line c : List ℕ) (n : ℕ) → c ≡ take n line → n ≡ prefix_len is_code line → IsCut line → (c ≡ code line) × (list_all is_allowed (code line) ≡ true)
cut-is line c n e f h = (e ∙ ap (λ k. take k line) f ∙ h.0, h.1)

not_left : (a b : Bool) → (a && not b) ≡ false → b ≡ false → a ≡ false
not_left true b h k = cc
not_left false b h k = refl

-- any other byte behind it is one that may not stand there
pub cut-refusal : (bs : List ℕ) (c : ℕ) (rest : List ℕ) → drop (prefix_len is_code bs) bs ≡ c ∷ rest → (c ≡ 35 → ⊥) → list_all is_allowed (code bs) ≡ false
cut-refusal [] c rest e h = cc
cut-refusal (b ∷ bs) c rest e h = ⊎_elim
    (λ (t : is_code b ≡ true).
    let q = both_true (is_allowed b) (not (b == 35)) t in
    ap (list_all is_allowed) (code-more b bs q.1) ∙ rw (q.0) (cut-refusal bs c rest (sym (drop-run_yes is_code b bs t) ∙ e) h))
    (λ (f : is_code b ≡ false).
    let k : b ∷ bs ≡ c ∷ rest = sym (drop-run_no is_code b bs f) ∙ e in
    let s : b ≡ c = cc in
    let no : (b == 35) ≡ false = ap (λ x. x == 35) s ∙ no_hash c h in
    ap (list_all is_allowed) (code-more b bs (ap not no)) ∙ rw (not_left (is_allowed b) (b == 35) f no) refl)
    (either (is_code b))

other_way : (b : Bool) → cond (not b) (Some BadPins) None ≡ cond b None (Some BadPins)
other_way true = refl
other_way false = refl

module _ (reading : Names) (line : List ℕ) where
  pub says-long : list_all (is_short reading) (tokens (code line)) ≡ false → says reading line ≡ None
  unfolding says
  says-long f = ap (λ (b : Bool). if b then statement (tokens (code line)) else None) f

  pub says-it : list_all (is_short reading) (tokens (code line)) ≡ true → (o : Option Statement) → statement (tokens (code line)) ≡ o → says reading line ≡ o
  unfolding says
  says-it t o e = ap (λ (b : Bool). if b then statement (tokens (code line)) else None) t ∙ e

  pub own_refusal-byte : list_all is_allowed (code line) ≡ false → own_refusal reading line ≡ Some BadByte
  unfolding own_refusal
  own_refusal-byte h = rw h refl

  pub own_refusal-form : list_all is_allowed (code line) ≡ true → says reading line ≡ None → own_refusal reading line ≡ Some BadLine
  unfolding own_refusal
  own_refusal-form h e = rw (h, e) refl

  pub own_refusal-gate : (s : Statement) → list_all is_allowed (code line) ≡ true → says reading line ≡ Some s → own_refusal reading line ≡ gate_refusal s
  unfolding own_refusal
  own_refusal-gate Nothing h e = rw (h, e) refl
  own_refusal-gate (Input x) h e = rw (h, e) refl
  own_refusal-gate (Output x) h e = rw (h, e) refl
  own_refusal-gate (Definition z None pins) h e = rw (h, e) refl
  own_refusal-gate (Definition z (Some kind) pins) h e = rw (h, e) (other_way (allows_pins kind (length pins)))

-- what the reader of forms said, in the line's words
pub stands_for : (line bytes : List ℕ) (o p : Option Borrowed) → bytes ≡ code line → option_map statement_of o ≡ statement (tokens bytes) → o ≡ p → statement (tokens (code line)) ≡ option_map statement_of p
stands_for line bytes o p e f g = ap (λ l. statement (tokens l)) (sym e) ∙ sym f ∙ ap (option_map statement_of) g

pub le_true : (m n : ℕ) → m ≤ n → nat_le m n ≡ true
le_true m n h = grind (arith, nat_tests)

abbrev IsWithin : ℕ → Token → Type 0
IsWithin n (Word w) = length w ≤ n
IsWithin n Open = Unit {0}
IsWithin n Close = Unit {0}
IsWithin n Comma = Unit {0}
IsWithin n Equals = Unit {0}

wider : (n : ℕ) (ts : List Token) → AllByRecursion (IsWithin n) ts → AllByRecursion (IsWithin (suc n)) ts
wider n [] h = tt
wider n (Word w ∷ ts) h = (omega (arith, h.0), wider n ts h.1)
wider n (Open ∷ ts) h = (tt, wider n ts h.1)
wider n (Close ∷ ts) h = (tt, wider n ts h.1)
wider n (Comma ∷ ts) h = (tt, wider n ts h.1)
wider n (Equals ∷ ts) h = (tt, wider n ts h.1)

-- what the test of the words said
pub fits_or_not : (reading : Names) (line bytes : List ℕ) (r b : Bool) → bytes ≡ code line → r ≡ list_all (is_short reading) (tokens bytes) → r ≡ b → list_all (is_short reading) (tokens (code line)) ≡ b
fits_or_not reading line bytes r b e f g = ap (λ l. list_all (is_short reading) (tokens l)) (sym e) ∙ sym f ∙ g

-- a word is no longer than the bytes that it stands in
longest_in : (b : ℕ) (o : Option Token) (goes_on : Bool) (ts : List Token) (n : ℕ) → AllByRecursion (IsWithin n) ts → mark b ≡ o → AllByRecursion (IsWithin (suc n)) (add b o goes_on ts)
longest_in b (Some t) goes_on ts n h m = (marked t m, wider n ts h)
  where
    marked : (t : Token) → mark b ≡ Some t → IsWithin (suc n) t
    marked (Word w) e = absurd (not_word (b == 40) (b == 41) (b == 44) (b == 61) w e)
    marked Open e = tt
    marked Close e = tt
    marked Comma e = tt
    marked Equals e = tt
longest_in b None true [] n h m = tt
longest_in b None true (Word w ∷ ts) n h m = (omega (arith, h.0), wider n ts h.1)
longest_in b None true (Open ∷ ts) n h m = (tt, wider n ts h.1)
longest_in b None true (Close ∷ ts) n h m = (tt, wider n ts h.1)
longest_in b None true (Comma ∷ ts) n h m = (tt, wider n ts h.1)
longest_in b None true (Equals ∷ ts) n h m = (tt, wider n ts h.1)
longest_in b None false ts n h m = (omega arith, wider n ts h)

words-within : (bs : List ℕ) → AllByRecursion (IsWithin (length bs)) (tokens bs)
unfolding tokens
words-within [] = tt
words-within (b ∷ bs) = ⊎_elim
    (λ (t : is_blank b ≡ true). rw t (wider (length bs) (tokens bs) (words-within bs)))
    (λ (f : is_blank b ≡ false). rw f (longest_in b (mark b) (begins_in_word bs) (tokens bs) (length bs) (words-within bs) refl))
    (either (is_blank b))

short_all : (reading : Names) (n : ℕ) (ts : List Token) → n ≤ longest reading → AllByRecursion (IsWithin n) ts → list_all (is_short reading) ts ≡ true
short_all reading n [] h k = refl
short_all reading n (Word w ∷ ts) h k = rw (le_true (length w) (longest reading) (omega (arith, k.0)), short_all reading n ts h k.1) refl
short_all reading n (Open ∷ ts) h k = short_all reading n ts h k.1
short_all reading n (Close ∷ ts) h k = short_all reading n ts h k.1
short_all reading n (Comma ∷ ts) h k = short_all reading n ts h k.1
short_all reading n (Equals ∷ ts) h k = short_all reading n ts h k.1

pub short_line : (reading : Names) (bs : List ℕ) → length bs ≤ longest reading → list_all (is_short reading) (tokens bs) ≡ true
short_line reading bs h = short_all reading (length bs) (tokens bs) h (words-within bs)

pub reserved-definition : (said : Borrowed) (z : Bor (List ℕ)) (gate : Option Kind) (pins : SmallVec (Bor (List ℕ))) (items : List (Bor (List ℕ))) (r : Bool) →
    said ≡ borrowed.Definition z gate pins → r ≡ list_any (λ x. is_reserved x.now) items → items ≡ pins.items → is_reserved z.now ≡ false → r ≡ list_any is_reserved (statement_names (statement_of said))
reserved-definition said z gate pins items r i e d h =
    rw i (rw h (e ∙ ap (list_any (λ (x : Bor (List ℕ)). is_reserved x.now)) d ∙ list_any-names is_reserved pins.items))
