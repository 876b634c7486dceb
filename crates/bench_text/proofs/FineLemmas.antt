-- A line that is not refused: its names are names, and its gate is known and has a right number of pins.
use Rattle.std.proofs.Common.{◌≡◌, ◌≤◌, ◌+◌, ℕ, Bool, true, false, not, cond, List, [], ◌∷◌, ◌++◌, length, refl, sym, ap, ◌∙◌, map, subst, arith, ⊎_elim}
use Rattle.std.specs.Prelude.{Option, Some, None, option_map, nat_le, is_none, unwrap_or, ◌&&◌, ◌==◌, if◌then◌else◌, codes, IsTrue}
use Rattle.std.specs.List.{list_all, AllByRecursion}
use Rattle.std.proofs.lemmas.Bool.Decides.{nat_tests}
use Rattle.statement.specs.declared.kinds.Kind.{Kind}
use Rattle.netlist.specs.Gates.{allows_pins}
use Rattle.statement.specs.Netlists.{is_name_byte, IsName}
use Rattle.bench_text.specs.declared.refusal.Names.{Names}
use Rattle.bench_text.specs.declared.refusal.Names.TheVariants.{Design, Scanned}
use Rattle.bench_text.specs.declared.refusal.BenchKind.{BenchKind}
use Rattle.bench_text.specs.declared.refusal.BenchKind.TheVariants.{BadByte, BadLine, UnknownGate, BadPins, DefinedTwice, Reserved}
use Rattle.bench_text.specs.declared.refusal.BenchRefusal.{BenchRefusal}
use Rattle.bench_text.specs.Bytes.{code, is_allowed}
use Rattle.bench_text.specs.Tokens.{Token, Word, Open, Close, Comma, Equals, is_word_byte, tokens}
use Rattle.bench_text.specs.Keywords.{is_keyword, kind_of}
use Rattle.bench_text.specs.Forms.{Statement, Nothing, Input, Output, Definition, closed_name, pins, more_pins, definition, statement}
use Rattle.bench_text.specs.Refusals.{statement_names, longest, is_short, says, line_refusal, holds, has_unknown_gate, has_bad_pins}
use Rattle.bench_text.specs.inner.OneLine.{gate_refusal}
use Rattle.bench_text.specs.Said.{notes_from, statements_of}
use Rattle.bench_text.specs.Texts.{statement_on, signals_of, at_line, first_refusal}
use Rattle.bench_text.proofs.Plain.{is_plain, IsRun, IsNamed}
use Rattle.bench_text.proofs.Lists.{both_true, index-all}
use Rattle.bench_text.proofs.Runs.{either, take-run_yes, take-run_no}
use Rattle.bench_text.proofs.NameLemmas.{tokens-named}

pub record IsFine (s : Statement) : Type 0 where
  pub names : AllByRecursion IsName (statement_names s)
  pub gate : gate_refusal s ≡ None

-- the bytes of names
run-byte : (b : ℕ) → is_word_byte b ≡ true → is_plain b ≡ true → is_name_byte b ≡ true
run-byte b h k = grind (arith, nat_tests)

pub run-bytes : (x : List ℕ) → list_all is_word_byte x ≡ true → list_all is_plain x ≡ true → AllByRecursion (λ b. IsTrue (is_name_byte b)) x
run-bytes [] h k = tt
run-bytes (b ∷ x) h k =
    let p = both_true (is_word_byte b) (list_all is_word_byte x) h in
    let q = both_true (is_plain b) (list_all is_plain x) k in
    (run-byte b p.0 q.0, run-bytes x p.1 q.1)

run-name : (x : List ℕ) → IsRun x → length x ≤ 261 → IsName x
run-name x h k = record { some = h.some; short = k; bytes = index-all (λ b. IsTrue (is_name_byte b)) x (run-bytes x h.word h.plain) }

-- the code of a line holds no `#`
no_hash : (line : List ℕ) → list_all (λ b. not (b == 35)) (code line) ≡ true
no_hash [] = refl
no_hash (b ∷ line) = ⊎_elim
    (λ (t : not (b == 35) ≡ true). ap (list_all (λ x. not (x == 35))) (take-run_yes (λ x. not (x == 35)) b line t) ∙ (rw (t, no_hash line) refl))
    (λ (f : not (b == 35) ≡ false). ap (list_all (λ x. not (x == 35))) (take-run_no (λ x. not (x == 35)) b line f))
    (either (not (b == 35)))

all_both : (p q : ℕ → Bool) (xs : List ℕ) → list_all p xs ≡ true → list_all q xs ≡ true → list_all (λ x. p x && q x) xs ≡ true
all_both p q [] h k = refl
all_both p q (x ∷ xs) h k =
    let a = both_true (p x) (list_all p xs) h in
    let b = both_true (q x) (list_all q xs) k in
    rw (a.0, b.0, all_both p q xs a.1 b.1) refl

-- a test of each word
abbrev pub Words : (List ℕ → Type 0) → Token → Type 0
Words P (Word w) = P w
Words P Open = Unit {0}
Words P Close = Unit {0}
Words P Comma = Unit {0}
Words P Equals = Unit {0}

longest-most : (reading : Names) → longest reading ≤ 261
longest-most Design = omega arith
longest-most Scanned = omega arith

pub le_from : (m n : ℕ) → nat_le m n ≡ true → m ≤ n
le_from m n h = grind (arith, nat_tests)

named-words : (reading : Names) (ts : List Token) → AllByRecursion IsNamed ts → list_all (is_short reading) ts ≡ true → AllByRecursion (Words IsName) ts
named-words reading [] h k = tt
named-words reading (Word w ∷ ts) h k =
    let p = both_true (nat_le (length w) (longest reading)) (list_all (is_short reading) ts) k in
    let m = le_from (length w) (longest reading) p.0 in
    let n = longest-most reading in
    (run-name w h.0 (omega arith), named-words reading ts h.1 p.1)
named-words reading (Open ∷ ts) h k = (tt, named-words reading ts h.1 k)
named-words reading (Close ∷ ts) h k = (tt, named-words reading ts h.1 k)
named-words reading (Comma ∷ ts) h k = (tt, named-words reading ts h.1 k)
named-words reading (Equals ∷ ts) h k = (tt, named-words reading ts h.1 k)

-- the names of a statement are words of its line
module _ (P : List ℕ → Type 0) where
  closed_name-named : (ts : List Token) (x : List ℕ) → closed_name ts ≡ Some x → AllByRecursion (Words P) ts → P x
  unfolding closed_name
  closed_name-named [] x e h = cc
  closed_name-named (Word w ∷ []) x e h = cc
  closed_name-named (Word w ∷ Word v ∷ ts) x e h = cc
  closed_name-named (Word w ∷ Open ∷ ts) x e h = cc
  closed_name-named (Word w ∷ Close ∷ []) x e h = let s : w ≡ x = cc in subst P s h.0
  closed_name-named (Word w ∷ Close ∷ t ∷ ts) x e h = cc
  closed_name-named (Word w ∷ Comma ∷ ts) x e h = cc
  closed_name-named (Word w ∷ Equals ∷ ts) x e h = cc
  closed_name-named (Open ∷ ts) x e h = cc
  closed_name-named (Close ∷ ts) x e h = cc
  closed_name-named (Comma ∷ ts) x e h = cc
  closed_name-named (Equals ∷ ts) x e h = cc

  mapped-pins : (w : List ℕ) (o : Option (List (List ℕ))) (xs : List (List ℕ)) → option_map (λ ys. w ∷ ys) o ≡ Some xs → P w → ((ys : List (List ℕ)) → o ≡ Some ys → AllByRecursion P ys) → AllByRecursion P xs
  mapped-pins w None xs e h k = cc
  mapped-pins w (Some ys) xs e h k = let s : w ∷ ys ≡ xs = cc in subst (AllByRecursion P) s (h, k ys refl)

  more_pins-named : (ts : List Token) (xs : List (List ℕ)) → more_pins ts ≡ Some xs → AllByRecursion (Words P) ts → AllByRecursion P xs
  unfolding more_pins
  more_pins-named [] xs e h = cc
  more_pins-named (Word w ∷ ts) xs e h = cc
  more_pins-named (Open ∷ ts) xs e h = cc
  more_pins-named (Close ∷ []) xs e h = let s : [] ≡ xs = cc in subst (AllByRecursion P) s tt
  more_pins-named (Close ∷ t ∷ ts) xs e h = cc
  more_pins-named (Comma ∷ []) xs e h = cc
  more_pins-named (Comma ∷ Word w ∷ ts) xs e h = mapped-pins w (more_pins ts) xs e h.1.0 (λ (ys : List (List ℕ)) (f : more_pins ts ≡ Some ys). more_pins-named ts ys f h.1.1)
  more_pins-named (Comma ∷ Open ∷ ts) xs e h = cc
  more_pins-named (Comma ∷ Close ∷ ts) xs e h = cc
  more_pins-named (Comma ∷ Comma ∷ ts) xs e h = cc
  more_pins-named (Comma ∷ Equals ∷ ts) xs e h = cc
  more_pins-named (Equals ∷ ts) xs e h = cc

  pins-named : (ts : List Token) (xs : List (List ℕ)) → pins ts ≡ Some xs → AllByRecursion (Words P) ts → AllByRecursion P xs
  unfolding pins
  pins-named [] xs e h = cc
  pins-named (Word w ∷ ts) xs e h = mapped-pins w (more_pins ts) xs e h.0 (λ (ys : List (List ℕ)) (f : more_pins ts ≡ Some ys). more_pins-named ts ys f h.1)
  pins-named (Open ∷ ts) xs e h = cc
  pins-named (Close ∷ []) xs e h = let s : [] ≡ xs = cc in subst (AllByRecursion P) s tt
  pins-named (Close ∷ t ∷ ts) xs e h = cc
  pins-named (Comma ∷ ts) xs e h = cc
  pins-named (Equals ∷ ts) xs e h = cc

  mapped-definition : (z : List ℕ) (gate : Option Kind) (o : Option (List (List ℕ))) (s : Statement) → option_map (λ ys. Definition z gate ys) o ≡ Some s → P z → ((ys : List (List ℕ)) → o ≡ Some ys → AllByRecursion P ys) → AllByRecursion P (statement_names s)
  mapped-definition z gate None s e h k = cc
  mapped-definition z gate (Some ys) s e h k = let t : Definition z gate ys ≡ s = cc in subst (λ x. AllByRecursion P (statement_names x)) t (h, k ys refl)

  definition-named : (z : List ℕ) (ts : List Token) (s : Statement) → definition z ts ≡ Some s → P z → AllByRecursion (Words P) ts → AllByRecursion P (statement_names s)
  unfolding definition
  definition-named z [] s e p h = cc
  definition-named z (Word g ∷ []) s e p h = cc
  definition-named z (Word g ∷ Word v ∷ ts) s e p h = cc
  definition-named z (Word g ∷ Open ∷ ts) s e p h = mapped-definition z (kind_of g) (pins ts) s e p (λ (ys : List (List ℕ)) (f : pins ts ≡ Some ys). pins-named ts ys f h.1.1)
  definition-named z (Word g ∷ Close ∷ ts) s e p h = cc
  definition-named z (Word g ∷ Comma ∷ ts) s e p h = cc
  definition-named z (Word g ∷ Equals ∷ ts) s e p h = cc
  definition-named z (Open ∷ ts) s e p h = cc
  definition-named z (Close ∷ ts) s e p h = cc
  definition-named z (Comma ∷ ts) s e p h = cc
  definition-named z (Equals ∷ ts) s e p h = cc

  mapped-input : (o : Option (List ℕ)) (s : Statement) → option_map (λ x. Input x) o ≡ Some s → ((x : List ℕ) → o ≡ Some x → P x) → AllByRecursion P (statement_names s)
  mapped-input None s e k = cc
  mapped-input (Some x) s e k = let t : Input x ≡ s = cc in subst (λ y. AllByRecursion P (statement_names y)) t (k x refl, tt)

  mapped-output : (o : Option (List ℕ)) (s : Statement) → option_map (λ x. Output x) o ≡ Some s → ((x : List ℕ) → o ≡ Some x → P x) → AllByRecursion P (statement_names s)
  mapped-output None s e k = cc
  mapped-output (Some x) s e k = let t : Output x ≡ s = cc in subst (λ y. AllByRecursion P (statement_names y)) t (k x refl, tt)

  port-cases : (a b : Bool) (o : Option (List ℕ)) (s : Statement) → cond a (option_map (λ x. Input x) o) (cond b (option_map (λ x. Output x) o) None) ≡ Some s → ((x : List ℕ) → o ≡ Some x → P x) → AllByRecursion P (statement_names s)
  port-cases true b o s e k = mapped-input o s e k
  port-cases false true o s e k = mapped-output o s e k
  port-cases false false o s e k = cc

  pub statement-named : (ts : List Token) (s : Statement) → statement ts ≡ Some s → AllByRecursion (Words P) ts → AllByRecursion P (statement_names s)
  unfolding statement
  statement-named [] s e h = let t : Nothing ≡ s = cc in subst (λ y. AllByRecursion P (statement_names y)) t tt
  statement-named (Word w ∷ []) s e h = cc
  statement-named (Word w ∷ Word v ∷ ts) s e h = cc
  statement-named (Word w ∷ Open ∷ ts) s e h =
      port-cases (is_keyword w (codes "INPUT")) (is_keyword w (codes "OUTPUT")) (closed_name ts) s e (λ (x : List ℕ) (f : closed_name ts ≡ Some x). closed_name-named ts x f h.1.1)
  statement-named (Word w ∷ Close ∷ ts) s e h = cc
  statement-named (Word w ∷ Comma ∷ ts) s e h = cc
  statement-named (Word w ∷ Equals ∷ ts) s e h = definition-named w ts s e h.0 h.1.1
  statement-named (Open ∷ ts) s e h = cc
  statement-named (Close ∷ ts) s e h = cc
  statement-named (Comma ∷ ts) s e h = cc
  statement-named (Equals ∷ ts) s e h = cc

-- none of the six kinds applies
six : (a b c d e f : Bool) → cond a (Some BadByte) (cond b (Some BadLine) (cond c (Some UnknownGate) (cond d (Some BadPins) (cond e (Some DefinedTwice) (cond f (Some Reserved) None))))) ≡ None
    → (a ≡ false) × (b ≡ false) × (c ≡ false) × (d ≡ false)
six true b c d e f h = cc
six false true c d e f h = cc
six false false true d e f h = cc
six false false false true e f h = cc
six false false false false e f h = (refl, refl, refl, refl)

not_false : (b : Bool) → not b ≡ false → b ≡ true
not_false true h = refl
not_false false h = cc

gate-fine : (s : Statement) → has_unknown_gate s ≡ false → has_bad_pins s ≡ false → gate_refusal s ≡ None
gate-fine Nothing h k = refl
gate-fine (Input x) h k = refl
gate-fine (Output x) h k = refl
gate-fine (Definition z None pins) h k = cc
gate-fine (Definition z (Some kind) pins) h k = rw (not_false (allows_pins kind (length pins)) k) refl

said-some : (b : Bool) (o : Option Statement) → is_none (if b then o else None) ≡ false → (s : Statement) × (b ≡ true) × (o ≡ Some s)
said-some true None h = cc
said-some true (Some s) h = (s, refl, refl)
said-some false o h = cc

module _ (reading : Names) (before : List (List ℕ)) (line : List ℕ) (fine : line_refusal reading before line ≡ None) where
  none_of_six : (list_all is_allowed (code line) ≡ true) × (is_none (says reading line) ≡ false) × (holds has_unknown_gate (says reading line) ≡ false) × (holds has_bad_pins (says reading line) ≡ false)
  unfolding line_refusal
  none_of_six = let p = six _ _ _ _ _ _ fine in (not_false _ p.0, p.1, p.2, p.3)

  pub reads-it : (s : Statement) × (list_all (is_short reading) (tokens (code line)) ≡ true) × (statement (tokens (code line)) ≡ Some s)
  unfolding says
  reads-it = said-some (list_all (is_short reading) (tokens (code line))) (statement (tokens (code line))) none_of_six.1

  pub says-that : says reading line ≡ Some (reads-it.0)
  unfolding says
  says-that = ap (λ (b : Bool). if b then statement (tokens (code line)) else None) reads-it.1 ∙ reads-it.2

  pub said-fine : IsFine (statement_on reading line)
  said-fine =
      let s = reads-it in
      let plain = all_both is_allowed (λ b. not (b == 35)) (code line) none_of_six.0 (no_hash line) in
      let words = named-words reading (tokens (code line)) (tokens-named (code line) plain) s.1 in
      let it : statement_on reading line ≡ s.0 = ap (λ o. unwrap_or o Nothing) says-that in
      subst IsFine (sym it) (record {
        names = statement-named IsName (tokens (code line)) s.0 s.2 words;
        gate = gate-fine s.0 (ap (holds has_unknown_gate) (sym says-that) ∙ none_of_six.2) (ap (holds has_bad_pins) (sym says-that) ∙ none_of_six.3);
      })

-- no line is refused
pub at_line-none : (n : ℕ) (o : Option BenchKind) (later : Option BenchRefusal) → at_line n o later ≡ None → (o ≡ None) × (later ≡ None)
at_line-none n None later h = (refl, h)
at_line-none n (Some k) later h = cc

pub lines-fine : (reading : Names) (earlier : List Statement) (ls : List (List ℕ)) → first_refusal reading earlier ls ≡ None → AllByRecursion IsFine (map (statement_on reading) ls)
unfolding first_refusal
lines-fine reading earlier [] h = tt
lines-fine reading earlier (line ∷ ls) h =
    let p = at_line-none (length earlier + 1) (line_refusal reading (signals_of earlier) line) (first_refusal reading (earlier ++ statement_on reading line ∷ []) ls) h in
    (said-fine reading (signals_of earlier) line p.0, lines-fine reading (earlier ++ statement_on reading line ∷ []) ls p.1)

-- what holds of each line's statement
pub noted-all : (P : Statement → Type 0) (n : ℕ) (ss : List Statement) → AllByRecursion P ss → AllByRecursion P (statements_of (notes_from n ss))
noted-all P n [] h = tt
noted-all P n (Nothing ∷ ss) h = noted-all P (n + 1) ss h.1
noted-all P n (Input x ∷ ss) h = (h.0, noted-all P (n + 1) ss h.1)
noted-all P n (Output x ∷ ss) h = (h.0, noted-all P (n + 1) ss h.1)
noted-all P n (Definition z gate xs ∷ ss) h = (h.0, noted-all P (n + 1) ss h.1)
