-- What is written in canonical lines is read again.
use Rattle.std.proofs.Common.{◌≡◌, ◌<◌, ℕ, true, false, not, List, [], ◌∷◌, ◌++◌, length, take, refl, sym, ap, ◌∙◌, append_assoc, arith, take_all, lit<, ⊎_elim}
use Rattle.std.specs.Prelude.{Some, option_map, ◌==◌, codes}
use Rattle.std.specs.List.{prefix_len, list_all, AllByRecursion, onto_first}
use Rattle.statement.specs.declared.kinds.Kind.{Kind}
use Rattle.statement.specs.declared.kinds.Kind.TheVariants.{And, Nand, Or, Nor, Xor, Xnor, Not, Buff, Dff, Const0, Const1}
use Rattle.bench_text.specs.Bytes.{code, is_allowed, lines}
use Rattle.bench_text.specs.Tokens.{Word, Open, Close, Comma, Equals, is_word_byte, begins_in_word, tokens}
use Rattle.bench_text.specs.Keywords.{kind_of}
use Rattle.bench_text.specs.Forms.{Statement, Input, Output, Definition, closed_name, pins, more_pins, definition, statement}
use Rattle.statement.specs.Benches.{word, pin_list, port_line, definition_line}
use Rattle.bench_text.specs.Canonical.{further, ended}
use Rattle.bench_text.proofs.Plain.{is_plain, IsRun, Says}
use Rattle.std.proofs.lemmas.Bool.{false≢true}
use Rattle.std.proofs.lemmas.Bool.Decides.{nat_tests}
use Rattle.bench_text.proofs.Lists.{both_true}
use Rattle.bench_text.proofs.Runs.{either}
use Rattle.bench_text.proofs.TextLemmas.{lines-end, lines-more, lines-none}
use Rattle.bench_text.proofs.TokenLemmas.{tokens-mark, longer-word, one-word}

-- a word in front of what goes on with no byte of a word
pub tokens-front : (w rest : List ℕ) → list_all is_word_byte w ≡ true → 0 < length w → begins_in_word rest ≡ false → tokens (w ++ rest) ≡ Word w ∷ tokens rest
tokens-front [] rest h k n = absurd (omega arith)
tokens-front (b ∷ []) rest h k n = one-word b rest (both_true _ _ h).0 n
tokens-front (b ∷ c ∷ w) rest h k n =
    let more = (both_true _ _ h).1 in
    longer-word b (c ∷ w ++ rest) (c ∷ w) (tokens rest) (both_true _ _ h).0 (both_true _ _ more).0 (tokens-front (c ∷ w) rest more (omega arith) n)

pub tokens-blank : (bs : List ℕ) → tokens (32 ∷ bs) ≡ tokens bs
unfolding tokens
tokens-blank bs = refl

pub tokens-open : (bs : List ℕ) → tokens (40 ∷ bs) ≡ Open ∷ tokens bs
tokens-open bs = tokens-mark 40 bs Open refl refl

tokens-close : (bs : List ℕ) → tokens (41 ∷ bs) ≡ Close ∷ tokens bs
tokens-close bs = tokens-mark 41 bs Close refl refl

pub tokens-comma : (bs : List ℕ) → tokens (44 ∷ bs) ≡ Comma ∷ tokens bs
tokens-comma bs = tokens-mark 44 bs Comma refl refl

pub tokens-equals : (bs : List ℕ) → tokens (61 ∷ bs) ≡ Equals ∷ tokens bs
tokens-equals bs = tokens-mark 61 bs Equals refl refl

tokens-none : tokens [] ≡ []
unfolding tokens
tokens-none = refl

pub tokens-last : tokens (codes ")") ≡ Close ∷ []
tokens-last = tokens-close [] ∙ ap (λ ts. Close ∷ ts) tokens-none

pub no_word : (xs : List (List ℕ)) → begins_in_word (further xs ++ codes ")") ≡ false
no_word [] = refl
no_word (x ∷ xs) = refl

more_pins-again : (xs : List (List ℕ)) → AllByRecursion IsRun xs → more_pins (tokens (further xs ++ codes ")")) ≡ Some xs
unfolding more_pins
more_pins-again [] h = ap more_pins tokens-last
more_pins-again (x ∷ xs) h =
    let split : (44 ∷ 32 ∷ x ++ further xs) ++ codes ")" ≡ 44 ∷ 32 ∷ (x ++ (further xs ++ codes ")")) = ap (λ l. 44 ∷ 32 ∷ l) (append_assoc x (further xs) (codes ")")) in
    ap (λ l. more_pins (tokens l)) split
    ∙ ap more_pins (tokens-comma _ ∙ ap (λ ts. Comma ∷ ts) (tokens-blank _ ∙ tokens-front x (further xs ++ codes ")") h.0.word h.0.some (no_word xs)))
    ∙ ap (option_map (λ ys. x ∷ ys)) (more_pins-again xs h.1)

pins-again : (xs : List (List ℕ)) → AllByRecursion IsRun xs → pins (tokens (pin_list xs ++ codes ")")) ≡ Some xs
unfolding pins
pins-again [] h = ap pins tokens-last
pins-again (x ∷ xs) h =
    ap (λ l. pins (tokens l)) (append_assoc x (further xs) (codes ")"))
    ∙ ap pins (tokens-front x (further xs ++ codes ")") h.0.word h.0.some (no_word xs))
    ∙ ap (option_map (λ ys. x ∷ ys)) (more_pins-again xs h.1)

kind-again : (kind : Kind) → kind_of (word kind) ≡ Some kind
unfolding kind_of
kind-again And = refl
kind-again Nand = refl
kind-again Or = refl
kind-again Nor = refl
kind-again Xor = refl
kind-again Xnor = refl
kind-again Not = refl
kind-again Buff = refl
kind-again Dff = refl
kind-again Const0 = refl
kind-again Const1 = refl

pub gate-name : (kind : Kind) → IsRun (word kind)
gate-name And = record { some = lit< tt; word = refl; plain = refl }
gate-name Nand = record { some = lit< tt; word = refl; plain = refl }
gate-name Or = record { some = lit< tt; word = refl; plain = refl }
gate-name Nor = record { some = lit< tt; word = refl; plain = refl }
gate-name Xor = record { some = lit< tt; word = refl; plain = refl }
gate-name Xnor = record { some = lit< tt; word = refl; plain = refl }
gate-name Not = record { some = lit< tt; word = refl; plain = refl }
gate-name Buff = record { some = lit< tt; word = refl; plain = refl }
gate-name Dff = record { some = lit< tt; word = refl; plain = refl }
gate-name Const0 = record { some = lit< tt; word = refl; plain = refl }
gate-name Const1 = record { some = lit< tt; word = refl; plain = refl }

pub regroup : (a b c d e f : List ℕ) → ((((a ++ b) ++ c) ++ d) ++ e) ++ f ≡ a ++ (b ++ (c ++ (d ++ (e ++ f))))
regroup a b c d e f = simp append_assoc

pub definition-again : (z : List ℕ) (kind : Kind) (xs : List (List ℕ)) → IsRun z → AllByRecursion IsRun xs → statement (tokens (definition_line z kind xs)) ≡ Some (Definition z (Some kind) xs)
unfolding definition_line definition statement
definition-again z kind xs h k =
    let k' = gate-name kind in
    ap (λ l. statement (tokens l)) (regroup z (codes " = ") (word kind) (codes "(") (pin_list xs) (codes ")"))
    ∙ ap statement (tokens-front z _ h.word h.some refl ∙ ap (λ ts. Word z ∷ ts) (tokens-blank _ ∙ tokens-equals _ ∙ ap (λ ts. Equals ∷ ts) (tokens-blank _ ∙ tokens-front (word kind) _ k'.word k'.some refl ∙ ap (λ ts. Word (word kind) ∷ ts) (tokens-open _))))
    ∙ ap (λ g. option_map (λ ys. Definition z g ys) (pins (tokens (pin_list xs ++ codes ")")))) (kind-again kind)
    ∙ ap (option_map (λ ys. Definition z (Some kind) ys)) (pins-again xs k)

module _ (keyword x : List ℕ) (k : IsRun keyword) (h : IsRun x) where
  pub port-tokens : tokens (port_line keyword x) ≡ Word keyword ∷ Open ∷ Word x ∷ Close ∷ []
  unfolding port_line
  port-tokens =
      let right : ((keyword ++ codes "(") ++ x) ++ codes ")" ≡ keyword ++ (codes "(" ++ (x ++ codes ")")) = simp append_assoc in
      ap tokens right ∙ tokens-front keyword _ k.word k.some refl
      ∙ ap (λ ts. Word keyword ∷ ts) (tokens-open _ ∙ ap (λ ts. Open ∷ ts) (tokens-front x (codes ")") h.word h.some refl ∙ ap (λ ts. Word x ∷ ts) tokens-last))

input-again : (x : List ℕ) → IsRun x → statement (tokens (port_line (codes "INPUT") x)) ≡ Some (Input x)
unfolding statement closed_name
input-again x h = ap statement (port-tokens (codes "INPUT") x (record { some = lit< tt; word = refl; plain = refl }) h)

output-again : (x : List ℕ) → IsRun x → statement (tokens (port_line (codes "OUTPUT") x)) ≡ Some (Output x)
unfolding statement closed_name
output-again x h = ap statement (port-tokens (codes "OUTPUT") x (record { some = lit< tt; word = refl; plain = refl }) h)

-- lines without a comment and with allowed bytes alone
plain-append : (a b : List ℕ) → list_all is_plain a ≡ true → list_all is_plain b ≡ true → list_all is_plain (a ++ b) ≡ true
plain-append [] b h k = k
plain-append (x ∷ a) b h k = let p = both_true (is_plain x) (list_all is_plain a) h in rw (p.0, plain-append a b p.1 k) refl

plain-allowed : (a : List ℕ) → list_all is_plain a ≡ true → list_all is_allowed a ≡ true
plain-allowed [] h = refl
plain-allowed (x ∷ a) h = let p = both_true (is_plain x) (list_all is_plain a) h in rw ((both_true (is_allowed x) (not (x == 35)) p.0).0, plain-allowed a p.1) refl

plain-length : (a : List ℕ) → list_all is_plain a ≡ true → prefix_len (λ b. not (b == 35)) a ≡ length a
plain-length [] h = refl
plain-length (x ∷ a) h =
    let p = both_true (is_plain x) (list_all is_plain a) h in
    let q = (both_true (is_allowed x) (not (x == 35)) p.0).1 in
    let n = plain-length a p.1 in
    rw q (omega (arith, n))

pub plain-code : (a : List ℕ) → list_all is_plain a ≡ true → code a ≡ a
plain-code a h = ap (λ n. take n a) (plain-length a h) ∙ take_all (length a) a (omega arith)

plain-further : (xs : List (List ℕ)) → AllByRecursion IsRun xs → list_all is_plain (further xs) ≡ true
plain-further [] h = refl
plain-further (x ∷ xs) h = plain-append (codes ", " ++ x) (further xs) h.0.plain (plain-further xs h.1)

plain-pins : (xs : List (List ℕ)) → AllByRecursion IsRun xs → list_all is_plain (pin_list xs) ≡ true
plain-pins [] h = refl
plain-pins (x ∷ xs) h = plain-append x (further xs) h.0.plain (plain-further xs h.1)

pub plain-definition : (z : List ℕ) (kind : Kind) (xs : List (List ℕ)) → IsRun z → AllByRecursion IsRun xs → list_all is_plain (definition_line z kind xs) ≡ true
unfolding definition_line
plain-definition z kind xs h k =
    plain-append ((((z ++ codes " = ") ++ word kind) ++ codes "(") ++ pin_list xs) (codes ")")
    (plain-append (((z ++ codes " = ") ++ word kind) ++ codes "(") (pin_list xs)
    (plain-append ((z ++ codes " = ") ++ word kind) (codes "(") (plain-append (z ++ codes " = ") (word kind) (plain-append z (codes " = ") h.plain refl) (gate-name kind).plain) refl)
    (plain-pins xs k))
    refl

pub plain-port : (keyword x : List ℕ) → IsRun keyword → IsRun x → list_all is_plain (port_line keyword x) ≡ true
unfolding port_line
plain-port keyword x k h = plain-append ((keyword ++ codes "(") ++ x) (codes ")") (plain-append (keyword ++ codes "(") x (plain-append keyword (codes "(") k.plain refl) h.plain) refl

says : (line : List ℕ) (s : Statement) → list_all is_plain line ≡ true → statement (tokens line) ≡ Some s → Says line s
says line s h e = (ap (list_all is_allowed) (plain-code line h) ∙ plain-allowed line h, ap (λ l. statement (tokens l)) (plain-code line h) ∙ e)

pub input-name : IsRun (codes "INPUT")
input-name = record { some = lit< tt; word = refl; plain = refl }

pub output-name : IsRun (codes "OUTPUT")
output-name = record { some = lit< tt; word = refl; plain = refl }

pub input-says : (x : List ℕ) → IsRun x → Says (port_line (codes "INPUT") x) (Input x)
input-says x h = says (port_line (codes "INPUT") x) (Input x) (plain-port (codes "INPUT") x input-name h) (input-again x h)

pub output-says : (x : List ℕ) → IsRun x → Says (port_line (codes "OUTPUT") x) (Output x)
output-says x h = says (port_line (codes "OUTPUT") x) (Output x) (plain-port (codes "OUTPUT") x output-name h) (output-again x h)

pub definition-says : (z : List ℕ) (kind : Kind) (pins : List (List ℕ)) → IsRun z → AllByRecursion IsRun pins → Says (definition_line z kind pins) (Definition z (Some kind) pins)
definition-says z kind pins h k = says (definition_line z kind pins) (Definition z (Some kind) pins) (plain-definition z kind pins h k) (definition-again z kind pins h k)

is_ten : (b : ℕ) → (b == 10) ≡ true → b ≡ 10
is_ten b h = grind (arith, nat_tests)

plain-no_end : (b : ℕ) → is_plain b ≡ true → (b == 10) ≡ false
plain-no_end b h = ⊎_elim
    (λ (t : (b == 10) ≡ true). let e : is_plain 10 ≡ true = ap is_plain (sym (is_ten b t)) ∙ h in absurd (false≢true e))
    (λ (f : (b == 10) ≡ false). f)
    (either (b == 10))

lines-front : (l rest : List ℕ) → list_all is_plain l ≡ true → lines (l ++ 10 ∷ rest) ≡ l ∷ lines rest
lines-front [] rest h = lines-end 10 rest refl
lines-front (b ∷ l) rest h =
    let p = both_true (is_plain b) (list_all is_plain l) h in
    lines-more b (l ++ 10 ∷ rest) (plain-no_end b p.0) ∙ ap (onto_first b) (lines-front l rest p.1)

pub ended-again : (ls : List (List ℕ)) → AllByRecursion (λ l. list_all is_plain l ≡ true) ls → lines (ended ls) ≡ ls
ended-again [] h = lines-none
ended-again (l ∷ ls) h = ap lines (append_assoc l (10 ∷ []) (ended ls)) ∙ lines-front l (ended ls) h.0 ∙ ap (λ ms. l ∷ ms) (ended-again ls h.1)
