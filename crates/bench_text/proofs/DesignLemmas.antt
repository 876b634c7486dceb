-- What is read as a design is a design.
use Rattle.std.proofs.Common.{◌≡◌, ◌≤◌, ◌+◌, ℕ, Bool, true, false, cond, List, [], ◌∷◌, ◌++◌, length, refl, sym, ap, ◌∙◌, map, subst, arith, length-append}
use Rattle.std.specs.Prelude.{Option, Some, None, Result, Ok, Err, IfOk, nat_le, unwrap_or}
use Rattle.std.specs.List.{list_all, list_any, AllByRecursion}
use Rattle.std.proofs.lemmas.List.{length-map}
use Rattle.statement.specs.Netlists.{Netlist, Definition as Equation, signals}
use Rattle.netlist.specs.Designs.{is_reserved, IsDesign}
use Rattle.bench_text.specs.declared.refusal.Names.{Names}
use Rattle.bench_text.specs.declared.refusal.Names.TheVariants.{Design, Scanned}
use Rattle.bench_text.specs.declared.refusal.BenchKind.TheVariants.{BadByte, BadLine, UnknownGate, BadPins, DefinedTwice, Reserved}
use Rattle.bench_text.specs.declared.refusal.BenchRefusal.{BenchRefusal}
use Rattle.bench_text.specs.declared.refusal.BenchFault.{BenchFault}
use Rattle.bench_text.specs.Bytes.{code, lines}
use Rattle.bench_text.specs.Tokens.{Token, Word, Open, Close, Comma, Equals, tokens}
use Rattle.bench_text.specs.Forms.{Statement, Nothing, Input, Output, Definition}
use Rattle.bench_text.specs.Refusals.{statement_names, is_short, says, line_refusal, holds, has_reserved_name}
use Rattle.bench_text.specs.Said.{statements_of}
use Rattle.bench_text.specs.Texts.{statement_on, statements, inputs_of, definitions_of, signals_of, first_refusal}
use Rattle.bench_text.specs.Whole.{whole_refusal, or_else, notes, refusal}
use Rattle.bench_text.specs.Netlists.{id_of, netlist_of}
use Rattle.bench_text.specs.Reading.{netlist_in, IsRead, IsReadAs}
use Rattle.bench_text.proofs.Lists.{both_true, or_false, index-all}
use Rattle.bench_text.proofs.WholeLemmas.{whole-none}
use Rattle.bench_text.proofs.FineLemmas.{IsFine, Words, le_from, statement-named, reads-it, says-that, at_line-none, lines-fine, noted-all}
use Rattle.bench_text.proofs.FormedLemmas.{definition-ids, append-all}

-- a name that a design may have
abbrev IsFree : List ℕ → Type 0
IsFree x = (length x ≤ 255) × (is_reserved x ≡ false)

abbrev HasFreeNames : Statement → Type 0
HasFreeNames s = AllByRecursion IsFree (statement_names s)

-- the words of a line are short
short-words : (ts : List Token) → list_all (is_short Design) ts ≡ true → AllByRecursion (Words (λ w. length w ≤ 255)) ts
short-words [] h = tt
short-words (Word w ∷ ts) h =
    let p = both_true (nat_le (length w) 255) (list_all (is_short Design) ts) h in
    (le_from (length w) 255 p.0, short-words ts p.1)
short-words (Open ∷ ts) h = (tt, short-words ts h)
short-words (Close ∷ ts) h = (tt, short-words ts h)
short-words (Comma ∷ ts) h = (tt, short-words ts h)
short-words (Equals ∷ ts) h = (tt, short-words ts h)

free-names : (xs : List (List ℕ)) → AllByRecursion (λ x. length x ≤ 255) xs → list_any is_reserved xs ≡ false → AllByRecursion IsFree xs
free-names [] h k = tt
free-names (x ∷ xs) h k = let p = or_false (is_reserved x) (list_any is_reserved xs) k in ((h.0, p.0), free-names xs h.1 p.1)

-- the last of the six kinds doesn't apply
not_last : (a b c d e f : Bool) → cond a (Some BadByte) (cond b (Some BadLine) (cond c (Some UnknownGate) (cond d (Some BadPins) (cond e (Some DefinedTwice) (cond f (Some Reserved) None))))) ≡ None → f ≡ false
not_last true b c d e f h = cc
not_last false true c d e f h = cc
not_last false false true d e f h = cc
not_last false false false true e f h = cc
not_last false false false false true f h = cc
not_last false false false false false true h = cc
not_last false false false false false false h = refl

module _ (before : List (List ℕ)) (line : List ℕ) (fine : line_refusal Design before line ≡ None) where
  none_reserved : holds (has_reserved_name Design) (says Design line) ≡ false
  unfolding line_refusal
  none_reserved = not_last _ _ _ _ _ _ fine

  line-free : HasFreeNames (statement_on Design line)
  line-free =
      let s = reads-it Design before line fine in
      let it = says-that Design before line fine in
      let short = statement-named (λ w. length w ≤ 255) (tokens (code line)) s.0 s.2 (short-words (tokens (code line)) s.1) in
      subst (λ (o : Option Statement). HasFreeNames (unwrap_or o Nothing)) (sym it) (free-names (statement_names s.0) short (ap (holds (has_reserved_name Design)) (sym it) ∙ none_reserved))

lines-free : (earlier : List Statement) (ls : List (List ℕ)) → first_refusal Design earlier ls ≡ None → AllByRecursion HasFreeNames (map (statement_on Design) ls)
unfolding first_refusal
lines-free earlier [] h = tt
lines-free earlier (line ∷ ls) h =
    let p = at_line-none (length earlier + 1) (line_refusal Design (signals_of earlier) line) (first_refusal Design (earlier ++ statement_on Design line ∷ []) ls) h in
    (line-free (signals_of earlier) line p.0, lines-free (earlier ++ statement_on Design line ∷ []) ls p.1)

-- the names of the signals are names of the statements
inputs-free : (ss : List Statement) → AllByRecursion HasFreeNames ss → AllByRecursion IsFree (inputs_of ss)
inputs-free [] h = tt
inputs-free (Nothing ∷ ss) h = inputs-free ss h.1
inputs-free (Input x ∷ ss) h = (h.0.0, inputs-free ss h.1)
inputs-free (Output x ∷ ss) h = inputs-free ss h.1
inputs-free (Definition z gate pins ∷ ss) h = inputs-free ss h.1

definitions-free : (ss : List Statement) → AllByRecursion HasFreeNames ss → AllByRecursion IsFree (definitions_of ss)
definitions-free [] h = tt
definitions-free (Nothing ∷ ss) h = definitions-free ss h.1
definitions-free (Input x ∷ ss) h = definitions-free ss h.1
definitions-free (Output x ∷ ss) h = definitions-free ss h.1
definitions-free (Definition z gate pins ∷ ss) h = (h.0.0, definitions-free ss h.1)

signals-free : (ss : List Statement) → AllByRecursion HasFreeNames ss → AllByRecursion IsFree (signals_of ss)
signals-free ss h = append-all IsFree (inputs_of ss) (definitions_of ss) (inputs-free ss h) (definitions-free ss h)

-- a netlist has as many signals as the statements define
signal-count : (ss : List Statement) → AllByRecursion IsFine ss → length (signals (netlist_of ss)) ≡ length (signals_of ss)
signal-count ss fine =
    let ids : length (map (λ (d : Equation). d.id) (netlist_of ss).definitions) ≡ length (definitions_of ss) = ap length (definition-ids (signals_of ss) ss fine) ∙ length-map (definitions_of ss) (id_of (signals_of ss)) in
    omega (arith, length-append (netlist_of ss).inputs (map (λ (d : Equation). d.id) (netlist_of ss).definitions), length-map (inputs_of ss) (id_of (signals_of ss)), ids, length-append (inputs_of ss) (definitions_of ss))

neither : (a b : Option BenchRefusal) → or_else a b ≡ None → (a ≡ None) × (b ≡ None)
neither None b h = (refl, h)
neither (Some r) b h = cc

design-in : (text : List ℕ) → refusal Design text ≡ None → IsDesign (netlist_in Design text)
design-in text h =
    let p = neither (first_refusal Design [] (lines text)) (whole_refusal Design (notes Design text)) h in
    let all = notes Design text in
    let ss = statements_of all in
    let fine : AllByRecursion IsFine ss = noted-all IsFine 1 (statements Design text) (lines-fine Design [] (lines text) p.0) in
    let free : AllByRecursion HasFreeNames ss = noted-all HasFreeNames 1 (statements Design text) (lines-free [] (lines text) p.0) in
    let few = (whole-none Design all p.1).0 in
    let names = index-all IsFree (signals_of ss) (signals-free ss free) in
    record {
      small = omega (arith, signal-count ss fine, few);
      short = λ k d b. (names k d b).0;
      unreserved = λ k d b. (names k d b).1;
    }

pub read-as : (reading : Names) (text : List ℕ) (r : Result Netlist BenchFault) → IsRead reading text r → IfOk r (IsReadAs reading)
read-as Design text (Ok n) h = subst IsDesign (sym h.0) (design-in text h.1)
read-as Scanned text (Ok n) h = tt
read-as reading text (Err f) h = tt
