-- A written file is spelt as the reader looks for it.
use Rattle.std.proofs.Common.{◌≡◌, ◌∙◌, ◌+◌, ◌≤◌, ◌<◌, ℕ, zero, suc, List, [], ◌∷◌, ◌++◌, ap, sym, refl, subst, append_assoc, append-nil, length, arith, map, replicate, length-append, get_or}
use Rattle.std.specs.Prelude.{codes, Some, ⊤, false}
use Rattle.std.specs.List.{All, flat_map}
use Rattle.std.specs.Str.{bytes_eq}
use Rattle.std.proofs.lemmas.List.{length-map}
use Rattle.std.proofs.lemmas.List.Elements.{All-cons, All-head, All-nil, All-tail, All-weaker}
use Rattle.statement.specs.Benches.{Text}
use Rattle.stil_write.specs.declared.forms.Form.{Form}
use Rattle.stil_write.specs.declared.forms.CharKind.TheVariants as values
use Rattle.statement.specs.Stils.{Call, Item, StilFile, Vector, clock, numbered, scan_inputs, scan_outputs, where_chained, assignments, chain_block, chain_blocks, item_text, joined, quoted, assigned, called, procedures_by, shift_words, signals_text, stil_text, structures_text, timing_text}
use Rattle.stil_write.specs.StilFiles.{IsItem, IsStilName, IsStilFile, call_forms, item_kind, declared_signals, vector_forms, words_of}
use Rattle.stil_write.specs.Pieces.{HasTargets, chain_end, chain_head, item_line, signal_lines, targets}
use Rattle.stil_write.specs.Texts.{burst_text, groups_text, head_text, pattern_text, procedures_head}
use Rattle.stil_write.proofs.ItemLemmas.{have_targets, length-numbered}
use Rattle.stil_read.specs.declared.bytes.Class.TheVariants as class
use Rattle.stil_read.specs.Tokens.{Spelled, Token, class_of, tokens, tokens_from}
use Rattle.stil_read.specs.inner.Assigned.{assigned_tokens}
use Rattle.stil_read.specs.inner.Grammar.{AreChains, AreDeclared, ArePattern, IsChain, IsShiftWord, IsShifted, IsSpelt, cells_word, clock_tokens, input_kind, items_head, output_kind, pattern_word, scan_input_kind, shift_head, vector_word}
use Rattle.stil_read.specs.inner.Items.{AreAllItems, NoItem, item_ends, item_tokens}
use Rattle.stil_read.specs.inner.Signals.{NoSignal, signal_tokens}
use Rattle.stil_read.specs.inner.Skips.{Passes, behind_first}
use Rattle.stil_read.specs.inner.Whole.{IsWhole, place_after}
use Rattle.stil_read.specs.inner.Written.{AreAssignable, AreLetters, AreQuotable, IsQuotable, IsValueWord}
use Rattle.stil_read.proofs.NameLemmas.{AreUnquoted, all_quotable-append, assignable, names_quotable, names_unquoted, sized-append, sized_chained, sized_copies, value_letters, value_word}
use Rattle.stil_read.proofs.PassLemmas.{AllDiffer, behind_chains, cells_fixed, chain_end_passes, chain_found, clock_quotable, inputs_quotable, low_differs, outputs_quotable, pass_assigned, pass_both, pass_groups, pass_signals, pass_timing, pattern_fixed, pi_quotable, po_quotable, semicolon, structures_pass}
use Rattle.stil_read.proofs.PatternLemmas.{AreWritable, IsWritable, call_first, item_lines_tokens, vector_first}
use Rattle.stil_read.proofs.SignalLemmas.{regroup, spelled_once}
use Rattle.stil_read.proofs.StepLemmas.{chains_more}
use Rattle.stil_read.proofs.TokenLemmas.{at_gap, tokens_none}
use Rattle.stil_read.proofs.WholeLemmas.{whole_then_rest}
use Rattle.stil_read.proofs.WrittenLemmas.{assignments_tokens, blank_class, kinds_are_whole, quoted_tokens, signal_lines_tokens}

-- ---- kinds of signals

abbrev Differs : Text → Text → Type 0
Differs kind other = (a b : List Token) → tokens kind ++ a ≡ tokens other ++ b → ⊥

differs_by : (kind other s t u v : Text) (xs ys : List Token) → tokens kind ≡ Spelled s ∷ Spelled t ∷ xs → tokens other ≡ Spelled u ∷ Spelled v ∷ ys → (s ≡ u → t ≡ v → ⊥) → Differs kind other
differs_by kind other s t u v xs ys ex ey none a b e =
    let k : Spelled s ∷ Spelled t ∷ (xs ++ a) ≡ Spelled u ∷ Spelled v ∷ (ys ++ b) = sym (ap (λ l. l ++ a) ex) ∙ e ∙ ap (λ l. l ++ b) ey in
    let p : s ≡ u = cc in
    let q : t ≡ v = cc in
    none p q

input_tokens : tokens input_kind ≡ Spelled (codes "In") ∷ Spelled (codes ";") ∷ []
unfolding tokens_from class_of
input_tokens = refl

scan_input_tokens : tokens scan_input_kind ≡ Spelled (codes "In") ∷ Spelled (codes "{") ∷ Spelled (codes "ScanIn") ∷ Spelled (codes ";") ∷ Spelled (codes "}") ∷ []
unfolding tokens_from class_of
scan_input_tokens = refl

output_tokens : tokens output_kind ≡ Spelled (codes "Out") ∷ Spelled (codes ";") ∷ []
unfolding tokens_from class_of
output_tokens = refl

scan_output_tokens : tokens (codes " Out { ScanOut; }\n") ≡ Spelled (codes "Out") ∷ Spelled (codes "{") ∷ Spelled (codes "ScanOut") ∷ Spelled (codes ";") ∷ Spelled (codes "}") ∷ []
unfolding tokens_from class_of
scan_output_tokens = refl

other_kind : (kind other name : Text) (ts all : List Token) → all ≡ Spelled (quoted name) ∷ (tokens other ++ ts) → Differs kind other → NoSignal kind all
other_kind kind other name ts all e d x more f =
    d more ts (sym ((spelled_once (quoted name) (quoted x) (tokens other ++ ts) (tokens kind ++ more) (sym e ∙ f)).1))

no_name : (kind text : Text) (ts all : List Token) → all ≡ Spelled text ∷ ts → ((name : Text) → text ≡ quoted name → ⊥) → NoSignal kind all
no_name kind text ts all e none x more f = none x ((spelled_once text (quoted x) ts (tokens kind ++ more) (sym e ∙ f)).0)

no_signal_lines : (kind other : Text) (names : List Text) (rest : Text) → IsWhole other → AreQuotable names → 1 ≤ length names → Differs kind other → NoSignal kind (tokens (signal_lines other names ++ rest))
no_signal_lines kind other [] rest w q n d = absurd (omega (arith, n))
no_signal_lines kind other (x ∷ xs) rest w q n d =
    other_kind kind other x (signal_tokens other xs ++ tokens rest) (tokens (signal_lines other (x ∷ xs) ++ rest)) (signal_lines_tokens other (x ∷ xs) rest w q ∙ regroup other xs x (tokens rest)) d

input_output : Differs input_kind output_kind
input_output = differs_by input_kind output_kind (codes "In") (codes ";") (codes "Out") (codes ";") [] [] input_tokens output_tokens (λ p q. (let k : ⊥ = cc in k))

input_scan : Differs input_kind scan_input_kind
input_scan = differs_by input_kind scan_input_kind (codes "In") (codes ";") (codes "In") (codes "{") [] _ input_tokens scan_input_tokens (λ p q. (let k : ⊥ = cc in k))

scan_output : Differs scan_input_kind output_kind
scan_output = differs_by scan_input_kind output_kind (codes "In") (codes "{") (codes "Out") (codes ";") _ [] scan_input_tokens output_tokens (λ p q. (let k : ⊥ = cc in k))

scan_input : Differs scan_input_kind input_kind
scan_input = differs_by scan_input_kind input_kind (codes "In") (codes "{") (codes "In") (codes ";") _ [] scan_input_tokens input_tokens (λ p q. (let k : ⊥ = cc in k))

output_scan : Differs output_kind (codes " Out { ScanOut; }\n")
output_scan = differs_by output_kind (codes " Out { ScanOut; }\n") (codes "Out") (codes ";") (codes "Out") (codes "{") [] _ output_tokens scan_output_tokens (λ p q. (let k : ⊥ = cc in k))

close_tokens : (rest : Text) → tokens (codes "}\n" ++ rest) ≡ Spelled (codes "}") ∷ tokens rest
unfolding tokens_from class_of
close_tokens rest = refl

numbered_some : (stem : Text) (m : ℕ) → 1 ≤ length (numbered stem (suc m))
numbered_some stem m = let n = length-numbered stem (suc m) in omega (arith, n)

abbrev scan_in_lines : ℕ → Text
scan_in_lines n = signal_lines scan_input_kind (numbered (codes "SC__si") n)

abbrev clock_lines : ℕ → Text
clock_lines n = signal_lines input_kind (where_chained n (codes "SC__ck"))

abbrev scan_out_lines : ℕ → Text
scan_out_lines n = signal_lines (codes " Out { ScanOut; }\n") (numbered (codes "SC__so") n)

after_inputs : (n : ℕ) (po : List Text) (rest : Text) → AreQuotable po → 1 ≤ length po → NoSignal input_kind (tokens (scan_in_lines n ++ (clock_lines n ++ (signal_lines output_kind po ++ rest))))
after_inputs zero po rest q l = no_signal_lines input_kind output_kind po rest kinds_are_whole.outputs q l input_output
after_inputs (suc m) po rest q l =
    no_signal_lines input_kind scan_input_kind (numbered (codes "SC__si") (suc m)) (clock_lines (suc m) ++ (signal_lines output_kind po ++ rest)) kinds_are_whole.scan_inputs (inputs_quotable (suc m)) (numbered_some (codes "SC__si") m) input_scan

after_scan_inputs : (n : ℕ) (po : List Text) (rest : Text) → AreQuotable po → 1 ≤ length po → NoSignal scan_input_kind (tokens (clock_lines n ++ (signal_lines output_kind po ++ rest)))
after_scan_inputs zero po rest q l = no_signal_lines scan_input_kind output_kind po rest kinds_are_whole.outputs q l scan_output
after_scan_inputs (suc m) po rest q l =
    no_signal_lines scan_input_kind input_kind (codes "SC__ck" ∷ []) (signal_lines output_kind po ++ rest) kinds_are_whole.inputs (clock_quotable (suc m)) (let k : 1 ≤ 1 = omega arith in k) scan_input

close_no_name : (name : Text) → codes "}" ≡ quoted name → ⊥
close_no_name name e = let h : 125 ≡ 34 = ap (λ (l : Text). get_or l 0 0) e in omega (arith, h)

after_plain_outputs : (rest : Text) → NoSignal output_kind (tokens (codes "}\n" ++ rest))
after_plain_outputs rest = no_name output_kind (codes "}") (tokens rest) (tokens (codes "}\n" ++ rest)) (close_tokens rest) close_no_name

after_some_outputs : (names : List Text) (rest : Text) → AreQuotable names → 1 ≤ length names → NoSignal output_kind (tokens ((signal_lines (codes " Out { ScanOut; }\n") names ++ codes "}\n") ++ rest))
after_some_outputs names rest q l =
    subst (λ t. NoSignal output_kind (tokens t)) (sym (append_assoc (signal_lines (codes " Out { ScanOut; }\n") names) (codes "}\n") rest))
    (no_signal_lines output_kind (codes " Out { ScanOut; }\n") names (codes "}\n" ++ rest) kinds_are_whole.scan_outputs q l output_scan)

after_outputs : (n : ℕ) (rest : Text) → NoSignal output_kind (tokens ((scan_out_lines n ++ codes "}\n") ++ rest))
after_outputs zero rest = after_plain_outputs rest
after_outputs (suc m) rest = after_some_outputs (numbered (codes "SC__so") (suc m)) rest (outputs_quotable (suc m)) (numbered_some (codes "SC__so") m)

head_whole : IsWhole head_text
unfolding place_after class_of
head_whole = refl

declared_written : (pi po : List Text) (n : ℕ) (rest : Text) → AreQuotable pi → AreQuotable po → 1 ≤ length po
    → AreDeclared (tokens (head_text ++ ((signal_lines input_kind pi ++ (scan_in_lines n ++ (clock_lines n ++ (signal_lines output_kind po ++ (scan_out_lines n ++ codes "}\n"))))) ++ rest)))
    pi n po (tokens ((scan_out_lines n ++ codes "}\n") ++ rest))
declared_written pi po n rest p q l =
    let e = scan_out_lines n ++ codes "}\n" in
    let d = signal_lines output_kind po in
    let c = clock_lines n in
    let b = scan_in_lines n in
    let a = signal_lines input_kind pi in
    let text_e = e ++ rest in
    let text_d = d ++ text_e in
    let text_c = c ++ text_d in
    let text_b = b ++ text_c in
    let text_a = a ++ text_b in
    let same : (a ++ (b ++ (c ++ (d ++ e)))) ++ rest ≡ text_a =
    append_assoc a (b ++ (c ++ (d ++ e))) rest
    ∙ ap (λ t. a ++ t) (append_assoc b (c ++ (d ++ e)) rest ∙ ap (λ t. b ++ t) (append_assoc c (d ++ e) rest ∙ ap (λ t. c ++ t) (append_assoc d e rest))) in
    record {
      one = tokens text_a;
      two = tokens text_b;
      three = tokens text_c;
      four = tokens text_d;
      names = numbered (codes "SC__si") n;
      head = whole_then_rest head_text ((a ++ (b ++ (c ++ (d ++ e)))) ++ rest) head_whole ∙ ap (λ t. tokens head_text ++ tokens t) same;
      inputs = record { split = signal_lines_tokens input_kind pi text_b kinds_are_whole.inputs p; last = after_inputs n po text_e q l };
      scan_inputs = record { split = signal_lines_tokens scan_input_kind (numbered (codes "SC__si") n) text_c kinds_are_whole.scan_inputs (inputs_quotable n); last = after_scan_inputs n po text_e q l };
      counted = length-numbered (codes "SC__si") n;
      clock = signal_lines_tokens input_kind (where_chained n (codes "SC__ck")) text_d kinds_are_whole.inputs (clock_quotable n);
      outputs = record { split = signal_lines_tokens output_kind po text_e kinds_are_whole.outputs q; last = after_outputs n rest };
    }

-- ---- chains

nothing_front : (ts : List Token) → tokens [] ++ ts ≡ ts
nothing_front ts = ap (λ l. l ++ ts) tokens_none

name_regroup : (names : List Text) (name : Text) (ts : List Token) → signal_tokens [] (name ∷ names) ++ ts ≡ Spelled (quoted name) ∷ (signal_tokens [] names ++ ts)
name_regroup names name ts = regroup [] names name ts ∙ ap (λ l. Spelled (quoted name) ∷ l) (nothing_front (signal_tokens [] names ++ ts))

abbrev further : List Text → Text
further names = flat_map (λ other. codes " " ++ quoted other) names

further_tokens : (names : List Text) (rest : Text) → AreQuotable names → tokens (further names ++ rest) ≡ signal_tokens [] names ++ tokens rest
further_tokens [] rest q = refl
further_tokens (name ∷ names) rest q =
    ap tokens (append_assoc (codes " " ++ quoted name) (further names) rest) ∙ at_gap 32 (quoted name ++ (further names ++ rest)) blank_class ∙ quoted_tokens name (further names ++ rest) q.0
    ∙ ap (λ l. Spelled (quoted name) ∷ l) (further_tokens names rest q.1) ∙ sym (name_regroup names name (tokens rest))

joined_tokens : (names : List Text) (rest : Text) → AreQuotable names → tokens (joined (codes " ") names ++ rest) ≡ signal_tokens [] names ++ tokens rest
joined_tokens [] rest q = refl
joined_tokens (name ∷ names) rest q =
    ap tokens (append_assoc (quoted name) (further names) rest) ∙ quoted_tokens name (further names ++ rest) q.0
    ∙ ap (λ l. Spelled (quoted name) ∷ l) (further_tokens names rest q.1) ∙ sym (name_regroup names name (tokens rest))

end_tokens : (rest : Text) → tokens (chain_end ++ rest) ≡ Spelled (codes ";") ∷ Spelled (codes "ScanMasterClock") ∷ Spelled (codes "\"SC__ck\"") ∷ Spelled (codes ";") ∷ Spelled (codes "}") ∷ tokens rest
unfolding tokens_from class_of
end_tokens rest = refl

chain_written : (front more : Text) (k : ℕ) (cells : List Text) → Passes cells_word front → AreQuotable cells → IsChain (tokens (front ++ (chain_block k cells ++ more))) cells (tokens (chain_end ++ more))
chain_written front more k cells p q =
    let names = joined (codes " ") cells in
    record {
      inner = tokens ((names ++ chain_end) ++ more);
      skipped = p (chain_block k cells ++ more) ∙ ap (λ t. behind_first cells_word (tokens t)) (append_assoc (chain_head k (length cells)) (names ++ chain_end) more) ∙ chain_found k (length cells) ((names ++ chain_end) ++ more);
      names = record {
        split = ap tokens (append_assoc names chain_end more) ∙ joined_tokens cells (chain_end ++ more) q;
        last = no_name [] (codes ";") _ (tokens (chain_end ++ more)) (end_tokens more) (λ name e. (let z : ⊥ = cc in z));
      };
    }

abbrev AllQuotable : List (List Text) → Type 0
AllQuotable [] = ⊤
AllQuotable (cells ∷ chains) = AreQuotable cells × AllQuotable chains

chains_written : (cs : List (List Text)) (k : ℕ) (all : List Token) (before : List (List Text)) (front more : Text) (c : List Text)
    → AreChains k all before (tokens (front ++ (chain_blocks k (c ∷ cs) ++ more))) → Passes cells_word front → AreQuotable c → AllQuotable cs
    → AreChains (k + suc (length cs)) all (before ++ c ∷ cs) (tokens (chain_end ++ more))
chains_written [] k all before front more c a p q r =
    chains_more k all before (before ++ c ∷ []) c (tokens (front ++ (chain_block k c ++ more))) (tokens (chain_end ++ more))
    (subst (λ t. AreChains k all before (tokens (front ++ t))) (ap (λ t. t ++ more) (append-nil (chain_block k c))) a) (chain_written front more k c p q) refl
chains_written (d ∷ ds) k all before front more c a p q r =
    let blocks = chain_blocks (k + 1) (d ∷ ds) in
    let first : AreChains (k + 1) all (before ++ c ∷ []) (tokens (chain_end ++ (blocks ++ more))) =
    chains_more k all before (before ++ c ∷ []) c (tokens (front ++ (chain_block k c ++ (blocks ++ more)))) (tokens (chain_end ++ (blocks ++ more)))
    (subst (λ t. AreChains k all before (tokens (front ++ t))) (append_assoc (chain_block k c) blocks more) a) (chain_written front (blocks ++ more) k c p q) refl in
    let rest = chains_written ds (k + 1) all (before ++ c ∷ []) chain_end more d first chain_end_passes r.0 r.1 in
    let n : (k + 1) + suc (length ds) ≡ k + suc (suc (length ds)) = omega arith in
    subst (λ m. AreChains m all (before ++ c ∷ d ∷ ds) (tokens (chain_end ++ more))) n
    (subst (λ chains. AreChains ((k + 1) + suc (length ds)) all chains (tokens (chain_end ++ more))) (append_assoc before (c ∷ []) (d ∷ ds)) rest)

-- ---- items

all_front : {X : Type 0} (P : X → Type 0) (xs ys : List X) → All P (xs ++ ys) → All P xs
all_front P [] ys h = All-nil P
all_front P (x ∷ xs) ys h = All-cons P x xs (All-head P x (xs ++ ys) h) (all_front P xs ys (All-tail P x (xs ++ ys) h))

all_back : {X : Type 0} (P : X → Type 0) (xs ys : List X) → All P (xs ++ ys) → All P ys
all_back P [] ys h = h
all_back P (x ∷ xs) ys h = all_back P xs ys (All-tail P x (xs ++ ys) h)

called_quotable : (n : ℕ) → AreQuotable (called n)
called_quotable n = all_quotable-append (numbered (codes "SC__si") n) (numbered (codes "SC__so") n) (inputs_quotable n) (outputs_quotable n)

assigned_quotable : (n : ℕ) → AreQuotable (assigned n)
assigned_quotable n = (
  pi_quotable,
  all_quotable-append (numbered (codes "SC__si") n) (where_chained n (codes "SC__ck") ++ (codes "SC__po" ∷ numbered (codes "SC__so") n)) (inputs_quotable n)
      (all_quotable-append (where_chained n (codes "SC__ck")) (codes "SC__po" ∷ numbered (codes "SC__so") n) (clock_quotable n) (po_quotable, outputs_quotable n)),
)

one_each : 1 ≤ 1
one_each = omega arith

is_writable : (f : StilFile) (item : Item) → 1 ≤ length f.pi → 1 ≤ length f.po → IsItem f item → IsWritable (called (length f.chains)) (assigned (length f.chains)) item
is_writable f (Call words) p q h =
    let n = length f.chains in
    let bits : Form = record { values = values.Bits; size = h.0 } in
    let strobes : Form = record { values = values.Strobes; size = h.0 } in
    assignable (called n) (call_forms n h.0) words (called_quotable n) (sized-append (replicate n bits) (replicate n strobes) (sized_copies n bits h.1) (sized_copies n strobes h.1)) h.3
is_writable f (Vector words) p q h =
    let n = length f.chains in
    let bit : Form = record { values = values.Bits; size = 1 } in
    let pulse : Form = record { values = values.Pulses; size = 1 } in
    let strobe : Form = record { values = values.Strobes; size = 1 } in
    let outputs : Form = record { values = values.Strobes; size = length f.po } in
    assignable (assigned n) (vector_forms f) words (assigned_quotable n) (
      p,
      sized-append (replicate n bit) (where_chained n pulse ++ (outputs ∷ replicate n strobe)) (sized_copies n bit one_each)
          (sized-append (where_chained n pulse) (outputs ∷ replicate n strobe) (sized_chained n pulse one_each) (q, sized_copies n strobe one_each)),
    ) h

are_writable : (f : StilFile) (items : List Item) → 1 ≤ length f.pi → 1 ≤ length f.po → All (IsItem f) items → AreWritable (called (length f.chains)) (assigned (length f.chains)) items
are_writable f [] p q h = tt
are_writable f (item ∷ items) p q h = (is_writable f item p q (All-head (IsItem f) item items h), are_writable f items p q (All-tail (IsItem f) item items h))

quoted_targets : (called assigned : List Text) (item : Item) → HasTargets called assigned item → HasTargets (map quoted called) (map quoted assigned) item
quoted_targets called assigned (Call words) h = h ∙ sym (length-map called quoted)
quoted_targets called assigned (Vector words) h = h ∙ sym (length-map assigned quoted)

close_only : tokens (codes "}\n") ≡ Spelled (codes "}") ∷ []
unfolding tokens_from class_of
close_only = refl

no_call : codes "}" ≡ codes "Call" → ⊥
no_call e = cc

no_vector : codes "}" ≡ codes "V" → ⊥
no_vector e = let h : 125 ≡ 86 = ap (λ (l : Text). get_or l 0 0) e in omega (arith, h)

no_item_left : (called assigned : List Text) → NoItem called assigned (tokens (codes "}\n"))
no_item_left called assigned (Call words) rest h e =
    let inner = assigned_tokens called words ++ tokens item_ends in
    no_call ((spelled_once (codes "}") (codes "Call") [] _ (sym close_only ∙ e ∙ ap (λ l. (l ++ inner) ++ rest) call_first)).0)
no_item_left called assigned (Vector words) rest h e =
    let inner = assigned_tokens assigned words ++ tokens item_ends in
    no_vector ((spelled_once (codes "}") (codes "V") [] _ (sym close_only ∙ e ∙ ap (λ l. (l ++ inner) ++ rest) vector_first)).0)

pattern_head_tokens : (rest : Text) → tokens (codes "\"pattern\" {\n  W \"wft\";\n" ++ rest) ≡ tokens items_head ++ tokens rest
unfolding tokens_from class_of
pattern_head_tokens rest = refl

abbrev item_lines : StilFile → Text
item_lines f = flat_map (item_line (called (length f.chains)) (assigned (length f.chains))) f.items ++ codes "}\n"

pattern_written : (f : StilFile) (before : List Token) → IsStilFile f → behind_first pattern_word before ≡ Some (tokens (codes "\"pattern\" {\n  W \"wft\";\n" ++ item_lines f))
    → ArePattern (length f.chains) before f.items (tokens (codes "}\n"))
pattern_written f before h s =
    let n = length f.chains in
    record {
      inner = tokens (codes "\"pattern\" {\n  W \"wft\";\n" ++ item_lines f);
      behind = tokens (item_lines f);
      skipped = s;
      head = pattern_head_tokens (item_lines f);
      listed = record {
        are = record {
          have_words = All-weaker (HasTargets (called n) (assigned n)) (HasTargets (map quoted (called n)) (map quoted (assigned n))) (quoted_targets (called n) (assigned n)) f.items (have_targets f h);
          split = item_lines_tokens (called n) (assigned n) f.items (codes "}\n") (are_writable f f.items h.inputs h.outputs h.items);
        };
        last = no_item_left (map quoted (called n)) (map quoted (assigned n));
      };
    }

-- ---- the vector of a shift

abbrev AreWords : List Text → Type 0
AreWords [] = ⊤
AreWords (word ∷ words) = IsValueWord word × AreWords words

assignable_words : (names words : List Text) → AreQuotable names → AreWords words → AreAssignable names words
assignable_words [] words q w = tt
assignable_words (name ∷ names) [] q w = tt
assignable_words (name ∷ names) (word ∷ words) q w = (q.0, w.0, assignable_words names words q.1 w.1)

words-append : (xs ys : List Text) → AreWords xs → AreWords ys → AreWords (xs ++ ys)
words-append [] ys h k = k
words-append (x ∷ xs) ys h k = (h.0, words-append xs ys h.1 k)

differ-append : (word : Text) (xs ys : List Text) → AllDiffer word xs → AllDiffer word ys → AllDiffer word (xs ++ ys)
differ-append word [] ys h k = k
differ-append word (x ∷ xs) ys h k = (h.0, differ-append word xs ys h.1 k)

hashes : (n : ℕ) → AreWords (replicate n (codes "#")) × AllDiffer pattern_word (replicate n (codes "#"))
hashes zero = (tt, tt)
hashes (suc n) = let rest = hashes n in (((value_letters.6, tt), rest.0), (refl, rest.1))

pulses : (n : ℕ) → AreWords (where_chained n (codes "P")) × AllDiffer pattern_word (where_chained n (codes "P"))
pulses zero = (tt, tt)
pulses (suc n) = (((value_letters.2, tt), tt), (refl, tt))

letters_x : (n : ℕ) → AreLetters (replicate n 88)
letters_x zero = tt
letters_x (suc n) = (value_letters.5, letters_x n)

word_x : (n : ℕ) → 1 ≤ n → IsValueWord (replicate n 88)
word_x zero h = omega arith
word_x (suc n) h = letters_x (suc n)

differs_x : (n : ℕ) → bytes_eq (replicate n 88) pattern_word ≡ false
differs_x zero = refl
differs_x (suc n) = refl

-- all that a shift assigns behind the inputs
abbrev other_words : ℕ → ℕ → List Text
other_words n outputs = replicate n (codes "#") ++ (where_chained n (codes "P") ++ (replicate outputs 88 ∷ replicate n (codes "#")))

abbrev other_names : ℕ → List Text
other_names n = numbered (codes "SC__si") n ++ (where_chained n (codes "SC__ck") ++ (codes "SC__po" ∷ numbered (codes "SC__so") n))

others_are_words : (n outputs : ℕ) → 1 ≤ outputs → AreWords (other_words n outputs)
others_are_words n outputs h =
    words-append (replicate n (codes "#")) (where_chained n (codes "P") ++ (replicate outputs 88 ∷ replicate n (codes "#"))) (hashes n).0
    (words-append (where_chained n (codes "P")) (replicate outputs 88 ∷ replicate n (codes "#")) (pulses n).0 (word_x outputs h, (hashes n).0))

others_differ : (n outputs : ℕ) → AllDiffer pattern_word (other_words n outputs)
others_differ n outputs =
    differ-append pattern_word (replicate n (codes "#")) (where_chained n (codes "P") ++ (replicate outputs 88 ∷ replicate n (codes "#"))) (hashes n).1
    (differ-append pattern_word (where_chained n (codes "P")) (replicate outputs 88 ∷ replicate n (codes "#")) (pulses n).1 (differs_x outputs, (hashes n).1))

brace_tokens : (rest : Text) → tokens (codes "{ " ++ rest) ≡ Spelled (codes "{") ∷ tokens rest
unfolding tokens_from class_of
brace_tokens rest = refl

shift_head_tokens : tokens shift_head ≡ Spelled (codes "{") ∷ Spelled (quoted (codes "SC__pi")) ∷ Spelled (codes "=") ∷ []
unfolding tokens_from class_of
shift_head_tokens = refl

-- the tokens behind the word
abbrev shift_rest : ℕ → ℕ → Text → List Token
shift_rest n outputs rest = Spelled (59 ∷ []) ∷ (assigned_tokens (map quoted (other_names n)) (other_words n outputs) ++ tokens rest)

shift_word_tokens : (n outputs : ℕ) (word rest : Text) → IsValueWord word → 1 ≤ outputs
    → tokens (codes "{ " ++ (assignments (assigned n) (word ∷ other_words n outputs) ++ rest)) ≡ tokens shift_head ++ (Spelled word ∷ shift_rest n outputs rest)
shift_word_tokens n outputs word rest w h =
    brace_tokens (assignments (assigned n) (word ∷ other_words n outputs) ++ rest)
    ∙ ap (λ l. Spelled (codes "{") ∷ l) (assignments_tokens (assigned n) (word ∷ other_words n outputs) rest (assignable_words (assigned n) (word ∷ other_words n outputs) (assigned_quotable n) (w, others_are_words n outputs h)))
    ∙ sym (ap (λ l. l ++ (Spelled word ∷ shift_rest n outputs rest)) shift_head_tokens)

shift_passes : (n outputs : ℕ) (rest : Text) → behind_first pattern_word (shift_rest n outputs rest) ≡ behind_first pattern_word (tokens rest)
shift_passes n outputs rest =
    semicolon pattern_word (assigned_tokens (map quoted (other_names n)) (other_words n outputs) ++ tokens rest) pattern_fixed.key
    ∙ pass_assigned pattern_word (other_names n) (other_words n outputs) (tokens rest) pattern_fixed.key (others_differ n outputs)

-- ---- the whole

no_length : {X : Type 0} (xs : List X) → length xs ≡ 0 → xs ≡ []
no_length [] h = refl
no_length (x ∷ xs) h = absurd (omega (arith, h))

cells_quotable : (chains : List (List Text)) → All (All IsStilName) chains → AllQuotable chains
cells_quotable [] h = tt
cells_quotable (cells ∷ chains) h = (names_quotable cells (All-head (All IsStilName) cells chains h), cells_quotable chains (All-tail (All IsStilName) cells chains h))

pi_names : (f : StilFile) → IsStilFile f → All IsStilName f.pi
pi_names f h = all_front IsStilName f.pi (scan_inputs f ++ (clock f ++ (f.po ++ scan_outputs f))) h.names

po_names : (f : StilFile) → IsStilFile f → All IsStilName f.po
po_names f h =
    all_front IsStilName f.po (scan_outputs f) (all_back IsStilName (clock f) (f.po ++ scan_outputs f) (all_back IsStilName (scan_inputs f) (clock f ++ (f.po ++ scan_outputs f))
    (all_back IsStilName f.pi (scan_inputs f ++ (clock f ++ (f.po ++ scan_outputs f))) h.names)))

abbrev file_with : List Text → List Text → List (List Text) → Text → List Item → StilFile
file_with pi po chains word items = record { pi = pi; po = po; chains = chains; shift_word = word; items = items }

-- without chains
plain_written : (pi po : List Text) (word : Text) (items : List Item) → IsStilFile (file_with pi po [] word items) → IsSpelt (file_with pi po [] word items) (tokens (stil_text (file_with pi po [] word items)))
plain_written pi po word items h =
    let f : StilFile = file_with pi po [] word items in
    let close = codes "}\n" in
    let rest = groups_text f ++ (timing_text f ++ (burst_text ++ pattern_text f)) in
    let p = names_unquoted pi (pi_names f h) in
    let q = names_unquoted po (po_names f h) in
    record {
      one = tokens (close ++ rest);
      two = tokens (close ++ rest);
      three = tokens (close ++ rest);
      rest = tokens close;
      signals = declared_written pi po 0 rest (names_quotable pi (pi_names f h)) (names_quotable po (po_names f h)) h.outputs;
      chains = (refl, refl);
      shift = (no_length word h.shift.0, refl);
      pattern = pattern_written f (tokens (close ++ rest)) h
          (pattern_fixed.close rest ∙ pass_groups pattern_word f pattern_fixed p q (timing_text f ++ (burst_text ++ pattern_text f)) ∙ pass_timing pattern_word f pattern_fixed (burst_text ++ pattern_text f)
          ∙ behind_chains.pattern_burst (pattern_text f) ∙ behind_chains.pattern (codes "\"pattern\" {\n  W \"wft\";\n" ++ item_lines f));
    }

front_apart : (a g t s b c r : Text) → (a ++ (g ++ (t ++ ((s ++ (b ++ c)) ++ r)))) ≡ (a ++ (g ++ (t ++ s))) ++ (b ++ (c ++ r))
front_apart a g t s b c r =
    ap (λ x. a ++ (g ++ (t ++ x))) (append_assoc s (b ++ c) r ∙ ap (λ x. s ++ x) (append_assoc b c r))
    ∙ ap (λ x. a ++ (g ++ x)) (sym (append_assoc t s (b ++ (c ++ r)))) ∙ ap (λ x. a ++ x) (sym (append_assoc g (t ++ s) (b ++ (c ++ r))))
    ∙ sym (append_assoc a (g ++ (t ++ s)) (b ++ (c ++ r)))

-- with chains
chained_written : (pi po : List Text) (c : List Text) (cs : List (List Text)) (word : Text) (items : List Item) → IsStilFile (file_with pi po (c ∷ cs) word items)
    → IsSpelt (file_with pi po (c ∷ cs) word items) (tokens (stil_text (file_with pi po (c ∷ cs) word items)))
chained_written pi po c cs word items h =
    let f : StilFile = file_with pi po (c ∷ cs) word items in
    let n = suc (length cs) in
    let close = codes "}\n" in
    let tail = codes "    }\n  }\n}\n" in
    let item = item_text (called n) (assigned n) (Vector (shift_words f)) in
    let procedures = procedures_head ++ (item ++ tail) in
    let behind = close ++ (burst_text ++ (procedures ++ pattern_text f)) in
    let blocks = chain_blocks 0 (c ∷ cs) in
    let structures = codes "ScanStructures {\n" ++ (blocks ++ close) in
    let rest = groups_text f ++ (timing_text f ++ (structures ++ (burst_text ++ (procedures ++ pattern_text f)))) in
    let first = (scan_out_lines n ++ close) ++ rest in
    let p = names_unquoted pi (pi_names f h) in
    let q = names_unquoted po (po_names f h) in
    let cells = cells_quotable (c ∷ cs) h.cell_names in
    let front = (scan_out_lines n ++ close) ++ (groups_text f ++ (timing_text f ++ codes "ScanStructures {\n")) in
    let plain : 0 + n ≡ n = omega arith in
    let same : first ≡ front ++ (blocks ++ behind) = front_apart (scan_out_lines n ++ close) (groups_text f) (timing_text f) (codes "ScanStructures {\n") blocks close (burst_text ++ (procedures ++ pattern_text f)) in
    let passes : Passes cells_word front =
    pass_both cells_word (scan_out_lines n ++ close) (groups_text f ++ (timing_text f ++ codes "ScanStructures {\n"))
    (pass_both cells_word (scan_out_lines n) close (pass_signals cells_word (codes " Out { ScanOut; }\n") (numbered (codes "SC__so") n) cells_fixed.key cells_fixed.outputs (outputs_quotable n)) cells_fixed.close)
    (pass_both cells_word (groups_text f) (timing_text f ++ codes "ScanStructures {\n") (pass_groups cells_word f cells_fixed p q)
    (pass_both cells_word (timing_text f) (codes "ScanStructures {\n") (pass_timing cells_word f cells_fixed) structures_pass)) in
    record {
      one = tokens first;
      two = tokens (chain_end ++ behind);
      three = shift_rest n (length po) (close ++ (tail ++ pattern_text f));
      rest = tokens close;
      signals = declared_written pi po n rest (names_quotable pi (pi_names f h)) (names_quotable po (po_names f h)) h.outputs;
      chains = subst (λ m. AreChains m (tokens first) (c ∷ cs) (tokens (chain_end ++ behind))) plain (chains_written cs 0 (tokens first) [] front behind c (refl, ap tokens same) passes cells.0 cells.1);
      shift = record {
        inner = tokens (codes "{ " ++ (assignments (assigned n) (shift_words f) ++ (close ++ (tail ++ pattern_text f))));
        skipped = behind_chains.chain behind ∙ behind_chains.close (burst_text ++ (procedures ++ pattern_text f)) ∙ behind_chains.burst (procedures ++ pattern_text f)
            ∙ ap (λ t. behind_first vector_word (tokens t)) (append_assoc procedures_head (item ++ tail) (pattern_text f)) ∙ behind_chains.procedures ((item ++ tail) ++ pattern_text f)
            ∙ behind_chains.vector (codes "{ " ++ (((assignments (assigned n) (shift_words f) ++ close) ++ tail) ++ pattern_text f))
            ∙ ap (λ t. Some (tokens (codes "{ " ++ t)))
            (append_assoc (assignments (assigned n) (shift_words f) ++ close) tail (pattern_text f) ∙ append_assoc (assignments (assigned n) (shift_words f)) close (tail ++ pattern_text f));
        word_is = shift_word_tokens n (length po) word (close ++ (tail ++ pattern_text f)) (value_word (record { values = values.Bits; size = length pi }) word h.inputs h.shift) h.outputs;
      };
      pattern = pattern_written f (shift_rest n (length po) (close ++ (tail ++ pattern_text f))) h
          (shift_passes n (length po) (close ++ (tail ++ pattern_text f)) ∙ pattern_fixed.close (tail ++ pattern_text f) ∙ pattern_fixed.timing_ends (pattern_text f)
          ∙ behind_chains.pattern (codes "\"pattern\" {\n  W \"wft\";\n" ++ item_lines f));
    }

written_by : (pi po : List Text) (chains : List (List Text)) (word : Text) (items : List Item) → IsStilFile (file_with pi po chains word items) → IsSpelt (file_with pi po chains word items) (tokens (stil_text (file_with pi po chains word items)))
written_by pi po [] word items h = plain_written pi po word items h
written_by pi po (c ∷ cs) word items h = chained_written pi po c cs word items h

pub written_spelt : (f : StilFile) → IsStilFile f → IsSpelt f (tokens (stil_text f))
written_spelt f h = written_by f.pi f.po f.chains f.shift_word f.items h
