-- Texts in which a token doesn't stand, and which the reader passes over.
use Rattle.std.proofs.Common.{◌≡◌, ◌∙◌, ◌+◌, ◌≤◌, ◌<◌, ℕ, zero, suc, Bool, true, false, List, [], ◌∷◌, ◌++◌, ap, sym, refl, subst, append_assoc, append-nil, length, arith, decimal, map, replicate, lit≤}
use Rattle.std.specs.Prelude.{◌==◌, ◌&&◌, codes, Some, None, if◌then◌else◌, ⊤}
use Rattle.std.specs.List.{flat_map}
use Rattle.std.specs.Str.{bytes_eq}
use Rattle.statement.specs.Benches.{Text}
use Rattle.statement.specs.Stils.{StilFile, clock, numbered, scan_inputs, scan_outputs, where_chained, group_line, joined, quoted, timing_text}
use Rattle.stil_write.specs.Pieces.{chain_end, chain_head, expression, signal_line, signal_lines, waveform_line, waveform_lines}
use Rattle.stil_write.specs.Texts.{burst_text, clock_form, drive_form, groups_text, procedures_head, strobe_form, timing_head}
use Rattle.stil_read.specs.declared.bytes.Class.TheVariants as class
use Rattle.stil_read.specs.Tokens.{InQuotes, Spelled, Token, class_of, tokens, tokens_from}
use Rattle.stil_read.specs.inner.Assigned.{assigned_tokens, assignment_tokens}
use Rattle.stil_read.specs.inner.Grammar.{cells_word, pattern_word, vector_word}
use Rattle.stil_read.specs.inner.Skips.{Passes, behind_first, is_spelled}
use Rattle.stil_read.specs.inner.Written.{AreQuotable, IsQuotable, IsValueWord}
use Rattle.stil_read.proofs.NameLemmas.{AreUnquoted, BeginsLow, IsUnquoted, decimal_low, decimal_quotable, decimal_word, numbered_quotable, quotable-append, unquoted-append}
use Rattle.stil_read.proofs.SkipLemmas.{left_out}
use Rattle.stil_read.proofs.TokenLemmas.{at_quote, not_equal, step_from}
use Rattle.stil_read.proofs.WrittenLemmas.{quoted_tokens, word_tokens}

-- ---- one token

pub pass_token : (word : Text) (t : Token) (ts : List Token) → is_spelled word t ≡ false → behind_first word (t ∷ ts) ≡ behind_first word ts
unfolding behind_first
pass_token word t ts e = left_out (is_spelled word t) (Some ts) (behind_first word ts) e

-- words that are looked for begin with a letter
abbrev pub IsKey : Text → Type 0
IsKey [] = ⊥
IsKey (b ∷ bs) = 65 ≤ b

and_false : (a b : Bool) → a ≡ false → (a && b) ≡ false
and_false true b e = cc
and_false false b e = refl

pub low_differs : (word text : Text) → IsKey word → BeginsLow text → bytes_eq text word ≡ false
low_differs [] text k l = absurd k
low_differs (b ∷ bs) [] k l = refl
low_differs (b ∷ bs) (x ∷ xs) k l = and_false (x == b) (bytes_eq xs bs) (not_equal x b (λ e. omega (arith, e, k, l)))

-- ---- together

pub pass_both : (word x y : Text) → Passes word x → Passes word y → Passes word (x ++ y)
pass_both word x y p q rest = ap (λ t. behind_first word (tokens t)) (append_assoc x y rest) ∙ p (y ++ rest) ∙ q rest

pub pass_nothing : (word : Text) → Passes word []
pass_nothing word rest = refl

pub pass_quoted : (word name : Text) → IsKey word → IsQuotable name → Passes word (quoted name)
pass_quoted word name k q rest =
    ap (behind_first word) (quoted_tokens name rest q) ∙ pass_token word (Spelled (quoted name)) (tokens rest) (low_differs word (quoted name) k (let l : 34 < 65 = omega arith in l))

blank : (word : Text) → Passes word (codes "  ")
unfolding tokens_from class_of
blank word rest = refl

wide_blank : (word : Text) → Passes word (codes "      ")
unfolding tokens_from class_of
wide_blank word rest = refl

-- ---- `'"a" + "b"'`

in_single : (name text rest : Text) → IsUnquoted name → tokens_from (InQuotes 39 text) ((name ++ 39 ∷ []) ++ rest) ≡ Spelled (text ++ (name ++ 39 ∷ [])) ∷ tokens rest
in_single [] text rest q = step_from (InQuotes 39 text) 39 rest
in_single (b ∷ bs) text rest q =
    let h : (b == 39) ≡ false = q.0 in
    step_from (InQuotes 39 text) b ((bs ++ 39 ∷ []) ++ rest) ∙ (rw h (in_single bs (text ++ b ∷ []) rest q.1))
    ∙ ap (λ w. Spelled w ∷ tokens rest) (append_assoc text (b ∷ []) (bs ++ 39 ∷ []))

single_class : class_of 39 ≡ class.Quote
unfolding class_of
single_class = refl

quoted_unquoted : (name : Text) → IsUnquoted name → IsUnquoted (quoted name)
quoted_unquoted name h = (refl, unquoted-append name (34 ∷ []) h (refl, tt))

further_unquoted : (names : List Text) → AreUnquoted names → IsUnquoted (flat_map (λ other. codes " + " ++ quoted other) names)
further_unquoted [] h = tt
further_unquoted (name ∷ names) h =
    unquoted-append (codes " + " ++ quoted name) (flat_map (λ other. codes " + " ++ quoted other) names) (refl, (refl, (refl, quoted_unquoted name h.0))) (further_unquoted names h.1)

joined_unquoted : (names : List Text) → AreUnquoted names → IsUnquoted (joined (codes " + ") names)
joined_unquoted [] h = tt
joined_unquoted (name ∷ names) h = unquoted-append (quoted name) (flat_map (λ other. codes " + " ++ quoted other) names) (quoted_unquoted name h.0) (further_unquoted names h.1)

pass_expression : (word : Text) (names : List Text) → IsKey word → AreUnquoted names → Passes word (expression names)
pass_expression word names k u rest =
    ap (behind_first word) (at_quote 39 ((joined (codes " + ") names ++ 39 ∷ []) ++ rest) single_class ∙ in_single (joined (codes " + ") names) (39 ∷ []) rest (joined_unquoted names u))
    ∙ pass_token word (Spelled (39 ∷ (joined (codes " + ") names ++ 39 ∷ []))) (tokens rest) (low_differs word (39 ∷ (joined (codes " + ") names ++ 39 ∷ [])) k (let l : 39 < 65 = omega arith in l))

-- ---- lines

pass_signal : (word kind name : Text) → IsKey word → Passes word kind → IsQuotable name → Passes word (signal_line kind name)
pass_signal word kind name k p q = pass_both word (codes "  ") (quoted name ++ kind) (blank word) (pass_both word (quoted name) kind (pass_quoted word name k q) p)

pub pass_signals : (word kind : Text) (names : List Text) → IsKey word → Passes word kind → AreQuotable names → Passes word (signal_lines kind names)
pass_signals word kind [] k p q = pass_nothing word
pass_signals word kind (name ∷ names) k p q =
    pass_both word (signal_line kind name) (signal_lines kind names) (pass_signal word kind name k p q.0) (pass_signals word kind names k p q.1)

pass_waveforms : (word kind : Text) (names : List Text) → IsKey word → Passes word kind → AreQuotable names → Passes word (waveform_lines kind names)
pass_waveforms word kind [] k p q = pass_nothing word
pass_waveforms word kind (name ∷ names) k p q =
    pass_both word (waveform_line kind name) (waveform_lines kind names)
    (pass_both word (codes "      ") (quoted name ++ kind) (wide_blank word) (pass_both word (quoted name) kind (pass_quoted word name k q.0) p)) (pass_waveforms word kind names k p q.1)

-- ---- what is the same in every file

pub record Fixed (word : Text) : Type 0 where
  pub key : IsKey word
  pub outputs : Passes word (codes " Out { ScanOut; }\n")
  pub close : Passes word (codes "}\n")
  pub groups : Passes word (codes "SignalGroups {\n")
  pub equals : Passes word (codes " = ")
  pub ends : Passes word (codes ";\n")
  pub timing : Passes word timing_head
  pub drive : Passes word drive_form
  pub clock : Passes word clock_form
  pub strobe : Passes word strobe_form
  pub timing_ends : Passes word (codes "    }\n  }\n}\n")

pub cells_fixed : Fixed cells_word
unfolding tokens_from class_of behind_first
cells_fixed = record {
  key = (let l : 65 ≤ 83 = omega arith in l);
  outputs = λ rest. refl;
  close = λ rest. refl;
  groups = λ rest. refl;
  equals = λ rest. refl;
  ends = λ rest. refl;
  timing = λ rest. refl;
  drive = λ rest. refl;
  clock = λ rest. refl;
  strobe = λ rest. refl;
  timing_ends = λ rest. refl;
}

pub pattern_fixed : Fixed pattern_word
unfolding tokens_from class_of behind_first
pattern_fixed = record {
  key = (let l : 65 ≤ 80 = omega arith in l);
  outputs = λ rest. refl;
  close = λ rest. refl;
  groups = λ rest. refl;
  equals = λ rest. refl;
  ends = λ rest. refl;
  timing = λ rest. refl;
  drive = λ rest. refl;
  clock = λ rest. refl;
  strobe = λ rest. refl;
  timing_ends = λ rest. refl;
}

pass_group : (word group : Text) (names : List Text) → Fixed word → IsQuotable group → AreUnquoted names → Passes word (group_line group names)
pass_group word group names f q u =
    pass_both word (codes "  ") (quoted group ++ (codes " = " ++ (expression names ++ codes ";\n"))) (blank word)
    (pass_both word (quoted group) (codes " = " ++ (expression names ++ codes ";\n")) (pass_quoted word group f.key q)
    (pass_both word (codes " = ") (expression names ++ codes ";\n") f.equals (pass_both word (expression names) (codes ";\n") (pass_expression word names f.key u) f.ends)))

pub pi_quotable : IsQuotable (codes "SC__pi")
pi_quotable = (refl, (refl, (refl, (refl, (refl, (refl, tt))))))

pub po_quotable : IsQuotable (codes "SC__po")
po_quotable = (refl, (refl, (refl, (refl, (refl, (refl, tt))))))

si_quotable : IsQuotable (codes "SC__si")
si_quotable = (refl, (refl, (refl, (refl, (refl, (refl, tt))))))

so_quotable : IsQuotable (codes "SC__so")
so_quotable = (refl, (refl, (refl, (refl, (refl, (refl, tt))))))

ck_quotable : IsQuotable (codes "SC__ck")
ck_quotable = (refl, (refl, (refl, (refl, (refl, (refl, tt))))))

pub inputs_quotable : (n : ℕ) → AreQuotable (numbered (codes "SC__si") n)
inputs_quotable n = numbered_quotable (codes "SC__si") n si_quotable

pub outputs_quotable : (n : ℕ) → AreQuotable (numbered (codes "SC__so") n)
outputs_quotable n = numbered_quotable (codes "SC__so") n so_quotable

pub pass_groups : (word : Text) (f : StilFile) → Fixed word → AreUnquoted f.pi → AreUnquoted f.po → Passes word (groups_text f)
pass_groups word f x p q =
    pass_both word (codes "SignalGroups {\n") (group_line (codes "SC__pi") f.pi ++ (group_line (codes "SC__po") f.po ++ codes "}\n")) x.groups
    (pass_both word (group_line (codes "SC__pi") f.pi) (group_line (codes "SC__po") f.po ++ codes "}\n") (pass_group word (codes "SC__pi") f.pi x pi_quotable p)
    (pass_both word (group_line (codes "SC__po") f.po) (codes "}\n") (pass_group word (codes "SC__po") f.po x po_quotable q) x.close))

pub clock_quotable : (n : ℕ) → AreQuotable (where_chained n (codes "SC__ck"))
clock_quotable zero = tt
clock_quotable (suc n) = (ck_quotable, tt)

pub pass_timing : (word : Text) (f : StilFile) → Fixed word → Passes word (timing_text f)
pass_timing word f x =
    let n = length f.chains in
    let drives = waveform_lines drive_form (codes "SC__pi" ∷ scan_inputs f) in
    let pulses = waveform_lines clock_form (clock f) in
    let strobes = waveform_lines strobe_form (codes "SC__po" ∷ scan_outputs f) in
    let tail = codes "    }\n  }\n}\n" in
    pass_both word timing_head (drives ++ (pulses ++ (strobes ++ tail))) x.timing
    (pass_both word drives (pulses ++ (strobes ++ tail)) (pass_waveforms word drive_form (codes "SC__pi" ∷ scan_inputs f) x.key x.drive (pi_quotable, inputs_quotable n))
    (pass_both word pulses (strobes ++ tail) (pass_waveforms word clock_form (clock f) x.key x.clock (clock_quotable n))
    (pass_both word strobes tail (pass_waveforms word strobe_form (codes "SC__po" ∷ scan_outputs f) x.key x.strobe (po_quotable, outputs_quotable n)) x.timing_ends)))

-- ---- the head of a chain, up to its names

abbrev pub Finds : Text → Text → Type 0
Finds word text = (rest : Text) → behind_first word (tokens (text ++ rest)) ≡ Some (tokens rest)

pub pass_find : (word x y : Text) → Passes word x → Finds word y → Finds word (x ++ y)
pass_find word x y p f rest = ap (λ t. behind_first word (tokens t)) (append_assoc x y rest) ∙ p (y ++ rest) ∙ f rest

pub semicolon : (word : Text) (ts : List Token) → IsKey word → behind_first word (Spelled (59 ∷ []) ∷ ts) ≡ behind_first word ts
semicolon word ts k = pass_token word (Spelled (59 ∷ [])) ts (low_differs word (59 ∷ []) k (let l : 59 < 65 = omega arith in l))

-- a number, and what follows behind a semicolon
find_behind_number : (word : Text) (n : ℕ) (text : Text) → IsKey word → Finds word text → Finds word (decimal n ++ 59 ∷ text)
find_behind_number word n text k f rest =
    ap (λ t. behind_first word (tokens t)) (append_assoc (decimal n) (59 ∷ text) rest)
    ∙ ap (behind_first word) (word_tokens (decimal n) (text ++ rest) (decimal_word n))
    ∙ pass_token word (Spelled (decimal n)) (Spelled (59 ∷ []) ∷ tokens (text ++ rest)) (low_differs word (decimal n) k (decimal_low n))
    ∙ semicolon word (tokens (text ++ rest)) k ∙ f rest

chain_quotable : (k : ℕ) → IsQuotable (codes "chain" ++ decimal k)
chain_quotable k = quotable-append (codes "chain") (decimal k) (refl, (refl, (refl, (refl, (refl, tt))))) (decimal_quotable k)

abbrev head_fixed : Type 0
head_fixed = Passes cells_word (codes "  ScanChain ") × Passes cells_word (codes " {\n    ScanLength ") × Passes cells_word (codes "\n    ScanIn ") × Passes cells_word (codes ";\n    ScanOut ")
    × Finds cells_word (codes ";\n    ScanCells ")

head_parts : head_fixed
unfolding tokens_from class_of behind_first
head_parts = (λ rest. refl, λ rest. refl, λ rest. refl, λ rest. refl, λ rest. refl)

pub chain_found : (k cells : ℕ) → Finds cells_word (chain_head k cells)
chain_found k cells =
    let key = cells_fixed.key in
    let name = quoted (codes "chain" ++ decimal k) in
    let si = quoted (codes "SC__si" ++ decimal k) in
    let so = quoted (codes "SC__so" ++ decimal k) in
    let end = codes ";\n    ScanCells " in
    let four = codes ";\n    ScanOut " ++ (so ++ end) in
    let three = codes "\n    ScanIn " ++ (si ++ four) in
    let p = head_parts in
    let found_so : Finds cells_word (so ++ end) = pass_find cells_word so end (pass_quoted cells_word (codes "SC__so" ++ decimal k) key (quotable-append (codes "SC__so") (decimal k) so_quotable (decimal_quotable k))) p.4 in
    let found_four : Finds cells_word four = pass_find cells_word (codes ";\n    ScanOut ") (so ++ end) p.3 found_so in
    let found_si : Finds cells_word (si ++ four) = pass_find cells_word si four (pass_quoted cells_word (codes "SC__si" ++ decimal k) key (quotable-append (codes "SC__si") (decimal k) si_quotable (decimal_quotable k))) found_four in
    let found_three : Finds cells_word three = pass_find cells_word (codes "\n    ScanIn ") (si ++ four) p.2 found_si in
    let found_number : Finds cells_word (decimal cells ++ 59 ∷ three) = find_behind_number cells_word cells three key found_three in
    let found_length : Finds cells_word (codes " {\n    ScanLength " ++ (decimal cells ++ 59 ∷ three)) = pass_find cells_word (codes " {\n    ScanLength ") (decimal cells ++ 59 ∷ three) p.1 found_number in
    let found_name : Finds cells_word (name ++ (codes " {\n    ScanLength " ++ (decimal cells ++ 59 ∷ three))) =
    pass_find cells_word name (codes " {\n    ScanLength " ++ (decimal cells ++ 59 ∷ three)) (pass_quoted cells_word (codes "chain" ++ decimal k) key (chain_quotable k)) found_length in
    pass_find cells_word (codes "  ScanChain ") (name ++ (codes " {\n    ScanLength " ++ (decimal cells ++ 59 ∷ three))) p.0 found_name

pub chain_end_passes : Passes cells_word chain_end
unfolding tokens_from class_of behind_first
chain_end_passes rest = refl

pub structures_pass : Passes cells_word (codes "ScanStructures {\n")
unfolding tokens_from class_of behind_first
structures_pass rest = refl

-- ---- behind the chains

pub record Behind : Type 0 where
  pub chain : Passes vector_word chain_end
  pub close : Passes vector_word (codes "}\n")
  pub burst : Passes vector_word burst_text
  pub procedures : Passes vector_word procedures_head
  pub vector : Finds vector_word (codes "V ")
  pub pattern_burst : Passes pattern_word burst_text
  pub pattern : Finds pattern_word (codes "Pattern ")

pub behind_chains : Behind
unfolding tokens_from class_of behind_first
behind_chains = record {
  chain = λ rest. refl;
  close = λ rest. refl;
  burst = λ rest. refl;
  procedures = λ rest. refl;
  vector = λ rest. refl;
  pattern_burst = λ rest. refl;
  pattern = λ rest. refl;
}

-- ---- what a vector assigns

abbrev pub AllDiffer : Text → List Text → Type 0
AllDiffer word [] = ⊤
AllDiffer word (text ∷ texts) = (bytes_eq text word ≡ false) × AllDiffer word texts

pub pass_assigned : (word : Text) (names words : List Text) (ts : List Token) → IsKey word → AllDiffer word words → behind_first word (assigned_tokens (map quoted names) words ++ ts) ≡ behind_first word ts
pass_assigned word [] words ts k d = refl
pass_assigned word (name ∷ names) [] ts k d = refl
pass_assigned word (name ∷ names) (w ∷ words) ts k d =
    let rest = assigned_tokens (map quoted names) words ++ ts in
    pass_token word (Spelled (quoted name)) (Spelled (61 ∷ []) ∷ Spelled w ∷ Spelled (59 ∷ []) ∷ rest) (low_differs word (quoted name) k (let l : 34 < 65 = omega arith in l))
    ∙ pass_token word (Spelled (61 ∷ [])) (Spelled w ∷ Spelled (59 ∷ []) ∷ rest) (low_differs word (61 ∷ []) k (let l : 61 < 65 = omega arith in l))
    ∙ pass_token word (Spelled w) (Spelled (59 ∷ []) ∷ rest) d.0 ∙ semicolon word rest k ∙ pass_assigned word names words ts k d.1
