-- The canonical text of a netlist is read again as that netlist.
use Rattle.std.proofs.Common.{◌≡◌, ◌≢◌, ◌<◌, ◌≤◌, ◌+◌, ◌⊎◌, inl, inr, ℕ, Bool, true, false, not, List, [], ◌∷◌, ◌++◌, length, get_or, refl, sym, ap, ◌∙◌, map, subst, append_assoc, append-nil, arith, ⊎_elim}
use Rattle.std.specs.Prelude.{Some, None, slice_get, fold, nat_lt, nat_le, ◌&&◌, codes, IsTrue, if◌then◌else◌}
use Rattle.std.specs.List.{list_all, list_any, flat_map, All, AllPairs, AllByRecursion, Contains}
use Rattle.std.specs.Str.{bytes_eq}
use Rattle.std.proofs.lemmas.List.{length-map, map-append}
use Rattle.std.proofs.lemmas.Bool.Decides.{nat_tests}
use Rattle.std.proofs.lemmas.List.Concat.{flat_map-append}
use Rattle.std.proofs.lemmas.Option.{slice_get_within, slice_get-get_or, get_or_from_slice_get}
use Rattle.statement.specs.declared.kinds.Kind.{Kind}
use Rattle.statement.specs.declared.kinds.Kind.TheVariants.{And, Nand, Or, Nor, Xor, Xnor, Not, Buff, Dff, Const0, Const1}
use Rattle.netlist.specs.Gates.{allows_pins}
use Rattle.statement.specs.Netlists.{IsName, Netlist, Definition as Equation, signals}
use Rattle.netlist.specs.Conditions.{IsSound, HasReader}
use Rattle.bench_text.specs.declared.refusal.Names.{Names}
use Rattle.bench_text.specs.declared.refusal.Names.TheVariants.{Design, Scanned}
use Rattle.bench_text.specs.declared.refusal.BenchKind.TheVariants.{BadPins}
use Rattle.bench_text.specs.Bytes.{lines}
use Rattle.bench_text.specs.Tokens.{Word, Comma, Equals, tokens}
use Rattle.statement.specs.Benches.{word, name_at, port_line, pin_list, definition_line, canonical_lines, canonical}
use Rattle.bench_text.specs.Forms.{Statement, Input, Output, Definition}
use Rattle.netlist.specs.Designs.{is_reserved}
use Rattle.bench_text.specs.Refusals.{longest, is_short, has_reserved_name, statement_names}
use Rattle.bench_text.specs.inner.OneLine.{gate_refusal}
use Rattle.bench_text.specs.Said.{Said, note_at, notes_from, statements_of}
use Rattle.bench_text.specs.Texts.{statement_on, statements, input, defined, output, inputs_of, definitions_of, signals_of, first_refusal}
use Rattle.bench_text.specs.Sights.{with_name, distinct}
use Rattle.bench_text.specs.inner.NewNames.{AreDistinct}
use Rattle.bench_text.specs.Whole.{outputs_of, reads_from, whole_refusal, or_else, refusal, notes}
use Rattle.bench_text.specs.Netlists.{id_of, equation, netlist_of}
use Rattle.bench_text.specs.Reading.{netlist_in}
use Rattle.bench_text.specs.Canonical.{further, equation_line}
use Rattle.bench_text.specs.Laws.{is_free, IsReadable}
use Rattle.bench_text.proofs.Plain.{is_plain, IsRun, Says}
use Rattle.bench_text.proofs.Lists.{list_all-map, all_append, index-all, get_front, get_back, got_map, some-any, some_same, name_same, false_if}
use Rattle.bench_text.proofs.LineLemmas.{says-it, own_refusal-gate, le_true}
use Rattle.bench_text.proofs.DraftLemmas.{at_name}
use Rattle.bench_text.proofs.FormedLemmas.{any-got, contains-got, got-contains, got-all, id-at}
use Rattle.bench_text.proofs.Runs.{either}
use Rattle.bench_text.proofs.WriteLemmas.{signal-below, definition-writable, outputs-writable}
use Rattle.bench_text.proofs.CanonicalLemmas.{tokens-front, tokens-blank, tokens-comma, tokens-equals, tokens-open, tokens-last, no_word, regroup, port-tokens, gate-name, input-name, output-name, plain-code, plain-port, plain-definition, input-says, output-says, definition-says, ended-again}
use Rattle.bench_text.proofs.ReadBack.{all-index, all-true, all-so, all-mapped, map-same, map-twice, flat-one, flat-none, same-list, Each, each-mapped, each-append, ReadsAs, all-plain, all-said, all-noted, all-fresh, no-refusal, defines, order, name-run, whole-fine}

not_true : (b : Bool) → not b ≡ true → b ≡ false
not_true true h = cc
not_true false h = refl

-- distinct names are in the order of first places already
kept-order : (xs before : List (List ℕ)) → AreDistinct (before ++ xs) → fold with_name before xs ≡ before ++ xs
kept-order [] before apart = sym (append-nil before)
kept-order (x ∷ xs) before apart =
    let new : list_any (bytes_eq x) before ≡ false = false_if _ (λ (t : list_any (bytes_eq x) before ≡ true).
    let p = any-got x before t in
    let w = slice_get_within before p.0 x p.1 in
    let same : p.0 ≡ length before + 0 = apart p.0 (length before + 0) x (get_front before (x ∷ xs) p.0 x p.1) (get_back before (x ∷ xs) 0 x refl) in
    omega arith) in
    let step : with_name before x ≡ before ++ x ∷ [] = ap (λ (b : Bool). if b then before else before ++ x ∷ []) new in
    ap (λ l. fold with_name l xs) step
    ∙ kept-order xs (before ++ x ∷ []) (subst AreDistinct (sym (append_assoc before (x ∷ []) xs)) apart)
    ∙ append_assoc before (x ∷ []) xs

at-most : (a b : ℕ) → ((x : ℕ) → x < a → x < b) → a ≤ b
at-most a b h = ⊎_elim
    (λ (t : nat_lt b a ≡ true). let k : b < a = grind (arith, nat_tests) in let l = h b k in absurd (omega arith))
    (λ (e : nat_lt b a ≡ false). grind (arith, nat_tests))
    (either (nat_lt b a))

pairs-distinct : (names : List (List ℕ)) → AllPairs (λ x y. x ≢ y) names → AreDistinct names
pairs-distinct names h i j x e f = by (either (nat_lt i j)) (either (nat_lt j i))
  where
    at : (k : ℕ) → slice_get names k ≡ Some x → get_or names k [] ≡ x
    at k g = get_or_from_slice_get names k x [] g

    by : (nat_lt i j ≡ true) ⊎ (nat_lt i j ≡ false) → (nat_lt j i ≡ true) ⊎ (nat_lt j i ≡ false) → i ≡ j
    by (inl t) g =
        let k : i < j = grind (arith, nat_tests) in
        absurd (h i j [] k (slice_get_within names j x f) (at i e ∙ sym (at j f)))
    by (inr t) (inl g) =
        let k : j < i = grind (arith, nat_tests) in
        absurd (h j i [] k (slice_get_within names i x e) (at j f ∙ sym (at i e)))
    by (inr t) (inr g) = grind (arith, nat_tests)

-- words that are short
module _ (reading : Names) where
  abbrev IsShort : List ℕ → Type 0
  IsShort x = length x ≤ longest reading

  short-word : (x : List ℕ) → IsShort x → nat_le (length x) (longest reading) ≡ true
  short-word x h = le_true (length x) (longest reading) h

  short-further : (xs : List (List ℕ)) → AllByRecursion IsRun xs → AllByRecursion IsShort xs → list_all (is_short reading) (tokens (further xs ++ codes ")")) ≡ true
  short-further [] h k = ap (list_all (is_short reading)) tokens-last
  short-further (x ∷ xs) h k =
      let split : (44 ∷ 32 ∷ x ++ further xs) ++ codes ")" ≡ 44 ∷ 32 ∷ (x ++ (further xs ++ codes ")")) = ap (λ l. 44 ∷ 32 ∷ l) (append_assoc x (further xs) (codes ")")) in
      ap (λ l. list_all (is_short reading) (tokens l)) split
      ∙ ap (list_all (is_short reading)) (tokens-comma _ ∙ ap (λ ts. Comma ∷ ts) (tokens-blank _ ∙ tokens-front x (further xs ++ codes ")") h.0.word h.0.some (no_word xs)))
      ∙ (λ i. short-word x k.0 i && short-further xs h.1 k.1 i)

  short-pins : (xs : List (List ℕ)) → AllByRecursion IsRun xs → AllByRecursion IsShort xs → list_all (is_short reading) (tokens (pin_list xs ++ codes ")")) ≡ true
  short-pins [] h k = ap (list_all (is_short reading)) tokens-last
  short-pins (x ∷ xs) h k =
      ap (λ l. list_all (is_short reading) (tokens l)) (append_assoc x (further xs) (codes ")"))
      ∙ ap (list_all (is_short reading)) (tokens-front x (further xs ++ codes ")") h.0.word h.0.some (no_word xs))
      ∙ (λ i. short-word x k.0 i && short-further xs h.1 k.1 i)

  short-gate : (kind : Kind) → IsShort (word kind)
  short-gate kind = by reading kind
    where
      by : (r : Names) (k : Kind) → length (word k) ≤ longest r
      by Design And = omega arith
      by Design Nand = omega arith
      by Design Or = omega arith
      by Design Nor = omega arith
      by Design Xor = omega arith
      by Design Xnor = omega arith
      by Design Not = omega arith
      by Design Buff = omega arith
      by Design Dff = omega arith
      by Design Const0 = omega arith
      by Design Const1 = omega arith
      by Scanned And = omega arith
      by Scanned Nand = omega arith
      by Scanned Or = omega arith
      by Scanned Nor = omega arith
      by Scanned Xor = omega arith
      by Scanned Xnor = omega arith
      by Scanned Not = omega arith
      by Scanned Buff = omega arith
      by Scanned Dff = omega arith
      by Scanned Const0 = omega arith
      by Scanned Const1 = omega arith

  short-keyword : (k : List ℕ) → length k ≤ 6 → IsShort k
  short-keyword k h = by reading
    where
      by : (r : Names) → length k ≤ longest r
      by Design = omega arith
      by Scanned = omega arith

  short-definition : (z : List ℕ) (kind : Kind) (xs : List (List ℕ)) → IsRun z → IsShort z → AllByRecursion IsRun xs → AllByRecursion IsShort xs → list_all (is_short reading) (tokens (definition_line z kind xs)) ≡ true
  unfolding definition_line
  short-definition z kind xs h s k t =
      let g = gate-name kind in
      ap (λ l. list_all (is_short reading) (tokens l)) (regroup z (codes " = ") (word kind) (codes "(") (pin_list xs) (codes ")"))
      ∙ ap (list_all (is_short reading)) (tokens-front z _ h.word h.some refl ∙ ap (λ ts. Word z ∷ ts) (tokens-blank _ ∙ tokens-equals _ ∙ ap (λ ts. Equals ∷ ts) (tokens-blank _ ∙ tokens-front (word kind) _ g.word g.some refl ∙ ap (λ ts. Word (word kind) ∷ ts) (tokens-open _))))
      ∙ (λ i. short-word z s i && (short-word (word kind) (short-gate kind) i && short-pins xs k t i))

  short-port : (keyword x : List ℕ) → IsRun keyword → length keyword ≤ 6 → IsRun x → IsShort x → list_all (is_short reading) (tokens (port_line keyword x)) ≡ true
  short-port keyword x k n h s =
      ap (list_all (is_short reading)) (port-tokens keyword x k h) ∙ (λ i. short-word keyword (short-keyword keyword n) i && (short-word x s i && true))

  -- a line without a comment is read as what it says
  reads-as : (line : List ℕ) (s : Statement) → list_all is_plain line ≡ true → Says line s → list_all (is_short reading) (tokens line) ≡ true → gate_refusal s ≡ None → has_reserved_name reading s ≡ false
      → ((n : ℕ) → note_at n s ≡ record { line = n; statement = s } ∷ []) → ReadsAs reading line s
  reads-as line s plain it short fine free something =
      let says = says-it reading line (ap (λ l. list_all (is_short reading) (tokens l)) (plain-code line plain) ∙ short) (Some s) it.1 in
      record { plain = plain; says = says; own = own_refusal-gate reading line s it.0 says ∙ fine; free = free; something = something }

  none-reserved : (xs : List (List ℕ)) → AllByRecursion (λ x. IsTrue (is_free reading x)) xs → (s : Statement) → statement_names s ≡ xs → has_reserved_name reading s ≡ false
  none-reserved xs h s e = by reading h
    where
      free-none : (ys : List (List ℕ)) → AllByRecursion (λ x. IsTrue (is_free Design x)) ys → list_any is_reserved ys ≡ false
      free-none [] k = refl
      free-none (y ∷ ys) k = rw (not_true (is_reserved y) k.0, free-none ys k.1) refl

      by : (r : Names) → AllByRecursion (λ x. IsTrue (is_free r x)) xs → has_reserved_name r s ≡ false
      by Design k = ap (list_any is_reserved) e ∙ free-none xs k
      by Scanned k = refl

places-once : (xs : List ℕ) → AllPairs (λ x y. x ≢ y) xs → (i j x : ℕ) → slice_get xs i ≡ Some x → slice_get xs j ≡ Some x → i ≡ j
places-once xs h i j x e f = by (either (nat_lt i j)) (either (nat_lt j i))
  where
    at : (k : ℕ) → slice_get xs k ≡ Some x → get_or xs k 0 ≡ x
    at k g = get_or_from_slice_get xs k x 0 g

    by : (nat_lt i j ≡ true) ⊎ (nat_lt i j ≡ false) → (nat_lt j i ≡ true) ⊎ (nat_lt j i ≡ false) → i ≡ j
    by (inl t) g =
        let k : i < j = grind (arith, nat_tests) in
        absurd (h i j 0 k (slice_get_within xs j x f) (at i e ∙ sym (at j f)))
    by (inr t) (inl g) =
        let k : j < i = grind (arith, nat_tests) in
        absurd (h j i 0 k (slice_get_within xs i x e) (at j f ∙ sym (at i e)))
    by (inr t) (inr g) = grind (arith, nat_tests)

-- no output stands twice, by name
once-named : (names : List (List ℕ)) → AreDistinct names → (xs : List ℕ) → AllByRecursion (λ x. x < length names) xs → AllPairs (λ x y. x ≢ y) xs → AreDistinct (map (name_at names) xs)
once-named names apart xs below once i j y e f =
    let a = got_map (name_at names) xs i y e in
    let b = got_map (name_at names) xs j y f in
    let h = index-all (λ x. x < length names) xs below in
    let p : a.0 < length names = got-all (λ x. x < length names) xs h i a.0 a.1 in
    let q : b.0 < length names = got-all (λ x. x < length names) xs h j b.0 b.1 in
    let same : a.0 ≡ b.0 = apart a.0 b.0 y (at_name names a.0 p ∙ ap (λ z. Some z) a.2) (at_name names b.0 q ∙ ap (λ z. Some z) b.2) in
    places-once xs once i j b.0 (a.1 ∙ ap (λ z. Some z) same) b.1

module _ (reading : Names) (n : Netlist) (s : IsSound n) (f : IsReadable reading n) where
  abbrev name : ℕ → List ℕ
  name x = name_at n.names x

  abbrev IsBelow : ℕ → Type 0
  IsBelow x = x < length n.names

  -- the signals are the places of the names
  signal-is : (k : ℕ) → k < length (signals n) → slice_get (signals n) k ≡ Some k
  signal-is k h = slice_get-get_or (signals n) k 0 h ∙ ap (λ x. Some x) (s.formed.numbered k h)

  needed-there : (x : ℕ) → HasReader n x → Contains (signals n) x
  needed-there x (inl p) =
      let d = contains-got n.definitions p.0 p.1 in
      let i = contains-got p.0.pins x p.2 in
      got-all (Contains (signals n)) p.0.pins (got-all (λ (e : Equation). All (Contains (signals n)) e.pins) n.definitions s.closed.pins d.0 p.0 d.1) i.0 x i.1
  needed-there x (inr c) = let i = contains-got n.outputs x c in got-all (Contains (signals n)) n.outputs s.closed.outputs i.0 x i.1

  name-signal : (x : ℕ) → x < length n.names → x < length (signals n)
  name-signal x h = by (s.formed.used x h)
    where
      by : Contains (signals n) x ⊎ HasReader n x → x < length (signals n)
      by (inl c) = signal-below n s.formed.numbered x c
      by (inr r) = signal-below n s.formed.numbered x (needed-there x r)

  signal-name : (x : ℕ) → x < length (signals n) → x < length n.names
  signal-name x h = s.formed.named x (got-contains (signals n) x x (signal-is x h))

  sizes : length (signals n) ≡ length n.names
  sizes =
      let a = at-most (length (signals n)) (length n.names) signal-name in
      let b = at-most (length n.names) (length (signals n)) name-signal in
      omega arith

  names-are : map name (signals n) ≡ n.names
  names-are = same-list (map name (signals n)) n.names (length-map (signals n) name ∙ sizes)
      (λ (k : ℕ) (y : List ℕ) (e : slice_get (map name (signals n)) k ≡ Some y).
      let m = got_map name (signals n) k y e in
      let w = slice_get_within (signals n) k m.0 m.1 in
      let same : m.0 ≡ k = some_same (slice_get (signals n) k) m.0 k m.1 (signal-is k w) in
      at_name n.names k (signal-name k w) ∙ ap (λ z. Some z) (ap name (sym same) ∙ m.2))

  apart : AreDistinct n.names
  apart = pairs-distinct n.names s.formed.distinct

  back : (x : ℕ) → IsBelow x → id_of n.names (name x) ≡ x
  back x h = id-at n.names apart x (name x) (at_name n.names x h)

  known : (x : ℕ) → IsBelow x → list_any (bytes_eq (name x)) n.names ≡ true
  known x h = some-any (bytes_eq (name x)) n.names x (name x) (at_name n.names x h) (name_same (name x))

  inputs-below : AllByRecursion IsBelow n.inputs
  inputs-below = all-index IsBelow n.inputs (λ (k d : ℕ) (h : k < length n.inputs).
      let at : slice_get n.inputs k ≡ Some (get_or n.inputs k d) = slice_get-get_or n.inputs k d h in
      signal-name (get_or n.inputs k d) (signal-below n s.formed.numbered (get_or n.inputs k d)
      (got-contains (signals n) (get_or n.inputs k d) k (get_front n.inputs (map (λ (e : Equation). e.id) n.definitions) k (get_or n.inputs k d) at))))

  outputs-below : AllByRecursion IsBelow n.outputs
  outputs-below = all-index IsBelow n.outputs (λ (k d : ℕ) (h : k < length n.outputs). signal-name (get_or n.outputs k d) (outputs-writable n n.outputs s refl k d h))

  record IsEquation (d : Equation) : Type 0 where
    pub id : IsBelow d.id
    pub pins : AllByRecursion IsBelow d.pins
    pub allowed : allows_pins d.kind (length d.pins) ≡ true

  equations-below : AllByRecursion IsEquation n.definitions
  equations-below = all-index IsEquation n.definitions (λ (k : ℕ) (d : Equation) (h : k < length n.definitions).
      let w = definition-writable n s k d h in
      record {
        id = signal-name (get_or n.definitions k d).id w.id;
        pins = all-index IsBelow (get_or n.definitions k d).pins (λ (i x : ℕ) (b : i < length (get_or n.definitions k d).pins). signal-name (get_or (get_or n.definitions k d).pins i x) (w.pins i x b));
        allowed = s.formed.allowed k d h;
      })

  -- the lines, and what they say
  abbrev equation_statement : Equation → Statement
  equation_statement d = Definition (name d.id) (Some d.kind) (map name d.pins)

  abbrev ins : List Statement
  ins = map (λ x. Input (name x)) n.inputs

  abbrev outs : List Statement
  outs = map (λ x. Output (name x)) n.outputs

  abbrev defs : List Statement
  defs = map equation_statement n.definitions

  abbrev ss : List Statement
  ss = ins ++ outs ++ defs

  run : (x : ℕ) → IsBelow x → IsRun (name x)
  run x h = name-run (name x) (got-all IsName n.names s.formed.names x (name x) (at_name n.names x h))

  short : (x : ℕ) → IsBelow x → length (name x) ≤ longest reading
  short x h = got-all (λ (y : List ℕ). length y ≤ longest reading) n.names f.short x (name x) (at_name n.names x h)

  free : (x : ℕ) → IsBelow x → IsTrue (is_free reading (name x))
  free x h = got-all (λ (y : List ℕ). IsTrue (is_free reading y)) n.names f.free x (name x) (at_name n.names x h)

  input-reads : (x : ℕ) → IsBelow x → ReadsAs reading (port_line (codes "INPUT") (name x)) (Input (name x))
  input-reads x h =
      reads-as reading (port_line (codes "INPUT") (name x)) (Input (name x)) (plain-port (codes "INPUT") (name x) input-name (run x h)) (input-says (name x) (run x h))
      (short-port reading (codes "INPUT") (name x) input-name (omega arith) (run x h) (short x h)) refl (none-reserved reading (name x ∷ []) (free x h, tt) (Input (name x)) refl) (λ k. refl)

  output-reads : (x : ℕ) → IsBelow x → ReadsAs reading (port_line (codes "OUTPUT") (name x)) (Output (name x))
  output-reads x h =
      reads-as reading (port_line (codes "OUTPUT") (name x)) (Output (name x)) (plain-port (codes "OUTPUT") (name x) output-name (run x h)) (output-says (name x) (run x h))
      (short-port reading (codes "OUTPUT") (name x) output-name (omega arith) (run x h) (short x h)) refl (none-reserved reading (name x ∷ []) (free x h, tt) (Output (name x)) refl) (λ k. refl)

  definition-reads : (d : Equation) → IsEquation d → ReadsAs reading (equation_line n.names d) (equation_statement d)
  definition-reads d e =
      let runs = all-mapped IsRun name d.pins (all-so IsBelow (λ x. IsRun (name x)) run d.pins e.pins) in
      let shorts = all-mapped (λ (y : List ℕ). length y ≤ longest reading) name d.pins (all-so IsBelow (λ x. length (name x) ≤ longest reading) short d.pins e.pins) in
      let frees = all-mapped (λ (y : List ℕ). IsTrue (is_free reading y)) name d.pins (all-so IsBelow (λ x. IsTrue (is_free reading (name x))) free d.pins e.pins) in
      let fine : gate_refusal (equation_statement d) ≡ None = ap (λ (b : Bool). if b then None else Some BadPins) (ap (allows_pins d.kind) (length-map d.pins name) ∙ e.allowed) in
      reads-as reading (equation_line n.names d) (equation_statement d) (plain-definition (name d.id) d.kind (map name d.pins) (run d.id e.id) runs)
      (definition-says (name d.id) d.kind (map name d.pins) (run d.id e.id) runs) (short-definition reading (name d.id) d.kind (map name d.pins) (run d.id e.id) (short d.id e.id) runs shorts)
      fine (none-reserved reading (name d.id ∷ map name d.pins) (free d.id e.id, frees) (equation_statement d) refl) (λ k. refl)

  each : Each (ReadsAs reading) (canonical_lines n) ss
  each =
      each-append (ReadsAs reading) (map (λ x. port_line (codes "INPUT") (name x)) n.inputs ++ map (λ x. port_line (codes "OUTPUT") (name x)) n.outputs) (ins ++ outs) (map (equation_line n.names) n.definitions) defs
      (each-append (ReadsAs reading) (map (λ x. port_line (codes "INPUT") (name x)) n.inputs) ins (map (λ x. port_line (codes "OUTPUT") (name x)) n.outputs) outs
      (each-mapped (ReadsAs reading) (λ x. port_line (codes "INPUT") (name x)) (λ x. Input (name x)) n.inputs (all-so IsBelow (λ x. ReadsAs reading (port_line (codes "INPUT") (name x)) (Input (name x))) input-reads n.inputs inputs-below))
      (each-mapped (ReadsAs reading) (λ x. port_line (codes "OUTPUT") (name x)) (λ x. Output (name x)) n.outputs (all-so IsBelow (λ x. ReadsAs reading (port_line (codes "OUTPUT") (name x)) (Output (name x))) output-reads n.outputs outputs-below)))
      (each-mapped (ReadsAs reading) (equation_line n.names) equation_statement n.definitions (all-so IsEquation (λ d. ReadsAs reading (equation_line n.names d) (equation_statement d)) definition-reads n.definitions equations-below))

  lines-are : lines (canonical n) ≡ canonical_lines n
  lines-are = ended-again (canonical_lines n) (all-plain reading (canonical_lines n) ss each)

  statements-are : statements reading (canonical n) ≡ ss
  statements-are = ap (map (statement_on reading)) lines-are ∙ all-said reading (canonical_lines n) ss each

  notes-are : statements_of (notes reading (canonical n)) ≡ ss
  notes-are = ap (λ l. statements_of (notes_from 1 l)) statements-are ∙ all-noted reading 1 (canonical_lines n) ss each

  -- the parts of the statements
  three : {C : Type 0} (g : Statement → List C) → flat_map g ss ≡ flat_map g ins ++ flat_map g outs ++ flat_map g defs
  three g = flat_map-append g (ins ++ outs) defs ∙ ap (λ l. l ++ flat_map g defs) (flat_map-append g ins outs)

  inputs-are : inputs_of ss ≡ map name n.inputs
  inputs-are =
      three input ∙ (λ i. flat-one input (λ x. Input (name x)) name n.inputs (λ x. refl) i ++ flat-none input (λ x. Output (name x)) n.outputs (λ x. refl) i ++ flat-none input equation_statement n.definitions (λ d. refl) i)
      ∙ append-nil (map name n.inputs ++ []) ∙ append-nil (map name n.inputs)

  outputs-are : outputs_of ss ≡ map name n.outputs
  outputs-are =
      three output ∙ (λ i. flat-none output (λ x. Input (name x)) n.inputs (λ x. refl) i ++ flat-one output (λ x. Output (name x)) name n.outputs (λ x. refl) i ++ flat-none output equation_statement n.definitions (λ d. refl) i)
      ∙ append-nil (map name n.outputs)

  definitions-are : definitions_of ss ≡ map (λ (d : Equation). name d.id) n.definitions
  definitions-are =
      three defined ∙ (λ i. flat-none defined (λ x. Input (name x)) n.inputs (λ x. refl) i ++ flat-none defined (λ x. Output (name x)) n.outputs (λ x. refl) i ++ flat-one defined equation_statement (λ (d : Equation). name d.id) n.definitions (λ d. refl) i)

  by-name : map name n.inputs ++ map (λ (d : Equation). name d.id) n.definitions ≡ n.names
  by-name =
      ap (λ l. map name n.inputs ++ l) (sym (map-twice name (λ (d : Equation). d.id) n.definitions))
      ∙ sym (map-append name n.inputs (map (λ (d : Equation). d.id) n.definitions)) ∙ names-are

  signals-are : signals_of ss ≡ n.names
  signals-are = (λ i. inputs-are i ++ definitions-are i) ∙ by-name

  order-is : order ss ≡ n.names
  order-is =
      three defines
      ∙ (λ i. flat-one defines (λ x. Input (name x)) name n.inputs (λ x. refl) i ++ flat-none defines (λ x. Output (name x)) n.outputs (λ x. refl) i ++ flat-one defines equation_statement (λ (d : Equation). name d.id) n.definitions (λ d. refl) i)
      ∙ ap (λ l. l ++ map (λ (d : Equation). name d.id) n.definitions) (append-nil (map name n.inputs)) ∙ by-name

  firsts-are : distinct (outputs_of ss) ≡ map name n.outputs
  firsts-are = ap distinct outputs-are ∙ kept-order (map name n.outputs) [] (once-named n.names apart n.outputs outputs-below s.formed.once)

  -- the netlist of the statements is this
  ids-back : (xs : List ℕ) → AllByRecursion IsBelow xs → map (id_of n.names) (map name xs) ≡ xs
  ids-back xs h = map-twice (id_of n.names) name xs ∙ map-same (λ x. id_of n.names (name x)) xs (all-so IsBelow (λ x. id_of n.names (name x) ≡ x) back xs h)

  abbrev again : Equation → Equation
  again d = record { id = id_of n.names (name d.id); kind = d.kind; pins = map (id_of n.names) (map name d.pins) }

  equation-back : (d : Equation) → IsEquation d → again d ≡ d
  equation-back d e = (λ i. record { id = back d.id e.id i; kind = d.kind; pins = ids-back d.pins e.pins i })

  equations-are : flat_map (equation (signals_of ss)) ss ≡ n.definitions
  equations-are =
      ap (λ l. flat_map (equation l) ss) signals-are ∙ three (equation n.names)
      ∙ (λ i. flat-none (equation n.names) (λ x. Input (name x)) n.inputs (λ x. refl) i ++ flat-none (equation n.names) (λ x. Output (name x)) n.outputs (λ x. refl) i ++ flat-one (equation n.names) equation_statement again n.definitions (λ d. refl) i)
      ∙ map-same again n.definitions (all-so IsEquation (λ d. again d ≡ d) equation-back n.definitions equations-below)

  netlist-is : netlist_of ss ≡ n
  netlist-is =
      let put_in : map (id_of (signals_of ss)) (inputs_of ss) ≡ n.inputs = (λ i. map (id_of (signals-are i)) (inputs-are i)) ∙ ids-back n.inputs inputs-below in
      let put_out : map (id_of (signals_of ss)) (distinct (outputs_of ss)) ≡ n.outputs = (λ i. map (id_of (signals-are i)) (firsts-are i)) ∙ ids-back n.outputs outputs-below in
      (λ i. record { names = signals-are i; inputs = put_in i; outputs = put_out i; definitions = equations-are i })

  -- and nothing is wrong with the text
  lines-fine : first_refusal reading [] (lines (canonical n)) ≡ None
  lines-fine = ap (first_refusal reading []) lines-are ∙ no-refusal reading [] (canonical_lines n) ss each (all-fresh [] ss (subst AreDistinct (sym order-is) apart))

  output-known : (x : ℕ) → IsBelow x → reads_from n.names (Output (name x)) ≡ true
  output-known x h = rw (known x h) refl

  equation-known : (d : Equation) → IsEquation d → reads_from n.names (equation_statement d) ≡ true
  equation-known d e =
      all-true (λ y. list_any (bytes_eq y) n.names) (map name d.pins) (all-mapped (λ (y : List ℕ). list_any (bytes_eq y) n.names ≡ true) name d.pins (all-so IsBelow (λ x. list_any (bytes_eq (name x)) n.names ≡ true) known d.pins e.pins))

  all-known : list_all (reads_from n.names) ss ≡ true
  all-known =
      all_append (reads_from n.names) (ins ++ outs) defs
      (all_append (reads_from n.names) ins outs
      (all-true (reads_from n.names) ins (all-mapped (λ t. reads_from n.names t ≡ true) (λ x. Input (name x)) n.inputs (all-so IsBelow (λ x. true ≡ true) (λ x h. refl) n.inputs inputs-below)))
      (all-true (reads_from n.names) outs (all-mapped (λ t. reads_from n.names t ≡ true) (λ x. Output (name x)) n.outputs (all-so IsBelow (λ x. reads_from n.names (Output (name x)) ≡ true) output-known n.outputs outputs-below))))
      (all-true (reads_from n.names) defs (all-mapped (λ t. reads_from n.names t ≡ true) equation_statement n.definitions (all-so IsEquation (λ d. reads_from n.names (equation_statement d) ≡ true) equation-known n.definitions equations-below)))

  whole-is-fine : whole_refusal reading (notes reading (canonical n)) ≡ None
  whole-is-fine =
      let all = notes reading (canonical n) in
      let sig : signals_of (statements_of all) ≡ n.names = ap signals_of notes-are ∙ signals-are in
      let few = f.few in
      let input = s.sized.input in
      let output = s.sized.output in
      whole-fine reading all
      (omega (arith, ap length sig, sizes, few))
      (omega (arith, ap (λ l. length (inputs_of l)) notes-are, ap length inputs-are, length-map n.inputs name, input))
      (omega (arith, ap (λ l. length (outputs_of l)) notes-are, ap length outputs-are, length-map n.outputs name, output))
      (sym (list_all-map (reads_from (signals_of (statements_of all))) (λ (x : Said). x.statement) all) ∙ (λ i. list_all (reads_from (sig i)) (notes-are i)) ∙ all-known)

  pub read-again : (refusal reading (canonical n) ≡ None) × (netlist_in reading (canonical n) ≡ n)
  read-again = (ap (λ o. or_else o (whole_refusal reading (notes reading (canonical n)))) lines-fine ∙ whole-is-fine, ap netlist_of notes-are ∙ netlist-is)
