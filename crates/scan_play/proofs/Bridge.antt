-- The vectors of a test on the scanned netlist, for any table of values that multiplexes and says of known values what bits say.
use Rattle.std.proofs.Common.{◌≡◌, ℕ, suc, ◌<◌, Bool, true, false, cond, List, [], ◌∷◌, ◌++◌, map, length, drop, replicate, Option, Some, None, refl, sym, ◌∙◌, ap, subst, arith}
use Rattle.std.specs.Bool.{Decides}
use Rattle.std.specs.List.{AllZip}
use Rattle.std.proofs.lemmas.List.{length-map, map-append, nil_from_length}
use Rattle.statement.specs.declared.kinds.Kind.{Kind}
use Rattle.statement.specs.declared.kinds.Tri.{Tri}
use Rattle.statement.specs.declared.kinds.Tri.TheVariants.{X}
use Rattle.statement.specs.declared.lines.Line.{Line}
use Rattle.statement.specs.declared.lines.Fault.{Fault}
use Rattle.statement.specs.Values.{gate_bit, Table, Settles, is_line, stuck, bits, with_fault, outs, next, known}
use Rattle.statement.specs.Netlists.{Netlist, cells}
use Rattle.netlist.specs.Netlist.{IsAcyclic}
use Rattle.statement.specs.Patterns.{Holds, Pattern}
use Rattle.netlist.specs.Holds.{AreHoldsOf}
use Rattle.netlist.specs.Lines.{IsFaultOf}
use Rattle.netlist.specs.Conditions.{IsClosed, IsSound}
use Rattle.netlist.specs.Laws.{Keeps}
use Rattle.netlist.proofs.Alike.{outs_alike, next_alike}
use Rattle.netlist.proofs.SomeSettled.{some_settled}
use Rattle.scan_insert.specs.Laws.{shifted, last_values, Multiplexes}
use Rattle.scan_insert.specs.Scanned.{AreChainsOf, sites_of, scanned_of, fault_at}
use Rattle.scan_insert.proofs.Concrete.{are_dealt, behaves_by}
use Rattle.scan_insert.proofs.Unchanged.{nothing}
use Rattle.statement.specs.Runs.{Cycle, Runs}
use Rattle.statement.specs.Tests.{held_or_zero, Response, Responds}
use Rattle.scan_play.specs.Shifts.{idle_inputs}
use Rattle.scan_play.specs.Vectors.{applied, vectors}
use Rattle.scan_play.proofs.Shifting.{zip_length}
use Rattle.scan_play.proofs.Loads.{ShiftLaw}
use Rattle.scan_play.proofs.Applied.{CaptureLaw, Answers, with_length, vectors_met}
use Rattle.scan_play.proofs.Widths.{cells_count, scanned_cells_count}

-- values whose gates multiplex, and make of values that are known what the gates of bits make
pub record IsAboveBits {V : Type 0} (table : Table V) : Type 0 where
  pub blank : V
  pub same : V → V → Bool
  pub decides : (x y : V) → Decides (same x y) (x ≡ y)
  pub multiplexes : Multiplexes table
  pub gates : (kind : Kind) (bs : List Bool) → table.gate kind (map table.known bs) ≡ table.known (gate_bit kind bs)

-- what the scanned netlist shows and does in a cycle, by the original with the fault
pub record ScanValues {V : Type 0} (table : Table V) (blank : V) (n : Netlist) (chains : List (List ℕ)) (f : Option Fault) (inputs : List V) (e : Bool) (scan_inputs state : List V) (b : ℕ → V)
    : Type 0 where
  pub values : ℕ → V
  pub settles : Settles (with_fault table f) n inputs state values
  pub shows : outs (with_fault table (fault_at (sites_of n chains) f)) (scanned_of n chains) b ≡ outs (with_fault table f) n values ++ last_values blank chains state
  pub keeps : next (with_fault table (fault_at (sites_of n chains) f)) (scanned_of n chains) b ≡ cond e (shifted chains scan_inputs state) (next (with_fault table f) n values)

length-lasts : {V : Type 0} (blank : V) (chains : List (List ℕ)) (state : List V) → length (last_values blank chains state) ≡ length chains
length-lasts blank [] state = refl
length-lasts blank (c ∷ cs) state = ap suc (length-lasts blank cs (drop (length c) state))

module _ {V : Type 0} (table : Table V) (is : IsAboveBits table) where
  -- ---- where all that is driven is known, all is known

  knows : V → Bool → Bool
  knows v b = is.same v (table.known b)

  knows_known : (b : Bool) → knows (table.known b) b ≡ true
  unfolding knows
  knows_known b = (is.decides (table.known b) (table.known b)).1 refl

  knows_same : (v : V) (b : Bool) → knows v b ≡ true → v ≡ table.known b
  unfolding knows
  knows_same v b e = (is.decides v (table.known b)).0 e

  all_known : (bs : List Bool) → AllZip (λ v b. knows v b ≡ true) (map table.known bs) bs
  all_known [] = tt
  all_known (b ∷ bs) = (knows_known b, all_known bs)

  all_same : (vs : List V) (bs : List Bool) → AllZip (λ v b. knows v b ≡ true) vs bs → vs ≡ map table.known bs
  all_same [] [] h = refl
  all_same [] (b ∷ bs) h = absurd h
  all_same (v ∷ vs) [] h = absurd h
  all_same (v ∷ vs) (b ∷ bs) h = ap (λ x. x ∷ vs) (knows_same v b h.0) ∙ ap (λ xs. table.known b ∷ xs) (all_same vs bs h.1)

  stuck_known : (g : Option Fault) (line : Line) (v : V) (b : Bool) → knows v b ≡ true → knows (stuck table.known g line v) (stuck (λ c. c) g line b) ≡ true
  stuck_known None line v b h = h
  stuck_known (Some f) line v b h =
      let step : (c : Bool) → knows (cond c (table.known f.value) v) (cond c f.value b) ≡ true = elim [ true ↦ knows_known f.value | false ↦ h ] in
      step (is_line f.line line)

  keeps_known : (g : Option Fault) (n : Netlist) → Keeps knows (with_fault table g) (bits g) n
  keeps_known g n = record {
    lines = stuck_known g;
    gates = λ d vs bs c l h.
        ap (λ (xs : List V). knows (table.gate d.kind xs) (gate_bit d.kind bs)) (all_same vs bs h)
        ∙ (ap (λ v. knows v (gate_bit d.kind bs)) (is.gates d.kind bs) ∙ knows_known (gate_bit d.kind bs));
  }

  pub known_values : (g : Option Fault) (n : Netlist) (inputs state : List Bool) (t : ℕ → V) (b : ℕ → Bool) → IsClosed n → IsAcyclic n
      → Settles (with_fault table g) n (map table.known inputs) (map table.known state) t → Settles (bits g) n inputs state b
      → (outs (with_fault table g) n t ≡ map table.known (outs (bits g) n b)) × (next (with_fault table g) n t ≡ map table.known (next (bits g) n b))
  known_values g n inputs state t b closed acyclic p q =
      let keeps = keeps_known g n in (
        all_same _ _ (outs_alike knows (with_fault table g) (bits g) n keeps closed acyclic (map table.known inputs) (map table.known state) inputs state t b (all_known inputs) (all_known state) p q),
        all_same _ _ (next_alike knows (with_fault table g) (bits g) n keeps closed acyclic (map table.known inputs) (map table.known state) inputs state t b (all_known inputs) (all_known state) p q),
      )

  -- ---- the scanned netlist

  module _ (n : Netlist) (chain : List ℕ) (rest : List (List ℕ)) (f : Option Fault) (sound : IsSound n) (are : AreChainsOf n (chain ∷ rest)) (valid : IsFaultOf n f) where
    pub scan_values : (inputs : List V) (e : Bool) (scan_inputs state : List V) (b : ℕ → V) → length inputs ≡ length n.inputs
        → Settles (with_fault table (fault_at (sites_of n (chain ∷ rest)) f)) (scanned_of n (chain ∷ rest)) (inputs ++ table.known e ∷ scan_inputs) state b
        → ScanValues table is.blank n (chain ∷ rest) f inputs e scan_inputs state b
    scan_values inputs e scan_inputs state b size q =
        let count : length state ≡ length (cells n) = sym (zip_length _ (cells (scanned_of n (chain ∷ rest))) state q.1) ∙ scanned_cells_count n chain rest in
        let dealt = are_dealt n (chain ∷ rest) are in
        let few = dealt.few in
        let some : 0 < length (cells n) = omega arith in
        let a = some_settled is.blank (with_fault table f) n inputs state sound.formed.numbered sound.closed sound.acyclic size count in
        let r = behaves_by is.same is.decides table is.multiplexes is.blank n (chain ∷ rest) f inputs state scan_inputs e a.0 b sound are some valid a.1 q in
        record { values = a.0; settles = a.1; shows = r.0; keeps = r.1 }

    pub shift_law : (holds : Holds) → AreHoldsOf n holds
        → ShiftLaw table is.blank (fault_at (sites_of n (chain ∷ rest)) f) (scanned_of n (chain ∷ rest)) n holds (chain ∷ rest)
    shift_law holds fit ins state b size settles =
        let g = fault_at (sites_of n (chain ∷ rest)) f in
        let S = scanned_of n (chain ∷ rest) in
        let idle : List V = map table.known (idle_inputs holds) in
        let wide : length idle ≡ length n.inputs = length-map (idle_inputs holds) table.known ∙ (length-map holds held_or_zero ∙ fit) in
        let q : Settles (with_fault table g) S (idle ++ table.known true ∷ map table.known ins) state b =
        subst (λ (d : List V). Settles (with_fault table g) S d state b) (map-append table.known (idle_inputs holds) (true ∷ ins)) settles in
        let r = scan_values idle true (map table.known ins) state b wide q in
        (outs (with_fault table f) n r.values, length-map n.outputs _, r.shows, r.keeps)

    pub capture_law : CaptureLaw table (fault_at (sites_of n (chain ∷ rest)) f) (scanned_of n (chain ∷ rest)) n (chain ∷ rest) f
    capture_law p r b responds settles =
        let g = fault_at (sites_of n (chain ∷ rest)) f in
        let S = scanned_of n (chain ∷ rest) in
        let zeros = replicate (length (chain ∷ rest)) false in
        let inputs : List V = map table.known p.inputs in
        let state : List V = map table.known p.cells in
        let wide : length inputs ≡ length n.inputs = length-map p.inputs table.known ∙ sym (zip_length _ n.inputs p.inputs responds.settles.0) in
        let q : Settles (with_fault table g) S (inputs ++ table.known false ∷ map table.known zeros) state b =
        subst (λ (d : List V). Settles (with_fault table g) S d state b) (map-append table.known p.inputs (false ∷ zeros)) settles in
        let v = scan_values inputs false (map table.known zeros) state b wide q in
        let k = known_values f n p.inputs p.cells v.values responds.values sound.closed sound.acyclic v.settles responds.settles in (
          last_values is.blank (chain ∷ rest) state,
          length-lasts is.blank (chain ∷ rest) state,
          v.shows ∙ ap (λ x. x ++ last_values is.blank (chain ∷ rest) state) (k.0 ∙ ap (map table.known) (sym responds.outputs)),
          v.keeps ∙ (k.1 ∙ ap (map table.known) (sym responds.cells)),
        )

    scanned_met : (holds : Holds) → AreHoldsOf n holds → (R : Tri → V → Type 0) → ((v : V) → R X v) → ((b : Bool) → R (known b) (table.known b))
        → (tests : List (Pattern × Response)) (owns : List Response) → AllZip (Answers table f n R) tests owns
        → (start : List V) (shown : List (List V))
        → Runs table (fault_at (sites_of n (chain ∷ rest)) f) (scanned_of n (chain ∷ rest)) start (vectors n holds (chain ∷ rest) tests) shown
        → AllZip (λ (c : Cycle) vs. AllZip R c.strobe vs) (vectors n holds (chain ∷ rest) tests) shown
    scanned_met holds fit R open_place met_known tests owns answers start shown run =
        let g = fault_at (sites_of n (chain ∷ rest)) f in
        let S = scanned_of n (chain ∷ rest) in
        let count = cells_count n (chain ∷ rest) are in
        with_length table g S start (λ (c : Cycle) vs. AllZip R c.strobe vs) (vectors n holds (chain ∷ rest) tests) shown
        (λ size. vectors_met table is.blank f g S n holds sound chain rest (shift_law holds fit) capture_law (are_dealt n (chain ∷ rest) are).filled count R open_place met_known
        tests owns answers start (size ∙ (scanned_cells_count n chain rest ∙ count)) shown run) run

-- ---- without cells

module _ {V : Type 0} (table : Table V) (f : Option Fault) (n : Netlist) (holds : Holds) (R : Tri → V → Type 0)
    (capturing : (p : Pattern) (r : Response) (state : List V) (b : ℕ → V) → Responds n f p r → Settles (with_fault table f) n (map table.known p.inputs) state b
    → outs (with_fault table f) n b ≡ map table.known r.outputs) where
  pub unscanned_met : (tests : List (Pattern × Response)) (owns : List Response) → AllZip (Answers table f n R) tests owns
      → (held : List Tri) (start : List V) (shown : List (List V)) → Runs table f n start (applied n holds [] held tests) shown
      → AllZip (λ (c : Cycle) vs. AllZip R c.strobe vs) (applied n holds [] held tests) shown
  unscanned_met [] owns answers held start [] run = tt
  unscanned_met [] owns answers held start (row ∷ rows) run = absurd run
  unscanned_met (test ∷ tests) [] answers held start shown run = absurd answers
  unscanned_met (test ∷ tests) (own ∷ owns) answers held start [] run = absurd run
  unscanned_met (test ∷ tests) (own ∷ owns) answers held start (row ∷ rows) run =
      let tick = run.1 in
      let same : row ≡ map table.known own.outputs = tick.shows ∙ capturing test.0 own start tick.values answers.0.0 tick.settles in (
        subst (λ (x : List V). AllZip R (map known test.1.outputs) x) (sym same) answers.0.1,
        unscanned_met tests owns answers.1 (map known test.1.cells) run.0 rows run.2,
      )

-- ---- with cells and without

pub bridge : {V : Type 0} (table : Table V) → IsAboveBits table → (n : Netlist) (holds : Holds) (chains : List (List ℕ)) (f : Option Fault)
    → IsSound n → AreHoldsOf n holds → AreChainsOf n chains → IsFaultOf n f
    → (R : Tri → V → Type 0) → ((v : V) → R X v) → ((b : Bool) → R (known b) (table.known b))
    → (tests : List (Pattern × Response)) (owns : List Response) → AllZip (Answers table f n R) tests owns
    → (start : List V) (shown : List (List V)) → Runs table (fault_at (sites_of n chains) f) (scanned_of n chains) start (vectors n holds chains tests) shown
    → AllZip (λ (c : Cycle) vs. AllZip R c.strobe vs) (vectors n holds chains tests) shown
bridge {V} table is n holds [] f sound fit are valid R open_place met_known tests owns answers start shown run =
    let none = cells_count n [] are in
    let same = (nothing n [] f sound are none valid).1 in
    let plain : Runs table f n start (applied n holds [] [] tests) shown = subst (λ g. Runs table g n start (applied n holds [] [] tests) shown) same run in
    unscanned_met table f n holds R
    (λ p r state t responds settles.
    let empty : state ≡ map table.known p.cells =
    nil_from_length state (sym (zip_length _ (cells n) state settles.1) ∙ none)
    ∙ sym (ap (map table.known) (nil_from_length p.cells (sym (zip_length _ (cells n) p.cells responds.settles.1) ∙ none))) in
    let q : Settles (with_fault table f) n (map table.known p.inputs) (map table.known p.cells) t =
    subst (λ (s : List V). Settles (with_fault table f) n (map table.known p.inputs) s t) empty settles in
    (known_values table is f n p.inputs p.cells t responds.values sound.closed sound.acyclic q responds.settles).0 ∙ ap (map table.known) (sym responds.outputs))
    tests owns answers [] start shown plain
bridge table is n holds (chain ∷ rest) f sound fit are valid R open_place met_known tests owns answers start shown run =
    scanned_met table is n chain rest f sound are valid holds fit R open_place met_known tests owns answers start shown run
