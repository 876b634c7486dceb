-- A netlist whose signals have other numbers, one to one, and which has cells beside that read themselves: what settles and what is seen there.
use Rattle.std.proofs.Common.{◌≡◌, ℕ, ◌+◌, Bool, true, false, cond, ◌&&◌, List, [], ◌∷◌, ◌++◌, map, Option, Some, None, refl, sym, ◌∙◌, ap, inl, inr, eqb}
use Rattle.std.specs.List.{All, AllZip, Contains, filter, flat_map}
use Rattle.std.proofs.lemmas.Bool.{cases_eq, eq-eqb, ne_eqb}
use Rattle.std.proofs.lemmas.List.Concat.{flat_map-append}
use Rattle.std.proofs.lemmas.List.Elements.{All-nil, All-cons, All-head, All-tail, filter-append}
use Rattle.statement.specs.declared.lines.Line.{Line}
use Rattle.statement.specs.declared.lines.Line.TheVariants.{Stem, Pin, Out}
use Rattle.statement.specs.declared.lines.Fault.{Fault}
use Rattle.statement.specs.Netlists.{Definition, is_cell}
use Rattle.statement.specs.Values.{Table, is_line, stuck, with_fault, on_pins, pins_of}
use Rattle.netlist.specs.Netlist.{is_gate}
use Rattle.netlist.proofs.Lists.{map_map, contains_head, contains_tail}
use Rattle.unknown_inputs.specs.Opened.{line_by, fault_or_none_by, reads_itself, definition_by}

-- ---- which cells and gates there are

filter_by : (p : Definition → Bool) (g : Definition → Definition) → ((d : Definition) → p (g d) ≡ p d) → (ds : List Definition) → filter p (map g ds) ≡ map g (filter p ds)
filter_by p g same [] = refl
filter_by p g same (d ∷ ds) =
    let step : (b : Bool) → cond b (g d ∷ filter p (map g ds)) (filter p (map g ds)) ≡ map g (cond b (d ∷ filter p ds) (filter p ds)) =
    elim [ true ↦ ap (λ r. g d ∷ r) (filter_by p g same ds) | false ↦ filter_by p g same ds ] in
    ap (λ b. cond b (g d ∷ filter p (map g ds)) (filter p (map g ds))) (same d) ∙ step (p d)

cells_themselves : (xs : List ℕ) → filter is_cell (map reads_itself xs) ≡ map reads_itself xs
cells_themselves [] = refl
cells_themselves (x ∷ xs) = ap (λ r. reads_itself x ∷ r) (cells_themselves xs)

no_gates : (xs : List ℕ) → filter is_gate (map reads_itself xs) ≡ []
no_gates [] = refl
no_gates (x ∷ xs) = no_gates xs

module _ (r : ℕ → ℕ) (xs : List ℕ) (ds : List Definition) where
  pub cells_by : filter is_cell (map reads_itself xs ++ map (definition_by r) ds) ≡ map reads_itself xs ++ map (definition_by r) (filter is_cell ds)
  cells_by =
      filter-append is_cell (map reads_itself xs) (map (definition_by r) ds)
      ∙ (ap (λ cs. cs ++ filter is_cell (map (definition_by r) ds)) (cells_themselves xs)
      ∙ ap (λ cs. map reads_itself xs ++ cs) (filter_by is_cell (definition_by r) (λ d. refl) ds))

  pub gates_by : filter is_gate (map reads_itself xs ++ map (definition_by r) ds) ≡ map (definition_by r) (filter is_gate ds)
  gates_by =
      filter-append is_gate (map reads_itself xs) (map (definition_by r) ds)
      ∙ (ap (λ cs. cs ++ filter is_gate (map (definition_by r) ds)) (no_gates xs)
      ∙ filter_by is_gate (definition_by r) (λ d. refl) ds)

-- ---- lines

module _ (r : ℕ → ℕ) (one_to_one : (x y : ℕ) → r x ≡ r y → x ≡ y) where
  same_number : (x y : ℕ) → eqb (r x) (r y) ≡ eqb x y
  same_number x y = elim (cases_eq x y) [
    | inl e ↦ eq-eqb (r x) (r y) (ap r e) ∙ sym (eq-eqb x y e)
    | inr d ↦ ne_eqb (r x) (r y) (λ e. d (one_to_one x y e)) ∙ sym (ne_eqb x y d)
  ]

  pub same_line : (l m : Line) → is_line (line_by r l) (line_by r m) ≡ is_line l m
  same_line (Stem x) (Stem y) = same_number x y
  same_line (Stem x) (Pin y k) = refl
  same_line (Stem x) (Out y) = refl
  same_line (Pin x j) (Stem y) = refl
  same_line (Pin x j) (Pin y k) = ap (λ t. t && eqb j k) (same_number x y)
  same_line (Pin x j) (Out y) = refl
  same_line (Out x) (Stem y) = refl
  same_line (Out x) (Pin y k) = refl
  same_line (Out x) (Out y) = same_number x y

  pub same_stuck : {V : Type 0} (known : Bool → V) (f : Option Fault) (l : Line) (v : V) → stuck known (fault_or_none_by r f) (line_by r l) v ≡ stuck known f l v
  same_stuck known None l v = refl
  same_stuck known (Some f) l v = ap (λ t. cond t (known f.value) v) (same_line f.line l)

  module _ {V : Type 0} (table : Table V) (f : Option Fault) (b : ℕ → V) where
    same_pins : (z k : ℕ) (vs : List V) → on_pins (with_fault table (fault_or_none_by r f)) (r z) k vs ≡ on_pins (with_fault table f) z k vs
    same_pins z k [] = refl
    same_pins z k (v ∷ vs) =
        ap (λ w. w ∷ on_pins (with_fault table (fault_or_none_by r f)) (r z) (k + 1) vs) (same_stuck table.known f (Pin z k) v)
        ∙ ap (λ rest. stuck table.known f (Pin z k) v ∷ rest) (same_pins z (k + 1) vs)

    pub same_pins_of : (d : Definition) → pins_of (with_fault table (fault_or_none_by r f)) b (definition_by r d) ≡ pins_of (with_fault table f) (λ x. b (r x)) d
    same_pins_of d = ap (on_pins (with_fault table (fault_or_none_by r f)) (r d.id) 0) (map_map r b d.pins) ∙ same_pins d.id 0 (map (λ x. b (r x)) d.pins)

    -- what is driven onto sources
    pub sources_by : (xs : List ℕ) (vs : List V) → AllZip (λ x v. b x ≡ stuck table.known (fault_or_none_by r f) (Stem x) v) (map r xs) vs
        → AllZip (λ x v. b (r x) ≡ stuck table.known f (Stem x) v) xs vs
    sources_by [] [] h = tt
    sources_by [] (v ∷ vs) h = absurd h
    sources_by (x ∷ xs) [] h = absurd h
    sources_by (x ∷ xs) (v ∷ vs) h = (h.0 ∙ same_stuck table.known f (Stem x) v, sources_by xs vs h.1)

    pub cells_settle : (ds : List Definition) (vs : List V) → AllZip (λ (d : Definition) v. b d.id ≡ stuck table.known (fault_or_none_by r f) (Stem d.id) v) (map (definition_by r) ds) vs
        → AllZip (λ (d : Definition) v. b (r d.id) ≡ stuck table.known f (Stem d.id) v) ds vs
    cells_settle [] [] h = tt
    cells_settle [] (v ∷ vs) h = absurd h
    cells_settle (d ∷ ds) [] h = absurd h
    cells_settle (d ∷ ds) (v ∷ vs) h = (h.0 ∙ same_stuck table.known f (Stem d.id) v, cells_settle ds vs h.1)

    -- a cell that reads itself
    pub themselves_settle : (xs : List ℕ) (vs : List V) → AllZip (λ (d : Definition) v. b d.id ≡ stuck table.known (fault_or_none_by r f) (Stem d.id) v) (map reads_itself (map r xs)) vs
        → AllZip (λ x v. b (r x) ≡ stuck table.known f (Stem x) v) xs vs
    themselves_settle [] [] h = tt
    themselves_settle [] (v ∷ vs) h = absurd h
    themselves_settle (x ∷ xs) [] h = absurd h
    themselves_settle (x ∷ xs) (v ∷ vs) h = (h.0 ∙ same_stuck table.known f (Stem x) v, themselves_settle xs vs h.1)

    pub gates_settle : (ds : List Definition)
        → All (λ (d : Definition). b d.id ≡ stuck table.known (fault_or_none_by r f) (Stem d.id) (table.gate d.kind (pins_of (with_fault table (fault_or_none_by r f)) b d))) (map (definition_by r) ds)
        → All (λ (d : Definition). b (r d.id) ≡ stuck table.known f (Stem d.id) (table.gate d.kind (pins_of (with_fault table f) (λ x. b (r x)) d))) ds
    gates_settle [] h = All-nil _
    gates_settle (d ∷ ds) h =
        let P : Definition → Type 0 = λ e. b e.id ≡ stuck table.known (fault_or_none_by r f) (Stem e.id) (table.gate e.kind (pins_of (with_fault table (fault_or_none_by r f)) b e)) in
        let Q : Definition → Type 0 = λ e. b (r e.id) ≡ stuck table.known f (Stem e.id) (table.gate e.kind (pins_of (with_fault table f) (λ x. b (r x)) e)) in
        All-cons Q d ds
        (All-head P (definition_by r d) (map (definition_by r) ds) h
        ∙ (ap (λ vs. stuck table.known (fault_or_none_by r f) (Stem (r d.id)) (table.gate d.kind vs)) (same_pins_of d)
        ∙ same_stuck table.known f (Stem d.id) (table.gate d.kind (pins_of (with_fault table f) (λ x. b (r x)) d))))
        (gates_settle ds (All-tail P (definition_by r d) (map (definition_by r) ds) h))

    -- what is seen at outputs
    pub outs_by : (xs : List ℕ) → map (λ x. stuck table.known (fault_or_none_by r f) (Out x) (b x)) (map r xs) ≡ map (λ x. stuck table.known f (Out x) (b (r x))) xs
    outs_by [] = refl
    outs_by (x ∷ xs) =
        ap (λ v. v ∷ map (λ y. stuck table.known (fault_or_none_by r f) (Out y) (b y)) (map r xs)) (same_stuck table.known f (Out x) (b (r x)))
        ∙ ap (λ rest. stuck table.known f (Out x) (b (r x)) ∷ rest) (outs_by xs)

    -- and at cells' pins
    cells_next : (ds : List Definition) → flat_map (pins_of (with_fault table (fault_or_none_by r f)) b) (map (definition_by r) ds) ≡ flat_map (pins_of (with_fault table f) (λ x. b (r x))) ds
    cells_next [] = refl
    cells_next (d ∷ ds) =
        ap (λ vs. vs ++ flat_map (pins_of (with_fault table (fault_or_none_by r f)) b) (map (definition_by r) ds)) (same_pins_of d)
        ∙ ap (λ rest. pins_of (with_fault table f) (λ x. b (r x)) d ++ rest) (cells_next ds)

    themselves_next : (xs : List ℕ) → ((x : ℕ) → Contains xs x → (v : V) → stuck table.known (fault_or_none_by r f) (Pin (r x) 0) v ≡ v)
        → flat_map (pins_of (with_fault table (fault_or_none_by r f)) b) (map reads_itself (map r xs)) ≡ map (λ x. b (r x)) xs
    themselves_next [] h = refl
    themselves_next (x ∷ xs) h =
        ap (λ v. v ∷ flat_map (pins_of (with_fault table (fault_or_none_by r f)) b) (map reads_itself (map r xs))) (h x (contains_head x xs) (b (r x)))
        ∙ ap (λ rest. b (r x) ∷ rest) (themselves_next xs (λ y c. h y (contains_tail x y xs c)))

    pub next_by : (xs : List ℕ) (ds : List Definition) → ((x : ℕ) → Contains xs x → (v : V) → stuck table.known (fault_or_none_by r f) (Pin (r x) 0) v ≡ v)
        → flat_map (pins_of (with_fault table (fault_or_none_by r f)) b) (map reads_itself (map r xs) ++ map (definition_by r) ds)
        ≡ map (λ x. b (r x)) xs ++ flat_map (pins_of (with_fault table f) (λ x. b (r x))) ds
    next_by xs ds h =
        flat_map-append (pins_of (with_fault table (fault_or_none_by r f)) b) (map reads_itself (map r xs)) (map (definition_by r) ds)
        ∙ (ap (λ vs. vs ++ flat_map (pins_of (with_fault table (fault_or_none_by r f)) b) (map (definition_by r) ds)) (themselves_next xs h)
        ∙ ap (λ rest. map (λ x. b (r x)) xs ++ rest) (cells_next ds))
