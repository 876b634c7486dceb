-- The scanned netlist behaves as the original: with and without a fault, with scan off and on.
use Rattle.std.proofs.Common.{◌≡◌, ℕ, Bool, true, false, not, cond, List, [], ◌∷◌, ◌++◌, map, length, Option, refl, sym, ◌∙◌, ap, subst, arith}
use Rattle.std.specs.Bool.{Decides}
use Rattle.std.specs.List.{All, AllZip, Contains, flat_map}
use Rattle.std.proofs.lemmas.Bool.{not-true}
use Rattle.std.proofs.lemmas.List.{map-append}
use Rattle.std.proofs.lemmas.List.Elements.{All-nil, All-cons, All-head, All-tail, All-contains, Contains-append_left}
use Rattle.statement.specs.declared.kinds.Kind.TheVariants.{And, Or, Not, Buff}
use Rattle.statement.specs.declared.lines.Line.{Line}
use Rattle.statement.specs.declared.lines.Line.TheVariants.{Stem, Pin, Out}
use Rattle.statement.specs.declared.lines.Fault.{Fault}
use Rattle.statement.specs.Netlists.{Definition, Netlist, is_cell, cells, gates, signals}
use Rattle.netlist.specs.Netlist.{is_gate, IsAcyclic, define}
use Rattle.netlist.specs.Conditions.{IsNumbered, IsClosed}
use Rattle.statement.specs.Values.{Table, Settles, stuck, with_fault, on_pins, pins_of, outs, next}
use Rattle.netlist.proofs.Lists.{all_right, all_filter, All-from_contains, contains_head, contains_tail, contains_filter, map_agree, map_map}
use Rattle.netlist.proofs.WellFormed.{one_pin}
use Rattle.scan_insert.specs.Scan.{Naming, scan_cell, scan_definition, show_last, scanned}
use Rattle.netlist.specs.Lines.{IsFaultOf}
use Rattle.scan_insert.specs.Laws.{Multiplexes}
use Rattle.scan_insert.proofs.Namings.{Origin, Original, Enable, EnableNot, ScanIn, ScanOut, Captured, Shifted, Chosen, Held, IsNaming, named_fault}
use Rattle.netlist.proofs.Alike.{settles_once}
use Rattle.scan_insert.proofs.Equations.{all_behind_first, all_of_cell, all_of_definition, cells_scanned, held_cell, only_pin}
use Rattle.scan_insert.proofs.Clean.{defined, IsClean, new_clean, captured_stem_clean, second_pin_clean, buffer_clean, on_stem, on_out, on_cell, clean, matches, gate_pins}

module _ {V : Type 0} (known : Bool → V) (f g : Option Fault) where
  -- the inputs of the scanned netlist: those of the original, the enable and the scan inputs
  split_inputs : (of : ℕ → ℕ) (b : ℕ → V) (se : ℕ) (si xs : List ℕ) (ys zs : List V) (e : V)
      → All (λ x. (v : V) → stuck known g (Stem (of x)) v ≡ stuck known f (Stem x) v) xs → length xs ≡ length ys
      → AllZip (λ x v. b x ≡ stuck known g (Stem x) v) (map of xs ++ se ∷ si) (ys ++ e ∷ zs)
      → AllZip (λ x v. b (of x) ≡ stuck known f (Stem x) v) xs ys × (b se ≡ stuck known g (Stem se) e) × AllZip (λ x v. b x ≡ stuck known g (Stem x) v) si zs
  split_inputs of b se si [] [] zs e m l k = (tt, k.0, k.1)
  split_inputs of b se si [] (y ∷ ys) zs e m l k = absurd (omega (arith, l))
  split_inputs of b se si (x ∷ xs) [] zs e m l k = absurd (omega (arith, l))
  split_inputs of b se si (x ∷ xs) (y ∷ ys) zs e m l k =
      let P : ℕ → Type 0 = λ z. (v : V) → stuck known g (Stem (of z)) v ≡ stuck known f (Stem z) v in
      let r = split_inputs of b se si xs ys zs e (All-tail P x xs m) (omega (arith, l)) k.1 in
      ((k.0 ∙ All-head P x xs m y, r.0), r.1, r.2)

  -- what drives the cells of the scanned netlist
  held_state : (s : Naming) (b : ℕ → V) (cs : List Definition) (state : List V)
      → All (λ (d : Definition). (v : V) → b (s.held d.id) ≡ stuck known g (Stem (s.held d.id)) v → b (s.stem d.id) ≡ stuck known f (Stem d.id) v) cs
      → AllZip (λ (d : Definition) v. b d.id ≡ stuck known g (Stem d.id) v) (map (held_cell s) cs) state
      → AllZip (λ (d : Definition) v. b (s.stem d.id) ≡ stuck known f (Stem d.id) v) cs state
  unfolding held_cell
  held_state s b [] [] h k = tt
  held_state s b [] (v ∷ vs) h k = absurd k
  held_state s b (d ∷ ds) [] h k = absurd k
  held_state s b (d ∷ ds) (v ∷ vs) h k =
      let P : Definition → Type 0 = λ e. (w : V) → b (s.held e.id) ≡ stuck known g (Stem (s.held e.id)) w → b (s.stem e.id) ≡ stuck known f (Stem e.id) w in
      (All-head P d ds h v k.0, held_state s b ds vs (All-tail P d ds h) k.1)

  plain_state : (s : Naming) (b : ℕ → V) (cs : List Definition) (state : List V)
      → All (λ (d : Definition). (v : V) → stuck known g (Stem (s.held d.id)) v ≡ v) cs
      → AllZip (λ (d : Definition) v. b d.id ≡ stuck known g (Stem d.id) v) (map (held_cell s) cs) state
      → AllZip (λ (d : Definition) v. b (s.held d.id) ≡ v) cs state
  unfolding held_cell
  plain_state s b [] [] h k = tt
  plain_state s b [] (v ∷ vs) h k = absurd k
  plain_state s b (d ∷ ds) [] h k = absurd k
  plain_state s b (d ∷ ds) (v ∷ vs) h k =
      let P : Definition → Type 0 = λ e. (w : V) → stuck known g (Stem (s.held e.id)) w ≡ w in
      (k.0 ∙ All-head P d ds h v, plain_state s b ds vs (All-tail P d ds h) k.1)

  plain_inputs : (b : ℕ → V) (xs : List ℕ) (vs : List V) → ((x : ℕ) → Contains xs x → (v : V) → stuck known g (Stem x) v ≡ v)
      → AllZip (λ x v. b x ≡ stuck known g (Stem x) v) xs vs → AllZip (λ x v. b x ≡ v) xs vs
  plain_inputs b [] [] h k = tt
  plain_inputs b [] (v ∷ vs) h k = absurd k
  plain_inputs b (x ∷ xs) [] h k = absurd k
  plain_inputs b (x ∷ xs) (v ∷ vs) h k =
      (k.0 ∙ h x (contains_head x xs) v, plain_inputs b xs vs (λ y c. h y (contains_tail x y xs c)) k.1)

-- a scan cell's gates choose between what comes before and what is captured
chosen_value : {V : Type 0} (table : Table V) → Multiplexes table → (e : Bool) (d before : V)
    → table.gate Or (table.gate And (d ∷ table.known (not e) ∷ []) ∷ table.gate And (before ∷ table.known e ∷ []) ∷ []) ≡ cond e before d
chosen_value table m true d before =
    ap (λ v. table.gate Or (v ∷ table.gate And (before ∷ table.known true ∷ []) ∷ [])) (m.and_zero d)
    ∙ (ap (λ v. table.gate Or (table.known false ∷ v ∷ [])) (m.and_one before) ∙ m.zero_or before)
chosen_value table m false d before =
    ap (λ v. table.gate Or (v ∷ table.gate And (before ∷ table.known false ∷ []) ∷ [])) (m.and_one d)
    ∙ (ap (λ v. table.gate Or (d ∷ v ∷ [])) (m.and_zero before) ∙ m.or_zero d)

zip_length : {X Y : Type 0} (R : X → Y → Type 0) (xs : List X) (ys : List Y) → AllZip R xs ys → length xs ≡ length ys
zip_length R [] [] h = refl
zip_length R [] (y ∷ ys) h = absurd h
zip_length R (x ∷ xs) [] h = absurd h
zip_length R (x ∷ xs) (y ∷ ys) h = omega (arith, zip_length R xs ys h.1)

flat_map_map : {X Y Z : Type 0} (f : Y → List Z) (g : X → Y) (xs : List X) → flat_map f (map g xs) ≡ flat_map (λ x. f (g x)) xs
flat_map_map f g [] = refl
flat_map_map f g (x ∷ xs) = ap (λ r. f (g x) ++ r) (flat_map_map f g xs)

flat_map_agree : {X Y : Type 0} (f g : X → List Y) (xs : List X) → All (λ x. f x ≡ g x) xs → flat_map f xs ≡ flat_map g xs
flat_map_agree f g [] h = refl
flat_map_agree f g (x ∷ xs) h =
    let e : f x ≡ g x = All-head (λ y. f y ≡ g y) x xs h in
    let r : flat_map f xs ≡ flat_map g xs = flat_map_agree f g xs (All-tail (λ y. f y ≡ g y) x xs h) in
    cc

singles : {X Y : Type 0} (f : X → Y) (xs : List X) → flat_map (λ x. f x ∷ []) xs ≡ map f xs
singles f [] = refl
singles f (x ∷ xs) = ap (λ r. f x ∷ r) (singles f xs)

all_of_map : {X Y : Type 0} (P : Y → Type 0) (f : X → Y) (xs : List X) → All P (map f xs) → All (λ x. P (f x)) xs
all_of_map P f [] h = All-nil _
all_of_map P f (x ∷ xs) h = All-cons (λ y. P (f y)) x xs (All-head P (f x) (map f xs) h) (all_of_map P f xs (All-tail P (f x) (map f xs) h))

-- what a settled scanned netlist shows, in the terms of the original
pub record AsOriginal {V : Type 0} (table : Table V) (s : Naming) (n : Netlist) (f : Option Fault) (state scan_inputs : List V) (e : Bool) (a b : ℕ → V) : Type 0 where
  pub outputs : outs (with_fault table (named_fault s f)) (scanned s n) b ≡ outs (with_fault table f) n a ++ map (λ (p : ℕ × ℕ). b p.1) s.scan_out
  pub cells_next : next (with_fault table (named_fault s f)) (scanned s n) b ≡ cond e (map (λ (d : Definition). b (s.before d.id)) (cells n)) (next (with_fault table f) n a)
  pub cells_hold : AllZip (λ (d : Definition) v. b (s.held d.id) ≡ v) (cells n) state
  pub scan_inputs_have : AllZip (λ x v. b x ≡ v) s.scan_in scan_inputs
  pub stems : (x : ℕ) → Contains (signals n) x → b (s.stem x) ≡ a x

module _ {V : Type 0} (same : V → V → Bool) (decides : (x y : V) → Decides (same x y) (x ≡ y)) (table : Table V) (multiplexes : Multiplexes table)
    (s : Naming) (n : Netlist) (naming : IsNaming s n) (numbered : IsNumbered n) (closed : IsClosed n) (acyclic : IsAcyclic n)
    (f : Option Fault) (inputs state scan_inputs : List V) (e : Bool) (a b : ℕ → V) (valid : IsFaultOf n f)
    (p : Settles (with_fault table f) n inputs state a)
    (q : Settles (with_fault table (named_fault s f)) (scanned s n) (inputs ++ table.known e ∷ scan_inputs) state b) where
  Holds : Definition → Type 0
  Holds d = b d.id ≡ stuck table.known (named_fault s f) (Stem d.id) (table.gate d.kind (on_pins (with_fault table (named_fault s f)) d.id 0 (map b d.pins)))

  Obeys : Definition → Type 0
  Obeys d = is_gate d ≡ true → Holds d

  clear : (m : Line) (v : V) → IsClean s n naming numbered closed m → stuck table.known (named_fault s f) m v ≡ v
  clear m v c = clean s n naming numbered closed table.known f m v valid c

  clear_stem : (w : ℕ) (o : Origin) (v : V) → naming.origin w ≡ o → ((x : ℕ) → Original x ≡ o → ⊥) → ((x : ℕ) → Captured x ≡ o → ⊥) → stuck table.known (named_fault s f) (Stem w) v ≡ v
  clear_stem w o v is h k = clear (Stem w) v (new_clean s n naming numbered closed (Stem w) o is h k)

  clear_pin : (w k : ℕ) (o : Origin) (v : V) → naming.origin w ≡ o → ((x : ℕ) → Original x ≡ o → ⊥) → ((x : ℕ) → Captured x ≡ o → ⊥) → stuck table.known (named_fault s f) (Pin w k) v ≡ v
  clear_pin w k o v is h i = clear (Pin w k) v (new_clean s n naming numbered closed (Pin w k) o is h i)

  clear_out : (w : ℕ) (o : Origin) (v : V) → naming.origin w ≡ o → ((x : ℕ) → Original x ≡ o → ⊥) → ((x : ℕ) → Captured x ≡ o → ⊥) → stuck table.known (named_fault s f) (Out w) v ≡ v
  clear_out w o v is h k = clear (Out w) v (new_clean s n naming numbered closed (Out w) o is h k)

  same_stem : (x : ℕ) (v : V) → Contains (signals n) x → stuck table.known (named_fault s f) (Stem (s.stem x)) v ≡ stuck table.known f (Stem x) v
  same_stem x v c = matches s n naming numbered closed table.known f (Stem (s.stem x)) (Stem x) v valid (on_stem s n naming numbered closed x c)

  signal_of : (d : Definition) → Contains n.definitions d → Contains (signals n) d.id
  signal_of = defined s n naming numbered closed

  parts : AllZip (λ x v. b (s.stem x) ≡ stuck table.known f (Stem x) v) n.inputs inputs × (b s.enable ≡ stuck table.known (named_fault s f) (Stem s.enable) (table.known e))
      × AllZip (λ x v. b x ≡ stuck table.known (named_fault s f) (Stem x) v) s.scan_in scan_inputs
  parts = split_inputs table.known f (named_fault s f) s.stem b s.enable s.scan_in n.inputs inputs scan_inputs (table.known e)
      (All-from_contains (λ x. (v : V) → stuck table.known (named_fault s f) (Stem (s.stem x)) v ≡ stuck table.known f (Stem x) v) n.inputs
      (λ x c v. same_stem x v (Contains-append_left n.inputs (map (λ (d : Definition). d.id) n.definitions) x c)))
      (zip_length _ n.inputs inputs p.0) q.0

  enable : b s.enable ≡ table.known e
  enable = parts.1 ∙ clear_stem s.enable Enable (table.known e) naming.enable (λ x r. cc) (λ x r. cc)

  at_definitions : All Obeys (scanned s n).definitions
  unfolding Holds Obeys
  at_definitions = all_filter Holds is_gate (scanned s n).definitions q.2

  at_cell : (d : Definition) → Contains (cells n) d → All Obeys (scan_cell s d)
  at_cell = all_of_cell s n Obeys at_definitions

  inverse : b s.enable_not ≡ table.known (not e)
  unfolding Holds Obeys
  inverse =
      let G = named_fault s f in
      let h : b s.enable_not ≡ stuck table.known G (Stem s.enable_not) (table.gate Not (stuck table.known G (Pin s.enable_not 0) (b s.enable) ∷ [])) =
      at_definitions 0 (define s.enable_not Not (s.enable ∷ [])) (omega arith) refl in
      h ∙ (clear_stem s.enable_not EnableNot (table.gate Not (stuck table.known G (Pin s.enable_not 0) (b s.enable) ∷ [])) naming.enable_not (λ x r. cc) (λ x r. cc)
      ∙ (ap (λ v. table.gate Not (v ∷ [])) (clear_pin s.enable_not 0 EnableNot (b s.enable) naming.enable_not (λ x r. cc) (λ x r. cc) ∙ enable)
      ∙ multiplexes.inverts e))

  shifts : (d : Definition) → Contains (cells n) d → b (s.shifted d.id) ≡ table.gate And (b (s.before d.id) ∷ table.known e ∷ [])
  unfolding Holds Obeys
  shifts d c =
      let w = s.shifted d.id in
      let o = naming.shifted d c in
      let G = named_fault s f in
      let h : b w ≡ stuck table.known G (Stem w) (table.gate And (stuck table.known G (Pin w 0) (b (s.before d.id)) ∷ stuck table.known G (Pin w 1) (b s.enable) ∷ [])) =
      at_cell d c 1 d (omega arith) refl in
      h ∙ (clear_stem w (Shifted d.id) (table.gate And (stuck table.known G (Pin w 0) (b (s.before d.id)) ∷ stuck table.known G (Pin w 1) (b s.enable) ∷ [])) o (λ x r. cc) (λ x r. cc)
      ∙ (ap (λ v. table.gate And (v ∷ stuck table.known G (Pin w 1) (b s.enable) ∷ [])) (clear_pin w 0 (Shifted d.id) (b (s.before d.id)) o (λ x r. cc) (λ x r. cc))
      ∙ ap (λ v. table.gate And (b (s.before d.id) ∷ v ∷ [])) (clear_pin w 1 (Shifted d.id) (b s.enable) o (λ x r. cc) (λ x r. cc) ∙ enable)))

  captures : (d : Definition) (x : ℕ) → Contains (cells n) d → d.pins ≡ x ∷ [] → b (s.pins d.id) ≡ table.gate And (stuck table.known f (Pin d.id 0) (b (s.stem x)) ∷ table.known (not e) ∷ [])
  unfolding Holds Obeys
  captures d x c one =
      let w = s.pins d.id in
      let G = named_fault s f in
      let h : b w ≡ stuck table.known G (Stem w) (table.gate And (on_pins (with_fault table G) w 0 (map b (map s.stem d.pins ++ s.enable_not ∷ [])))) = at_cell d c 0 d (omega arith) refl in
      h ∙ (ap (λ (ps : List ℕ). stuck table.known G (Stem w) (table.gate And (on_pins (with_fault table G) w 0 (map b (map s.stem ps ++ s.enable_not ∷ []))))) one
      ∙ (clear (Stem w) (table.gate And (stuck table.known G (Pin w 0) (b (s.stem x)) ∷ stuck table.known G (Pin w 1) (b s.enable_not) ∷ [])) (captured_stem_clean s n naming numbered closed d c)
      ∙ (ap (λ v. table.gate And (v ∷ stuck table.known G (Pin w 1) (b s.enable_not) ∷ []))
      (matches s n naming numbered closed table.known f (Pin w 0) (Pin d.id 0) (b (s.stem x)) valid (on_cell s n naming numbered closed d c))
      ∙ ap (λ v. table.gate And (stuck table.known f (Pin d.id 0) (b (s.stem x)) ∷ v ∷ [])) (clear (Pin w 1) (b s.enable_not) (second_pin_clean s n naming numbered closed d c) ∙ inverse))))

  chooses : (d : Definition) (x : ℕ) → Contains (cells n) d → d.pins ≡ x ∷ [] → b (s.chosen d.id) ≡ cond e (b (s.before d.id)) (stuck table.known f (Pin d.id 0) (b (s.stem x)))
  unfolding Holds Obeys
  chooses d x c one =
      let w = s.chosen d.id in
      let o = naming.chosen d c in
      let G = named_fault s f in
      let l = b (s.pins d.id) in
      let r = b (s.shifted d.id) in
      let h : b w ≡ stuck table.known G (Stem w) (table.gate Or (stuck table.known G (Pin w 0) l ∷ stuck table.known G (Pin w 1) r ∷ [])) = at_cell d c 2 d (omega arith) refl in
      h ∙ (clear_stem w (Chosen d.id) (table.gate Or (stuck table.known G (Pin w 0) l ∷ stuck table.known G (Pin w 1) r ∷ [])) o (λ x r. cc) (λ x r. cc)
      ∙ (ap (λ v. table.gate Or (v ∷ stuck table.known G (Pin w 1) r ∷ [])) (clear_pin w 0 (Chosen d.id) l o (λ x r. cc) (λ x r. cc) ∙ captures d x c one)
      ∙ (ap (λ v. table.gate Or (table.gate And (stuck table.known f (Pin d.id 0) (b (s.stem x)) ∷ table.known (not e) ∷ []) ∷ v ∷ []))
      (clear_pin w 1 (Chosen d.id) r o (λ x r. cc) (λ x r. cc) ∙ shifts d c)
      ∙ chosen_value table multiplexes e (stuck table.known f (Pin d.id 0) (b (s.stem x))) (b (s.before d.id)))))

  held_clear : (d : Definition) → Contains (cells n) d → (v : V) → stuck table.known (named_fault s f) (Stem (s.held d.id)) v ≡ v
  held_clear d c v = clear_stem (s.held d.id) (Held d.id) v (naming.held d c) (λ x r. cc) (λ x r. cc)

  buffered : (d : Definition) → Contains (cells n) d → (v : V) → b (s.held d.id) ≡ stuck table.known (named_fault s f) (Stem (s.held d.id)) v → b (s.stem d.id) ≡ stuck table.known f (Stem d.id) v
  unfolding Holds Obeys
  buffered d c v held =
      let G = named_fault s f in
      let h : b (s.stem d.id) ≡ stuck table.known G (Stem (s.stem d.id)) (table.gate Buff (stuck table.known G (Pin (s.stem d.id) 0) (b (s.held d.id)) ∷ [])) = at_cell d c 4 d (omega arith) refl in
      h ∙ (ap (stuck table.known G (Stem (s.stem d.id))) (multiplexes.buff (stuck table.known G (Pin (s.stem d.id) 0) (b (s.held d.id)))
      ∙ (clear (Pin (s.stem d.id) 0) (b (s.held d.id)) (buffer_clean s n naming numbered closed d c)
      ∙ (held ∙ held_clear d c v)))
      ∙ same_stem d.id v (signal_of d (contains_filter is_cell n.definitions d c).0))

  at_gate : (d : Definition) → Contains (gates n) d → b (s.stem d.id) ≡ stuck table.known f (Stem d.id) (table.gate d.kind (on_pins (with_fault table f) d.id 0 (map (λ x. b (s.stem x)) d.pins)))
  unfolding Holds Obeys
  at_gate d c =
      let G = named_fault s f in
      let m = contains_filter is_gate n.definitions d c in
      let one : All Obeys (define (s.stem d.id) d.kind (map s.stem d.pins) ∷ []) =
      subst (λ (v : Bool). All Obeys (cond v (scan_cell s d) (define (s.stem d.id) d.kind (map s.stem d.pins) ∷ []))) (not-true (is_cell d) m.1) (all_of_definition s n Obeys at_definitions d m.0) in
      let h : b (s.stem d.id) ≡ stuck table.known G (Stem (s.stem d.id)) (table.gate d.kind (on_pins (with_fault table G) (s.stem d.id) 0 (map b (map s.stem d.pins)))) = one 0 d (omega arith) m.1 in
      let vs : List V = map (λ x. b (s.stem x)) d.pins in
      h ∙ (ap (λ (r : List V). stuck table.known G (Stem (s.stem d.id)) (table.gate d.kind r)) (ap (on_pins (with_fault table G) (s.stem d.id) 0) (map_map s.stem b d.pins) ∙ gate_pins s n naming numbered closed table f valid d c 0 vs)
      ∙ same_stem d.id (table.gate d.kind (on_pins (with_fault table f) d.id 0 vs)) (signal_of d m.0))

  state_of_cells : AllZip (λ (d : Definition) v. b d.id ≡ stuck table.known (named_fault s f) (Stem d.id) v) (map (held_cell s) (cells n)) state
  state_of_cells = subst (λ (cs : List Definition). AllZip (λ (d : Definition) v. b d.id ≡ stuck table.known (named_fault s f) (Stem d.id) v) cs state) (cells_scanned s n) q.1

  as_original : Settles (with_fault table f) n inputs state (λ x. b (s.stem x))
  as_original = (
    parts.0,
    held_state table.known f (named_fault s f) s b (cells n) state
        (All-from_contains (λ (d : Definition). (v : V) → b (s.held d.id) ≡ stuck table.known (named_fault s f) (Stem (s.held d.id)) v → b (s.stem d.id) ≡ stuck table.known f (Stem d.id) v) (cells n) buffered)
        state_of_cells,
    All-from_contains (λ (d : Definition). b (s.stem d.id) ≡ stuck table.known f (Stem d.id) (table.gate d.kind (on_pins (with_fault table f) d.id 0 (map (λ x. b (s.stem x)) d.pins)))) (gates n) at_gate,
  )

  agrees : (x : ℕ) → Contains (signals n) x → b (s.stem x) ≡ a x
  agrees = settles_once same decides (with_fault table f) n inputs state (λ x. b (s.stem x)) a closed acyclic as_original p

  next_bit : (d : Definition) → Contains (cells n) d
      → on_pins (with_fault table (named_fault s f)) (s.held d.id) 0 (b (s.chosen d.id) ∷ []) ≡ cond e (b (s.before d.id) ∷ []) (pins_of (with_fault table f) a d)
  next_bit d c =
      let m = contains_filter is_cell n.definitions d c in
      let w = only_pin d.pins (All-contains (λ (r : Definition). length r.pins ≡ 1) (cells n) d (one_pin n closed) c) in
      let read : Contains (signals n) w.0 =
      All-contains (Contains (signals n)) (w.0 ∷ []) w.0
      (subst (λ (ps : List ℕ). All (Contains (signals n)) ps) w.1
      (All-contains (λ (r : Definition). All (Contains (signals n)) r.pins) n.definitions d closed.pins m.0)) (contains_head w.0 []) in
      let same : on_pins (with_fault table f) d.id 0 (map a (w.0 ∷ [])) ≡ pins_of (with_fault table f) a d = sym (ap (λ (ps : List ℕ). on_pins (with_fault table f) d.id 0 (map a ps)) w.1) in
      let step : (x : Bool) → cond x (b (s.before d.id)) (stuck table.known f (Pin d.id 0) (a w.0)) ∷ [] ≡ cond x (b (s.before d.id) ∷ []) (on_pins (with_fault table f) d.id 0 (map a (w.0 ∷ []))) =
      elim [ true ↦ refl | false ↦ refl ] in
      ap (λ v. v ∷ []) (clear_pin (s.held d.id) 0 (Held d.id) (b (s.chosen d.id)) (naming.held d c) (λ x r. cc) (λ x r. cc)
      ∙ (chooses d w.0 c w.1
      ∙ ap (λ v. cond e (b (s.before d.id)) (stuck table.known f (Pin d.id 0) v)) (agrees w.0 read)))
      ∙ (step e ∙ ap (λ r. cond e (b (s.before d.id) ∷ []) r) same)

  next_cases : (x : Bool) → flat_map (λ (d : Definition). cond x (b (s.before d.id) ∷ []) (pins_of (with_fault table f) a d)) (cells n)
      ≡ cond x (map (λ (d : Definition). b (s.before d.id)) (cells n)) (next (with_fault table f) n a)
  next_cases true = singles (λ (d : Definition). b (s.before d.id)) (cells n)
  next_cases false = refl

  shown : (r : ℕ × ℕ) → Contains s.scan_out r → stuck table.known (named_fault s f) (Out r.0) (b r.0) ≡ b r.1
  unfolding Holds Obeys
  shown r c =
      let G = named_fault s f in
      let o = naming.scan_out r c in
      let obeys : All (λ (x : ℕ × ℕ). Obeys (show_last x)) s.scan_out =
      all_of_map Obeys show_last s.scan_out (all_right Obeys (flat_map (scan_definition s) n.definitions) (map show_last s.scan_out) (all_behind_first s n Obeys at_definitions)) in
      let h : b r.0 ≡ stuck table.known G (Stem r.0) (table.gate Buff (stuck table.known G (Pin r.0 0) (b r.1) ∷ [])) = All-contains (λ (x : ℕ × ℕ). Obeys (show_last x)) s.scan_out r obeys c refl in
      clear_out r.0 (ScanOut o.0) (b r.0) o.1 (λ x t. cc) (λ x t. cc)
      ∙ (h ∙ (clear_stem r.0 (ScanOut o.0) (table.gate Buff (stuck table.known G (Pin r.0 0) (b r.1) ∷ [])) o.1 (λ x t. cc) (λ x t. cc)
      ∙ (multiplexes.buff (stuck table.known G (Pin r.0 0) (b r.1)) ∙ clear_pin r.0 0 (ScanOut o.0) (b r.1) o.1 (λ x t. cc) (λ x t. cc))))

  pub behaves : AsOriginal table s n f state scan_inputs e a b
  unfolding held_cell
  behaves = record {
    outputs =
        map-append (λ x. stuck table.known (named_fault s f) (Out x) (b x)) (map s.stem n.outputs) (map (λ (r : ℕ × ℕ). r.0) s.scan_out)
        ∙ (ap (λ r. r ++ map (λ x. stuck table.known (named_fault s f) (Out x) (b x)) (map (λ (r : ℕ × ℕ). r.0) s.scan_out))
        (map_map s.stem (λ x. stuck table.known (named_fault s f) (Out x) (b x)) n.outputs
        ∙ map_agree (λ x. stuck table.known (named_fault s f) (Out (s.stem x)) (b (s.stem x))) (λ x. stuck table.known f (Out x) (a x)) n.outputs
        (All-from_contains (λ x. stuck table.known (named_fault s f) (Out (s.stem x)) (b (s.stem x)) ≡ stuck table.known f (Out x) (a x)) n.outputs
        (λ x c.
        let there = All-contains (Contains (signals n)) n.outputs x closed.outputs c in
        matches s n naming numbered closed table.known f (Out (s.stem x)) (Out x) (b (s.stem x)) valid (on_out s n naming numbered closed x there)
        ∙ ap (stuck table.known f (Out x)) (agrees x there))))
        ∙ ap (λ r. outs (with_fault table f) n a ++ r)
        (map_map (λ (r : ℕ × ℕ). r.0) (λ x. stuck table.known (named_fault s f) (Out x) (b x)) s.scan_out
        ∙ map_agree (λ (r : ℕ × ℕ). stuck table.known (named_fault s f) (Out r.0) (b r.0)) (λ (r : ℕ × ℕ). b r.1) s.scan_out
        (All-from_contains (λ (r : ℕ × ℕ). stuck table.known (named_fault s f) (Out r.0) (b r.0) ≡ b r.1) s.scan_out shown)));
    cells_next =
        ap (λ (cs : List Definition). flat_map (pins_of (with_fault table (named_fault s f)) b) cs) (cells_scanned s n)
        ∙ (flat_map_map (pins_of (with_fault table (named_fault s f)) b) (held_cell s) (cells n)
        ∙ (flat_map_agree (λ (d : Definition). on_pins (with_fault table (named_fault s f)) (s.held d.id) 0 (b (s.chosen d.id) ∷ []))
        (λ (d : Definition). cond e (b (s.before d.id) ∷ []) (pins_of (with_fault table f) a d)) (cells n)
        (All-from_contains (λ (d : Definition). on_pins (with_fault table (named_fault s f)) (s.held d.id) 0 (b (s.chosen d.id) ∷ []) ≡ cond e (b (s.before d.id) ∷ []) (pins_of (with_fault table f) a d)) (cells n) next_bit)
        ∙ next_cases e));
    cells_hold = plain_state table.known f (named_fault s f) s b (cells n) state
        (All-from_contains (λ (d : Definition). (v : V) → stuck table.known (named_fault s f) (Stem (s.held d.id)) v ≡ v) (cells n) held_clear) state_of_cells;
    scan_inputs_have = plain_inputs table.known f (named_fault s f) b s.scan_in scan_inputs
        (λ x c v. let o = naming.scan_in x c in clear_stem x (ScanIn o.0) v o.1 (λ y r. cc) (λ y r. cc)) parts.2;
    stems = agrees;
  }
