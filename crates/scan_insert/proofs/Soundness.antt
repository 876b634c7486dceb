-- The scanned netlist is a netlist.
use Rattle.std.proofs.Common.{◌≡◌, ◌≢◌, ℕ, suc, ◌+◌, ◌<◌, ◌≤◌, Bool, true, false, cond, ◌⊎◌, List, [], ◌∷◌, ◌++◌, map, length, get_or, refl, sym, ◌∙◌, ap, subst, inl, inr, arith, length-append}
use Rattle.std.specs.List.{All, AllPairs, Contains, filter}
use Rattle.std.proofs.lemmas.Bool.{cases_Bool, not_from_false}
use Rattle.std.proofs.lemmas.List.{length-map, get_or-map, get_or_default}
use Rattle.std.proofs.lemmas.List.Kept.{AllPairs-cons}
use Rattle.std.proofs.lemmas.List.Elements.{All-contains, All-append, Contains-append_cases, Contains-append_left, Contains-append_right, Contains-get_or}
use Rattle.statement.specs.declared.kinds.Kind.TheVariants.{And}
use Rattle.statement.specs.Netlists.{Definition, Netlist, is_cell, cells, signals, IsName}
use Rattle.netlist.specs.Netlist.{is_gate}
use Rattle.netlist.specs.Gates.{allows_pins}
use Rattle.netlist.specs.declared.netlists.NetRefusal.{NetRefusal}
use Rattle.netlist.specs.declared.netlists.NetRefusal.TheVariants.{TooMany, NoInput, NoOutput, Undefined, Loop, NoMemory}
use Rattle.netlist.specs.Conditions.{HasReader, IsWellFormed, IsClosed, IsSized, IsSound, IsCause}
use Rattle.netlist.proofs.Lists.{All-from_contains, contains_head, contains_tail, contains_cases, contains_filter, filter_contains, contains_map}
use Rattle.netlist.proofs.Placed.{signal_below, signal_from, signals_length}
use Rattle.netlist.proofs.WellFormed.{one_pin}
use Rattle.netlist.specs.Designs.{IsDesign}
use Rattle.scan_insert.specs.Names.{names_of}
use Rattle.scan_insert.specs.Scan.{Naming, scanned}
use Rattle.scan_insert.proofs.Namings.{Origin, Original, Enable, EnableNot, ScanOut, Captured, Shifted, Chosen, Held}
use Rattle.scan_insert.specs.Scanned.{first_scan_out, naming_of, scanned_of}
use Rattle.scan_insert.specs.Laws.{ScannedIsSound}
use Rattle.scan_insert.proofs.Equations.{held_cell, cells_scanned}
use Rattle.scan_insert.proofs.Loopless.{IsScanGate, off, plain, capture, shift, choose, buffer, show, scan_gate, only_one}
use Rattle.scan_insert.proofs.Numbers.{length-numbers_from, get_or-numbers_from}
use Rattle.scan_insert.proofs.Origins.{cell_origins, origins, number, stands, number_at, among_signals, numbers_of_origins}
use Rattle.scan_insert.proofs.Placing.{scanned_numbers, out_numbers}
use Rattle.scan_insert.proofs.SignalNames.{origin_name, names_of_origins, name_in_form, name_injective, valid_origin}
use Rattle.scan_insert.proofs.Concrete.{AreDealt, are_dealt, gates_pins, is_numbered, ins_length, outs_length, is_naming, is_chained, is_acyclic}

pub pairs_append : {X : Type 0} (R : X → X → Type 0) (xs ys : List X) → AllPairs R xs → AllPairs R ys
    → ((x y : X) → Contains xs x → Contains ys y → R x y) → AllPairs R (xs ++ ys)
pairs_append R [] ys p q h = q
pairs_append R (x ∷ xs) ys p q h =
    AllPairs-cons R x (xs ++ ys)
    (All-append (R x) xs ys (λ k d l. p 0 (suc k) d (omega arith) (omega arith)) (All-from_contains (R x) ys (λ y c. h x y (contains_head x xs) c)))
    (pairs_append R xs ys (λ i j d a b. p (suc i) (suc j) d (omega arith) (omega arith)) q (λ y z c e. h y z (contains_tail x y xs c) e))

pub pairs_map : {X Y : Type 0} (f : X → Y) (xs : List X) (d : X) → AllPairs (λ x y. x ≢ y) xs → ((x y : X) → Contains xs x → Contains xs y → f x ≡ f y → x ≡ y) → AllPairs (λ x y. x ≢ y) (map f xs)
pairs_map f xs d p inj i j e l m =
    let size : length (map f xs) ≡ length xs = length-map xs f in
    let w : i < length xs = omega arith in
    let v : j < length xs = omega arith in
    λ same. p i j d l v (inj (get_or xs i d) (get_or xs j d) (Contains-get_or xs i d w) (Contains-get_or xs j d v)
    (sym (get_or-map f xs i d e w) ∙ (same ∙ get_or-map f xs j d e v)))

pub filter_le : {X : Type 0} (p : X → Bool) (xs : List X) → length (filter p xs) ≤ length xs
filter_le p [] = omega arith
filter_le p (x ∷ xs) =
    let step : (b : Bool) → length (cond b (x ∷ filter p xs) (filter p xs)) ≤ suc (length xs) =
    elim [ true ↦ omega (arith, filter_le p xs) | false ↦ omega (arith, filter_le p xs) ] in
    step (p x)

module _ (n : Netlist) (sound : IsSound n) (chain : List ℕ) (rest : List (List ℕ)) (dealt : AreDealt n (chain ∷ rest)) where
  chains : ℕ
  chains = length (chain ∷ rest)

  among : (o : Origin) → Contains (origins n (length (chain ∷ rest))) o → Contains (signals (scanned (naming_of n (chain ∷ rest)) n)) (number (naming_of n (chain ∷ rest)) o)
  among = among_signals (naming_of n (chain ∷ rest)) n (length (chain ∷ rest)) (ins_length n sound chain rest dealt) (outs_length n sound chain rest dealt)
      (is_numbered n sound chain rest dealt) (gates_pins n sound chain rest dealt)

  IsThere : ℕ → Type 0
  IsThere = Contains (signals (scanned (naming_of n (chain ∷ rest)) n))

  stem_there : (x : ℕ) → Contains (signals n) x → IsThere ((naming_of n (chain ∷ rest)).stem x)
  unfolding IsThere
  stem_there x c = among (Original x) ((stands n (length (chain ∷ rest))).original x c)

  cell_there : (d : Definition) → Contains (cells n) d → (k : ℕ) (o : Origin) → k < 5 → get_or (cell_origins d.id) k o ≡ o → IsThere (number (naming_of n (chain ∷ rest)) o)
  unfolding IsThere
  cell_there d c k o l e = among o ((stands n (length (chain ∷ rest))).of_cell d c o (k, l, e))

  enable_there : IsThere (naming_of n (chain ∷ rest)).enable
  unfolding IsThere
  enable_there = among Enable (stands n (length (chain ∷ rest))).enable

  enable_not_there : IsThere (naming_of n (chain ∷ rest)).enable_not
  unfolding IsThere
  enable_not_there = among EnableNot (stands n (length (chain ∷ rest))).enable_not

  scan_in_there : (x : ℕ) → Contains (naming_of n (chain ∷ rest)).scan_in x → IsThere x
  unfolding IsThere
  scan_in_there x c =
      let s : Naming = naming_of n (chain ∷ rest) in
      Contains-append_left (scanned s n).inputs (map (λ (d : Definition). d.id) (scanned s n).definitions) x
      (Contains-append_right (map s.stem n.inputs) (s.enable ∷ s.scan_in) x (contains_tail s.enable x s.scan_in c))

  scan_out_there : (p : ℕ × ℕ) → Contains (naming_of n (chain ∷ rest)).scan_out p → IsThere p.0
  unfolding IsThere
  scan_out_there p c =
      let s : Naming = naming_of n (chain ∷ rest) in
      let is : get_or s.scan_out c.0 (0, 0) ≡ p = get_or_default s.scan_out c.0 (0, 0) p c.1 ∙ c.2 in
      subst (λ (q : ℕ × ℕ). Contains (signals (scanned s n)) q.0) is
      (among (ScanOut c.0) ((stands n (length (chain ∷ rest))).scan_out c.0 (omega (arith, c.1, outs_length n sound chain rest dealt))))

  held_there : (d : Definition) → Contains (cells n) d → IsThere ((naming_of n (chain ∷ rest)).held d.id)
  held_there d c = cell_there d c 3 (Held d.id) (omega arith) refl

  before_there : (d : Definition) → Contains (cells n) d → IsThere ((naming_of n (chain ∷ rest)).before d.id)
  unfolding IsThere
  before_there d c = elim ((is_chained n sound chain rest dealt).before d c) [
    | inl w ↦ subst IsThere (sym w.2) (held_there w.0 w.1)
    | inr i ↦ scan_in_there ((naming_of n (chain ∷ rest)).before d.id) i
  ]

  pins_there : (pins : List ℕ) → ((x : ℕ) → Contains pins x → Contains (signals n) x) → (x : ℕ) → Contains (map (naming_of n (chain ∷ rest)).stem pins) x → IsThere x
  pins_there pins h x c = let m = contains_map (naming_of n (chain ∷ rest)).stem pins x c in subst IsThere m.2 (stem_there m.0 (h m.0 m.1))

  pins_of_definition : (d : Definition) → Contains n.definitions d → (x : ℕ) → Contains d.pins x → Contains (signals n) x
  pins_of_definition d c x p = All-contains (Contains (signals n)) d.pins x (All-contains (λ (r : Definition). All (Contains (signals n)) r.pins) n.definitions d sound.closed.pins c) p

  gate_pins_there : (d : Definition) → IsScanGate (naming_of n (chain ∷ rest)) n d → (x : ℕ) → Contains d.pins x → IsThere x
  gate_pins_there _ off x c = subst IsThere (only_one (naming_of n (chain ∷ rest)).enable x c) enable_there
  gate_pins_there _ (plain d g) x c = pins_there d.pins (pins_of_definition d (contains_filter is_gate n.definitions d g).0) x c
  gate_pins_there _ (capture q m) x c =
      let s : Naming = naming_of n (chain ∷ rest) in
      elim (Contains-append_cases (map s.stem q.pins) (s.enable_not ∷ []) x c) [
        | inl p ↦ pins_there q.pins (pins_of_definition q (contains_filter is_cell n.definitions q m).0) x p
        | inr p ↦ subst IsThere (only_one s.enable_not x p) enable_not_there
      ]
  gate_pins_there _ (shift q m) x c =
      let s : Naming = naming_of n (chain ∷ rest) in
      elim (contains_cases (s.before q.id) x (s.enable ∷ []) c) [
        | inl e ↦ subst IsThere e (before_there q m)
        | inr p ↦ subst IsThere (only_one s.enable x p) enable_there
      ]
  gate_pins_there _ (choose q m) x c =
      let s : Naming = naming_of n (chain ∷ rest) in
      elim (contains_cases (s.pins q.id) x (s.shifted q.id ∷ []) c) [
        | inl e ↦ subst IsThere e (cell_there q m 0 (Captured q.id) (omega arith) refl)
        | inr p ↦ subst IsThere (only_one (s.shifted q.id) x p) (cell_there q m 1 (Shifted q.id) (omega arith) refl)
      ]
  gate_pins_there _ (buffer q m) x c = subst IsThere (only_one ((naming_of n (chain ∷ rest)).held q.id) x c) (held_there q m)
  gate_pins_there _ (show p m) x c =
      let w = (is_chained n sound chain rest dealt).shows p m in
      subst IsThere (sym w.2 ∙ only_one p.1 x c) (held_there w.0 w.1)

  gate_allowed : (d : Definition) → IsScanGate (naming_of n (chain ∷ rest)) n d → allows_pins d.kind (length d.pins) ≡ true
  gate_allowed _ off = refl
  gate_allowed _ (plain d g) =
      ap (allows_pins d.kind) (length-map d.pins (naming_of n (chain ∷ rest)).stem)
      ∙ All-contains (λ (r : Definition). allows_pins r.kind (length r.pins) ≡ true) n.definitions d sound.closed.allowed (contains_filter is_gate n.definitions d g).0
  gate_allowed _ (capture q m) =
      let s : Naming = naming_of n (chain ∷ rest) in
      let one : length q.pins ≡ 1 = All-contains (λ (r : Definition). length r.pins ≡ 1) (cells n) q (one_pin n sound.closed) m in
      let two : length (map s.stem q.pins ++ s.enable_not ∷ []) ≡ 2 = omega (arith, length-append (map s.stem q.pins) (s.enable_not ∷ []), length-map q.pins s.stem) in
      ap (allows_pins And) two
  gate_allowed _ (shift q m) = refl
  gate_allowed _ (choose q m) = refl
  gate_allowed _ (buffer q m) = refl
  gate_allowed _ (show p m) = refl

  -- a definition of the scanned netlist is one of its gates, or one of the cells that hold
  definition_cases : (d : Definition) → Contains (scanned (naming_of n (chain ∷ rest)) n).definitions d
      → IsScanGate (naming_of n (chain ∷ rest)) n d ⊎ ((q : Definition) × Contains (cells n) q × (held_cell (naming_of n (chain ∷ rest)) q ≡ d))
  definition_cases d c =
      let s : Naming = naming_of n (chain ∷ rest) in
      elim (cases_Bool (is_cell d)) [
        | inl y ↦
            let here : Contains (cells (scanned s n)) d = filter_contains is_cell (scanned s n).definitions d c y in
            inr (contains_map (held_cell s) (cells n) d (subst (λ (ds : List Definition). Contains ds d) (cells_scanned s n) here))
        | inr g ↦ inl (scan_gate s n d (filter_contains is_gate (scanned s n).definitions d c (not_from_false (is_cell d) g)))
      ]

  pub closed : IsClosed (scanned (naming_of n (chain ∷ rest)) n)
  unfolding IsThere held_cell
  closed =
      let s : Naming = naming_of n (chain ∷ rest) in
      record {
        pins = All-from_contains (λ (d : Definition). All (Contains (signals (scanned s n))) d.pins) (scanned s n).definitions
            (λ d c. All-from_contains (Contains (signals (scanned s n))) d.pins (λ x p. elim (definition_cases d c) [
              | inl g ↦ gate_pins_there d g x p
              | inr w ↦
                  let pins : s.chosen w.0.id ∷ [] ≡ d.pins = ap (λ (e : Definition). e.pins) w.2 in
                  let one = only_one (s.chosen w.0.id) x (subst (λ (ps : List ℕ). Contains ps x) (sym pins) p) in
                  subst (Contains (signals (scanned s n))) one (cell_there w.0 w.1 2 (Chosen w.0.id) (omega arith) refl)
            ]));
        outputs = All-from_contains (Contains (signals (scanned s n))) (scanned s n).outputs
            (λ x c. elim (Contains-append_cases (map s.stem n.outputs) (map (λ (p : ℕ × ℕ). p.0) s.scan_out) x c) [
              | inl i ↦ pins_there n.outputs (λ y p. All-contains (Contains (signals n)) n.outputs y sound.closed.outputs p) x i
              | inr i ↦ let m = contains_map (λ (p : ℕ × ℕ). p.0) s.scan_out x i in subst (Contains (signals (scanned s n))) m.2 (scan_out_there m.0 m.1)
            ]);
        allowed = All-from_contains (λ (d : Definition). allows_pins d.kind (length d.pins) ≡ true) (scanned s n).definitions
            (λ d c. elim (definition_cases d c) [
              | inl g ↦ gate_allowed d g
              | inr w ↦ subst (λ (e : Definition). allows_pins e.kind (length e.pins) ≡ true) w.2 refl
            ]);
      }

  outputs_differ : AllPairs (λ x y. x ≢ y) (scanned (naming_of n (chain ∷ rest)) n).outputs
  outputs_differ =
      let s : Naming = naming_of n (chain ∷ rest) in
      let naming = is_naming n sound chain rest dealt in
      let signal : (x : ℕ) → Contains n.outputs x → Contains (signals n) x = λ x c. All-contains (Contains (signals n)) n.outputs x sound.closed.outputs c in
      pairs_append (λ x y. x ≢ y) (map s.stem n.outputs) (map (λ (p : ℕ × ℕ). p.0) s.scan_out)
      (pairs_map s.stem n.outputs 0 sound.formed.once (λ x y c e same. let a = naming.stem x (signal x c) in let b = naming.stem y (signal y e) in cc))
      (λ i j d l m same.
      let size : length (map (λ (p : ℕ × ℕ). p.0) s.scan_out) ≡ length (chain ∷ rest) = length-map s.scan_out (λ (p : ℕ × ℕ). p.0) ∙ outs_length n sound chain rest dealt in
      let at : (k : ℕ) → k < length (chain ∷ rest) → get_or (map (λ (p : ℕ × ℕ). p.0) s.scan_out) k d ≡ first_scan_out n (length (chain ∷ rest)) + k = λ k w.
      ap (λ (xs : List ℕ). get_or xs k d) (out_numbers n sound.formed.numbered chain rest) ∙ get_or-numbers_from (first_scan_out n (length (chain ∷ rest))) (length (chain ∷ rest)) k d w in
      let a = at i (omega arith) in
      let b = at j (omega arith) in
      omega arith)
      (λ x y c e same.
      let m = contains_map s.stem n.outputs x c in
      let w = contains_map (λ (p : ℕ × ℕ). p.0) s.scan_out y e in
      let a = naming.stem m.0 (signal m.0 m.1) in
      let b = (naming.scan_out w.0 w.1).1 in
      let f : s.stem m.0 ≡ x = m.2 in
      let g : w.0.0 ≡ y = w.2 in
      cc)

  names_count : length (names_of n (length (chain ∷ rest))) ≡ length (signals (scanned (naming_of n (chain ∷ rest)) n))
  names_count =
      let s : Naming = naming_of n (chain ∷ rest) in
      let os = origins n (length (chain ∷ rest)) in
      sym (ap length (names_of_origins n (length (chain ∷ rest))))
      ∙ (length-map os (origin_name n)
      ∙ (sym (length-map os (number s))
      ∙ ap length (numbers_of_origins s n (length (chain ∷ rest)) (ins_length n sound chain rest dealt) (outs_length n sound chain rest dealt))))

  count_is : length (signals (scanned (naming_of n (chain ∷ rest)) n)) ≡ first_scan_out n (length (chain ∷ rest)) + length (chain ∷ rest)
  count_is =
      ap length (scanned_numbers n sound.formed.numbered chain rest)
      ∙ length-numbers_from 0 (first_scan_out n (length (chain ∷ rest)) + length (chain ∷ rest))

  few_cells : length (cells n) ≤ length n.definitions
  few_cells = filter_le is_cell n.definitions

  module _ (design : IsDesign n) where
    pub few_chains : length (chain ∷ rest) ≤ 1000000
    few_chains = omega (arith, dealt.few, few_cells, signals_length n, design.small)

    names_in_form : All IsName (names_of n (length (chain ∷ rest)))
    names_in_form =
        subst (All IsName) (names_of_origins n (length (chain ∷ rest)))
        (All-from_contains IsName (map (origin_name n) (origins n (length (chain ∷ rest))))
        (λ name c.
        let m = contains_map (origin_name n) (origins n (length (chain ∷ rest))) name c in
        subst IsName m.2 (name_in_form n sound design m.0 (valid_origin n sound design (length (chain ∷ rest)) few_chains m.0 m.1))))

    names_differ : AllPairs (λ x y. x ≢ y) (names_of n (length (chain ∷ rest)))
    names_differ =
        let s : Naming = naming_of n (chain ∷ rest) in
        let os = origins n (length (chain ∷ rest)) in
        let at = number_at s n (length (chain ∷ rest)) (ins_length n sound chain rest dealt) (outs_length n sound chain rest dealt) (is_numbered n sound chain rest dealt) (gates_pins n sound chain rest dealt) in
        let valid : (k : ℕ) → k < length os → Contains os (get_or os k Enable) = λ k l. Contains-get_or os k Enable l in
        subst (AllPairs (λ x y. x ≢ y)) (names_of_origins n (length (chain ∷ rest)))
        (λ i j d l m same.
        let size : length (map (origin_name n) os) ≡ length os = length-map os (origin_name n) in
        let w : i < length os = omega arith in
        let v : j < length os = omega arith in
        let names : origin_name n (get_or os i Enable) ≡ origin_name n (get_or os j Enable) =
        sym (get_or-map (origin_name n) os i Enable d w) ∙ (same ∙ get_or-map (origin_name n) os j Enable d v) in
        let one = name_injective n sound design (get_or os i Enable) (get_or os j Enable)
        (valid_origin n sound design (length (chain ∷ rest)) few_chains (get_or os i Enable) (valid i w))
        (valid_origin n sound design (length (chain ∷ rest)) few_chains (get_or os j Enable) (valid j v)) names in
        let numbers : i ≡ j = sym (at i Enable w) ∙ (ap (number s) one ∙ at j Enable v) in
        omega arith)

    read_there : (x : ℕ) → HasReader (scanned (naming_of n (chain ∷ rest)) n) x → Contains (signals (scanned (naming_of n (chain ∷ rest)) n)) x
    read_there x r =
        let s : Naming = naming_of n (chain ∷ rest) in
        elim r [
          | inl w ↦ All-contains (Contains (signals (scanned s n))) w.0.pins x (All-contains (λ (d : Definition). All (Contains (signals (scanned s n))) d.pins) (scanned s n).definitions w.0 closed.pins w.1) w.2
          | inr c ↦ All-contains (Contains (signals (scanned s n))) (scanned s n).outputs x closed.outputs c
        ]

    pub formed : IsWellFormed (scanned (naming_of n (chain ∷ rest)) n)
    formed =
        let s : Naming = naming_of n (chain ∷ rest) in
        let numbered = is_numbered n sound chain rest dealt in
        record {
          numbered = numbered;
          named = λ x c. let l = signal_below (scanned s n) numbered x c in omega (arith, names_count);
          read_named = λ x r. let l = signal_below (scanned s n) numbered x (read_there x r) in omega (arith, names_count);
          used = λ x l. inl (signal_from (scanned s n) numbered x (omega (arith, names_count)));
          names = names_in_form;
          distinct = names_differ;
          once = outputs_differ;
          allowed = closed.allowed;
        }

    pub sized : IsSized (scanned (naming_of n (chain ∷ rest)) n)
    sized =
        let s : Naming = naming_of n (chain ∷ rest) in
        record {
          small = omega (arith, count_is, dealt.few, few_cells, signals_length n, design.small);
          input = omega (arith, length-append (map s.stem n.inputs) (s.enable ∷ s.scan_in), length-map n.inputs s.stem, sound.sized.input);
          output = omega (arith, length-append (map s.stem n.outputs) (map (λ (p : ℕ × ℕ). p.0) s.scan_out), length-map n.outputs s.stem, sound.sized.output);
        }

    pub is_sound : IsSound (scanned (naming_of n (chain ∷ rest)) n)
    is_sound = record { formed = formed; sized = sized; closed = closed; acyclic = is_acyclic n sound chain rest dealt }

pub scanned_sound : (n : Netlist) (chains : List (List ℕ)) → IsSound n → IsDesign n → AreDealt n chains → IsSound (scanned_of n chains)
scanned_sound n [] sound design dealt = sound
scanned_sound n (chain ∷ rest) sound design dealt = is_sound n sound chain rest dealt design

pub scanned_is_sound : ScannedIsSound
scanned_is_sound n chains sound design are = scanned_sound n chains sound design (are_dealt n chains are)

pub refused_for_memory : (n : Netlist) → IsSound n → (r : NetRefusal) → IsCause n r → r ≡ NoMemory
refused_for_memory n sound TooMany c = let small = sound.sized.small in let more : 8000000 < length (signals n) = c in absurd (omega arith)
refused_for_memory n sound NoInput c = let some = sound.sized.input in let none : length n.inputs ≡ 0 = c.1 in absurd (omega arith)
refused_for_memory n sound NoOutput c = let some = sound.sized.output in let none : length n.outputs ≡ 0 = c.2 in absurd (omega arith)
refused_for_memory n sound (Undefined z) c = absurd (c.1.1 (elim c.1.0 [
  | inl w ↦ All-contains (Contains (signals n)) w.0.pins z (All-contains (λ (d : Definition). All (Contains (signals n)) d.pins) n.definitions w.0 sound.closed.pins w.1) w.2
  | inr o ↦ All-contains (Contains (signals n)) n.outputs z sound.closed.outputs o
]))
refused_for_memory n sound (Loop z) c = absurd (sound.acyclic z c.2)
refused_for_memory n sound NoMemory c = refl
