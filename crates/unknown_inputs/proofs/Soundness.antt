-- The opened netlist is a netlist: it has the netlist's numbers as signals, and reads what the netlist reads.
use Rattle.std.proofs.Common.{◌≡◌, ◌≢◌, ℕ, ◌<◌, Bool, true, List, [], ◌∷◌, ◌++◌, map, length, get_or, refl, sym, ◌∙◌, ap, subst, inl, inr, arith, length-append}
use Rattle.std.specs.List.{All, AllPairs, Contains}
use Rattle.std.proofs.lemmas.Bool.{cases_lt}
use Rattle.std.proofs.lemmas.List.{length-map, get_or-map, get_or_default, append_assoc, map-append}
use Rattle.std.proofs.lemmas.List.Elements.{All-contains, All-map, All-get_or, Contains-append_cases, Contains-append_left, Contains-append_right}
use Rattle.statement.specs.declared.lines.Line.TheVariants.{Stem, Pin, Out}
use Rattle.statement.specs.Netlists.{Definition, Netlist, gates, signals, name_of, IsName}
use Rattle.statement.specs.Runs.{numbers_from}
use Rattle.netlist.specs.Netlist.{IsLoop, IsAcyclic}
use Rattle.netlist.specs.Gates.{allows_pins}
use Rattle.netlist.specs.Conditions.{IsNumbered, IsClosed, IsWellFormed, IsSound}
use Rattle.netlist.proofs.Lists.{All-from_contains, contains_map, map_map, map_agree}
use Rattle.netlist.proofs.Placed.{signal_below, signal_from}
use Rattle.netlist.proofs.WellFormed.{read_is_signal, names_counted}
use Rattle.scan_insert.proofs.Loopless.{map_contains, only_one}
use Rattle.scan_insert.proofs.Numbers.{numbers_from-append, numbers_from_places}
use Rattle.scan_insert.proofs.Soundness.{pairs_map}
use Rattle.unknown_inputs.specs.Unknowns.{Unknowns, known_part, unknown_part}
use Rattle.unknown_inputs.specs.Opened.{opened_number, reads_itself, definition_by, opened}
use Rattle.unknown_inputs.specs.Laws.{OpenedIsSound, OpenedHasLines, KeepsNames}
use Rattle.unknown_inputs.proofs.KnownParts.{parts_length, known_part-map, known_member, unknown_member}
use Rattle.unknown_inputs.proofs.Numbers.{opened_one_to_one, number_past, number_low, input_is, known_renumbered, unknown_renumbered, definition_stays}
use Rattle.unknown_inputs.proofs.Moved.{gates_by}

ids_themselves : (xs : List ℕ) → map (λ (d : Definition). d.id) (map reads_itself xs) ≡ xs
ids_themselves [] = refl
ids_themselves (x ∷ xs) = ap (λ r. x ∷ r) (ids_themselves xs)

-- what differs once renumbered differed before
pairs_back : (r : ℕ → ℕ) (xs : List ℕ) → AllPairs (λ x y. x ≢ y) (map r xs) → AllPairs (λ x y. x ≢ y) xs
pairs_back r xs h i j d l m e =
    let size : length (map r xs) ≡ length xs = length-map xs r in
    h i j 0 l (omega arith) (get_or-map r xs i d 0 (omega arith) ∙ (ap r e ∙ sym (get_or-map r xs j d 0 m)))

places_differ : (xs : List ℕ) → ((k : ℕ) → k < length xs → get_or xs k 0 ≡ k) → AllPairs (λ x y. x ≢ y) xs
places_differ xs h i j d l m e =
    let a : get_or xs i d ≡ i = get_or_default xs i d 0 (omega arith) ∙ h i (omega arith) in
    let b : get_or xs j d ≡ j = get_or_default xs j d 0 m ∙ h j m in
    omega arith

module _ (n : Netlist) (unknown : Unknowns) (numbered : IsNumbered n) where
  -- the inputs, the known ones first
  abbrev ins : List ℕ
  ins = known_part unknown n.inputs ++ unknown_part unknown n.inputs

  abbrev ids : List ℕ
  ids = map (λ (d : Definition). d.id) n.definitions

  ins_renumbered : map (opened_number n unknown) ins ≡ n.inputs
  ins_renumbered =
      let a = length (known_part unknown n.inputs) in
      let b = length (unknown_part unknown n.inputs) in
      let r = opened_number n unknown in
      map-append r (known_part unknown n.inputs) (unknown_part unknown n.inputs)
      ∙ (ap (λ xs. xs ++ map r (unknown_part unknown n.inputs)) (known_renumbered n unknown numbered)
      ∙ (ap (λ xs. numbers_from 0 a ++ xs) (unknown_renumbered n unknown numbered)
      ∙ (numbers_from-append 0 a a b (omega arith)
      ∙ (ap (numbers_from 0) (parts_length unknown n.inputs)
      ∙ sym (numbers_from_places n.inputs (input_is n unknown numbered))))))

  ids_renumbered : map (opened_number n unknown) ids ≡ ids
  ids_renumbered =
      let r = opened_number n unknown in
      map_map (λ (d : Definition). d.id) r n.definitions
      ∙ map_agree (λ (d : Definition). r d.id) (λ (d : Definition). d.id) n.definitions
      (All-from_contains (λ (d : Definition). r d.id ≡ d.id) n.definitions (definition_stays n unknown numbered))

  -- it has the same numbers as signals
  pub signals_opened : signals (opened n unknown) ≡ signals n
  signals_opened =
      let r = opened_number n unknown in
      let id : Definition → ℕ = λ d. d.id in
      let ks = known_part unknown n.inputs in
      let us = unknown_part unknown n.inputs in
      let behind : map id (opened n unknown).definitions ≡ map r us ++ ids =
      map-append id (map reads_itself (map r us)) (map (definition_by r) n.definitions)
      ∙ (ap (λ xs. xs ++ map id (map (definition_by r) n.definitions)) (ids_themselves (map r us))
      ∙ ap (λ xs. map r us ++ xs) (map_map (definition_by r) id n.definitions ∙ (sym (map_map id r n.definitions) ∙ ids_renumbered))) in
      ap (λ xs. map r ks ++ xs) behind
      ∙ (sym (append_assoc (map r ks) (map r us) ids)
      ∙ ap (λ xs. xs ++ ids) (sym (map-append r ks us) ∙ ins_renumbered))

  pub opened_numbered : IsNumbered (opened n unknown)
  opened_numbered = subst (λ (xs : List ℕ). (k : ℕ) → k < length xs → get_or xs k 0 ≡ k) (sym signals_opened) numbered

  -- a signal stands there by its new number
  signal_moves : (x : ℕ) → Contains (signals n) x → Contains (signals n) (opened_number n unknown x)
  signal_moves x c = elim (cases_lt x (length n.inputs)) [
    | inl low ↦
        let l = number_low n unknown x low in
        let size = length-append n.inputs ids in
        signal_from n numbered (opened_number n unknown x) (omega arith)
    | inr high ↦ subst (Contains (signals n)) (sym (number_past n unknown x high)) c
  ]

  pub moved_there : (x : ℕ) → Contains (signals n) x → Contains (signals (opened n unknown)) (opened_number n unknown x)
  moved_there x c = subst (λ (xs : List ℕ). Contains xs (opened_number n unknown x)) (sym signals_opened) (signal_moves x c)

  module _ (closed : IsClosed n) where
    -- a definition of the opened netlist reads itself, or is one of the netlist's
    IsFine : Definition → Type 0
    IsFine d = ((x : ℕ) → Contains d.pins x → Contains (signals (opened n unknown)) x) × (allows_pins d.kind (length d.pins) ≡ true)

    itself_fine : (y : ℕ) → Contains (unknown_part unknown n.inputs) y → IsFine (reads_itself (opened_number n unknown y))
    unfolding IsFine
    itself_fine y c = (
      (λ x p. subst (Contains (signals (opened n unknown))) (only_one (opened_number n unknown y) x p)
          (moved_there y (Contains-append_left n.inputs ids y (unknown_member unknown n.inputs y c)))),
      refl,
    )

    moved_fine : (d : Definition) → Contains n.definitions d → IsFine (definition_by (opened_number n unknown) d)
    unfolding IsFine
    moved_fine d c = (
      (λ x p.
          let m = contains_map (opened_number n unknown) d.pins x p in
          subst (Contains (signals (opened n unknown))) m.2
          (moved_there m.0 (All-contains (Contains (signals n)) d.pins m.0 (All-contains (λ (e : Definition). All (Contains (signals n)) e.pins) n.definitions d closed.pins c) m.1))),
      ap (allows_pins d.kind) (length-map d.pins (opened_number n unknown))
          ∙ All-contains (λ (e : Definition). allows_pins e.kind (length e.pins) ≡ true) n.definitions d closed.allowed c,
    )

    fine : (d : Definition) → Contains (opened n unknown).definitions d → IsFine d
    fine d c =
        let r = opened_number n unknown in
        let us = unknown_part unknown n.inputs in
        elim (Contains-append_cases (map reads_itself (map r us)) (map (definition_by r) n.definitions) d c) [
          | inl i ↦
              let m = contains_map reads_itself (map r us) d i in
              let w = contains_map r us m.0 m.1 in
              subst IsFine (ap reads_itself w.2 ∙ m.2) (itself_fine w.0 w.1)
          | inr i ↦ let m = contains_map (definition_by r) n.definitions d i in subst IsFine m.2 (moved_fine m.0 m.1)
        ]

    pub opened_closed : IsClosed (opened n unknown)
    unfolding IsFine
    opened_closed = record {
      pins = All-from_contains (λ (d : Definition). All (Contains (signals (opened n unknown))) d.pins) (opened n unknown).definitions
          (λ d c. All-from_contains (Contains (signals (opened n unknown))) d.pins (fine d c).0);
      outputs = All-from_contains (Contains (signals (opened n unknown))) (opened n unknown).outputs
          (λ x c.
          let m = contains_map (opened_number n unknown) n.outputs x c in
          subst (Contains (signals (opened n unknown))) m.2 (moved_there m.0 (All-contains (Contains (signals n)) n.outputs m.0 closed.outputs m.1)));
      allowed = All-from_contains (λ (d : Definition). allows_pins d.kind (length d.pins) ≡ true) (opened n unknown).definitions (λ d c. (fine d c).1);
    }

-- ---- no loop

module _ (n : Netlist) (unknown : Unknowns) (set : ℕ → Bool) (loop : IsLoop (opened n unknown) set) where
  -- a gate of the opened netlist is a gate of the netlist
  gate_back : (d : Definition) → Contains (gates (opened n unknown)) d → (e : Definition) × Contains (gates n) e × (definition_by (opened_number n unknown) e ≡ d)
  gate_back d c =
      let r = opened_number n unknown in
      contains_map (definition_by r) (gates n) d
      (subst (λ (ds : List Definition). Contains ds d) (gates_by r (map r (unknown_part unknown n.inputs)) n.definitions) c)

  loop_back : IsLoop n (λ x. set (opened_number n unknown x))
  loop_back z h =
      let r = opened_number n unknown in
      let w = loop (r z) h in
      let g = gate_back w.1.0 w.1.1 in
      let same : g.0.id ≡ z = opened_one_to_one n unknown g.0.id z (ap (λ (d : Definition). d.id) g.2 ∙ w.1.2) in
      let p = contains_map r g.0.pins w.0 (subst (λ (d : Definition). Contains d.pins w.0) (sym g.2) w.1.3) in
      (p.0, (g.0, g.1, same, p.1), ap set p.2 ∙ w.2)

  no_member : IsAcyclic n → (z : ℕ) → set z ≡ true → ⊥
  no_member acyclic z h =
      let w = loop z h in
      let g = gate_back w.1.0 w.1.1 in
      let is : opened_number n unknown g.0.id ≡ z = ap (λ (d : Definition). d.id) g.2 ∙ w.1.2 in
      acyclic g.0.id ((λ x. set (opened_number n unknown x)), loop_back, ap set is ∙ h)

pub opened_acyclic : (n : Netlist) (unknown : Unknowns) → IsAcyclic n → IsAcyclic (opened n unknown)
opened_acyclic n unknown acyclic z w = no_member n unknown w.0 w.1 acyclic z w.2

-- ---- names

module _ (n : Netlist) (unknown : Unknowns) (sound : IsSound n) where
  -- the signals in their new order
  abbrev order : List ℕ
  order = ins n unknown sound.formed.numbered ++ ids n unknown sound.formed.numbered

  names_in_order : (opened n unknown).names ≡ map (name_of n) order
  names_in_order =
      let id : Definition → ℕ = λ d. d.id in
      let ks = known_part unknown n.inputs in
      let us = unknown_part unknown n.inputs in
      ap (λ xs. map (name_of n) ks ++ map (name_of n) us ++ xs) (sym (map_map id (name_of n) n.definitions))
      ∙ (ap (λ xs. xs ++ map (name_of n) (map id n.definitions)) (sym (map-append (name_of n) ks us))
      ∙ sym (map-append (name_of n) (ks ++ us) (map id n.definitions)))

  order_renumbered : map (opened_number n unknown) order ≡ signals n
  order_renumbered =
      let r = opened_number n unknown in
      let id : Definition → ℕ = λ d. d.id in
      map-append r (known_part unknown n.inputs ++ unknown_part unknown n.inputs) (map id n.definitions)
      ∙ (ap (λ xs. xs ++ map r (map id n.definitions)) (ins_renumbered n unknown sound.formed.numbered)
      ∙ ap (λ xs. n.inputs ++ xs) (ids_renumbered n unknown sound.formed.numbered))

  order_differs : AllPairs (λ x y. x ≢ y) order
  order_differs =
      pairs_back (opened_number n unknown) order
      (subst (λ (xs : List ℕ). AllPairs (λ x y. x ≢ y) xs) (sym order_renumbered) (places_differ (signals n) sound.formed.numbered))

  order_is_of_signals : (x : ℕ) → Contains order x → Contains (signals n) x
  order_is_of_signals x c =
      let ks = known_part unknown n.inputs in
      let us = unknown_part unknown n.inputs in
      let names : List ℕ = map (λ (d : Definition). d.id) n.definitions in
      elim (Contains-append_cases (ks ++ us) names x c) [
        | inl i ↦ Contains-append_left n.inputs names x (elim (Contains-append_cases ks us x i) [
          | inl k ↦ known_member unknown n.inputs x k
          | inr u ↦ unknown_member unknown n.inputs x u
        ])
        | inr i ↦ Contains-append_right n.inputs names x i
      ]

  named_below : (x : ℕ) → Contains (signals n) x → x < length n.names
  named_below x c = let l = signal_below n sound.formed.numbered x c in let e = names_counted n sound in omega arith

  names_apart : (x y : ℕ) → x < y → y < length n.names → name_of n x ≡ name_of n y → ⊥
  names_apart x y l m e = sound.formed.distinct x y [] l m e

  same_named : (x y : ℕ) → Contains order x → Contains order y → name_of n x ≡ name_of n y → x ≡ y
  same_named x y c d e =
      let l = named_below x (order_is_of_signals x c) in
      let m = named_below y (order_is_of_signals y d) in
      elim (cases_lt x y) [
        | inl less ↦ absurd (names_apart x y less m e)
        | inr more ↦ elim (cases_lt y x) [
          | inl less ↦ absurd (names_apart y x less l (sym e))
          | inr same ↦ omega arith
        ]
      ]

  names_opened : All IsName (opened n unknown).names
  names_opened = subst (λ (xs : List (List ℕ)). All IsName xs) (sym names_in_order)
      (All-map IsName (name_of n) order (All-from_contains (λ x. IsName (name_of n x)) order
      (λ x c. All-get_or IsName n.names x [] (named_below x (order_is_of_signals x c)) sound.formed.names)))

  names_differ : AllPairs (λ x y. x ≢ y) (opened n unknown).names
  names_differ = subst (λ (xs : List (List ℕ)). AllPairs (λ x y. x ≢ y) xs) (sym names_in_order) (pairs_map (name_of n) order 0 order_differs same_named)

  names_count : length (opened n unknown).names ≡ length (signals (opened n unknown))
  names_count =
      ap length names_in_order
      ∙ (length-map order (name_of n)
      ∙ (sym (length-map order (opened_number n unknown))
      ∙ (ap length order_renumbered ∙ ap length (sym (signals_opened n unknown sound.formed.numbered)))))

  opened_formed : IsWellFormed (opened n unknown)
  opened_formed =
      let numbered = opened_numbered n unknown sound.formed.numbered in
      let closed = opened_closed n unknown sound.formed.numbered sound.closed in
      let count = names_count in
      record {
        numbered = numbered;
        named = λ x c. let l = signal_below (opened n unknown) numbered x c in omega arith;
        read_named = λ x r. let l = signal_below (opened n unknown) numbered x (read_is_signal (opened n unknown) closed x r) in omega arith;
        used = λ x l. inl (signal_from (opened n unknown) numbered x (omega arith));
        names = names_opened;
        distinct = names_differ;
        once = pairs_map (opened_number n unknown) n.outputs 0 sound.formed.once (λ x y c d e. opened_one_to_one n unknown x y e);
        allowed = closed.allowed;
      }

  pub opened_sound : 0 < length (known_part unknown n.inputs) → IsSound (opened n unknown)
  opened_sound some =
      let size = ap length (signals_opened n unknown sound.formed.numbered) in
      let small = sound.sized.small in
      let output = sound.sized.output in
      record {
        formed = opened_formed;
        sized = record {
          small = omega arith;
          input = omega (arith, length-map (known_part unknown n.inputs) (opened_number n unknown));
          output = omega (arith, length-map n.outputs (opened_number n unknown));
        };
        closed = opened_closed n unknown sound.formed.numbered sound.closed;
        acyclic = opened_acyclic n unknown sound.acyclic;
      }

  -- at its new number stands the signal itself
  order_at : (x : ℕ) → Contains (signals n) x → get_or order (opened_number n unknown x) 0 ≡ x
  order_at x c =
      let r = opened_number n unknown in
      let low = signal_below n sound.formed.numbered (r x) (signal_moves n unknown sound.formed.numbered x c) in
      let size : length order ≡ length (signals n) = sym (length-map order r) ∙ ap length order_renumbered in
      opened_one_to_one n unknown (get_or order (r x) 0) x
      (sym (get_or-map r order (r x) 0 0 (omega arith)) ∙ (ap (λ (xs : List ℕ). get_or xs (r x) 0) order_renumbered ∙ sound.formed.numbered (r x) low))

  name_moves : (x : ℕ) → Contains (signals n) x → name_of (opened n unknown) (opened_number n unknown x) ≡ name_of n x
  name_moves x c =
      let r = opened_number n unknown in
      let low = signal_below n sound.formed.numbered (r x) (signal_moves n unknown sound.formed.numbered x c) in
      let size : length order ≡ length (signals n) = sym (length-map order r) ∙ ap length order_renumbered in
      ap (λ (xs : List (List ℕ)). get_or xs (r x) []) names_in_order
      ∙ (get_or-map (name_of n) order (r x) 0 [] (omega arith) ∙ ap (name_of n) (order_at x c))

  names_move : (xs : List ℕ) → ((x : ℕ) → Contains xs x → Contains (signals n) x) → map (name_of (opened n unknown)) (map (opened_number n unknown) xs) ≡ map (name_of n) xs
  names_move xs h =
      map_map (opened_number n unknown) (name_of (opened n unknown)) xs
      ∙ map_agree (λ x. name_of (opened n unknown) (opened_number n unknown x)) (name_of n) xs
      (All-from_contains (λ x. name_of (opened n unknown) (opened_number n unknown x) ≡ name_of n x) xs (λ x c. name_moves x (h x c)))

  pub keeps_names : KeepsNames n unknown
  keeps_names = record {
    signals = name_moves;
    inputs = names_move (known_part unknown n.inputs)
        (λ x c. Contains-append_left n.inputs (map (λ (d : Definition). d.id) n.definitions) x (known_member unknown n.inputs x c))
        ∙ sym (known_part-map (name_of n) unknown n.inputs);
    outputs = names_move n.outputs (λ x c. All-contains (Contains (signals n)) n.outputs x sound.closed.outputs c);
  }

pub opened_is_sound : OpenedIsSound
opened_is_sound n unknown sound some = opened_sound n unknown sound some

pub opened_has_lines : OpenedHasLines
opened_has_lines n unknown (Stem x) sound v = moved_there n unknown sound.formed.numbered x v
opened_has_lines n unknown (Out x) sound v = map_contains (opened_number n unknown) n.outputs x v
opened_has_lines n unknown (Pin z k) sound v =
    let r = opened_number n unknown in
    let us = unknown_part unknown n.inputs in
    let l : k < length v.0.pins = v.3 in (
      definition_by r v.0,
      Contains-append_right (map reads_itself (map r us)) (map (definition_by r) n.definitions) (definition_by r v.0) (map_contains (definition_by r) n.definitions v.0 v.1),
      ap r v.2,
      omega (arith, length-map v.0.pins r),
    )
