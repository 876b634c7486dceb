-- The netlist of a batch is well-formed.
use Rattle.std.proofs.Common.{◌≡◌, ◌≢◌, ℕ, zero, suc, ◌+◌, ◌*◌, ◌-◌, ◌<◌, ◌≤◌, Bool, true, false, cond, List, [], ◌∷◌, ◌++◌, map, length, get_or, refl, sym, ◌∙◌, ap, subst, inl, inr, arith, length-append}
use Rattle.std.specs.Fmt.{decimal}
use Rattle.std.specs.List.{All, AllPairs, Contains, slice_get}
use Rattle.std.proofs.lemmas.Bool.{cases_lt}
use Rattle.std.proofs.lemmas.List.{map-append, length-map, get_or-map, get_or_append_left, get_or-append_right, append_assoc}
use Rattle.std.proofs.lemmas.List.FromFn.{length-map-range_with_len}
use Rattle.std.proofs.lemmas.List.Elements.{All-nil, All-cons, All-head, All-tail, All-append, All-map, All-contains, All-weaker, Contains-get_or}
use Rattle.std.proofs.lemmas.Option.{same_Some, slice_get_within}
use Rattle.statement.specs.declared.kinds.Kind.TheVariants.{And, Or, Buff, Const0, Const1}
use Rattle.statement.specs.declared.lines.Line.{Line}
use Rattle.statement.specs.declared.lines.Line.TheVariants.{Pin, Out}
use Rattle.statement.specs.declared.lines.Fault.{Fault}
use Rattle.netlist.specs.Lines.{IsLineOf}
use Rattle.netlist.specs.Gates.{allows_pins}
use Rattle.statement.specs.Netlists.{Definition, Netlist, is_cell, cells, signals}
use Rattle.netlist.specs.Netlist.{define}
use Rattle.netlist.specs.Conditions.{IsNumbered, HasReader, IsSound, IsWellFormed}
use Rattle.netlist.proofs.Lists.{contains_map, map_map, map_agree, filter_contains, All-from_contains}
use Rattle.netlist.proofs.Placed.{id_at, signal_below, signal_from, signals_length}
use Rattle.netlist.proofs.Settling.{pins_within}
use Rattle.netlist.proofs.WellFormed.{one_pin}
use Rattle.net_gen.specs.Samples.{lettered_names}
use Rattle.net_gen.proofs.SoundLemmas.{all_named, names_distinct}
use Rattle.transition_frames.specs.Frames.{source_of, second, tie}
use Rattle.transition_frames.proofs.Framed.{second_input, second_above, second_below, first_below}
use Rattle.transition_frames.proofs.Making.{source_low}
use Rattle.transition_frames.proofs.Sources.{source_at_out}
use Rattle.transition_batches.specs.Batches.{tie_at, hold_at, late_at, read_late, late_pins, in_first_of, in_second_of, gates_at, all_gates, batch_of}
use Rattle.transition_batches.proofs.Places.{first_of_id}
use Rattle.transition_batches.proofs.LateReads.{late_source, late_cases}

abbrev second_numbers : Netlist → List ℕ
second_numbers n = map (λ (d : Definition). d.id + length n.definitions) n.definitions

abbrev gate_numbers : Netlist → List Fault → List ℕ
gate_numbers n fs = map (λ (d : Definition). d.id) (all_gates n 0 fs)

second_number : (n : Netlist) (fs : List Fault) (d : Definition) → (in_second_of n fs d).id ≡ d.id + length n.definitions
second_number n fs d =
    let m = length n.definitions in
    let step : (b : Bool) → (cond b (define (d.id + m) Buff d.pins) (define (d.id + m) d.kind (late_pins n fs d.id 0 d.pins))).id ≡ d.id + m = elim [ true ↦ refl | false ↦ refl ] in
    step (is_cell d)

signals_batched : (n : Netlist) (fs : List Fault) → signals (batch_of n fs) ≡ signals n ++ second_numbers n ++ gate_numbers n fs
signals_batched n fs =
    let id : Definition → ℕ = λ d. d.id in
    let ones = map (in_first_of n fs) n.definitions in
    let twos = map (in_second_of n fs) n.definitions in
    let ids : List ℕ = map id n.definitions in
    let last : List ℕ = gate_numbers n fs in
    let first : map id ones ≡ ids = map_map (in_first_of n fs) id n.definitions ∙ map_agree (λ (d : Definition). (in_first_of n fs d).id) id n.definitions
    (All-from_contains (λ (d : Definition). (in_first_of n fs d).id ≡ d.id) n.definitions (λ d c. first_of_id n fs d)) in
    let again : map id twos ≡ second_numbers n =
    map_map (in_second_of n fs) id n.definitions ∙ map_agree (λ (d : Definition). (in_second_of n fs d).id) (λ (d : Definition). d.id + length n.definitions) n.definitions
    (All-from_contains (λ (d : Definition). (in_second_of n fs d).id ≡ d.id + length n.definitions) n.definitions (λ d c. second_number n fs d)) in
    let whole : map id (ones ++ twos ++ all_gates n 0 fs) ≡ ids ++ second_numbers n ++ last =
    map-append id (ones ++ twos) (all_gates n 0 fs)
    ∙ (ap (λ r. r ++ last) (map-append id ones twos)
    ∙ (ap (λ r. r ++ map id twos ++ last) first ∙ ap (λ r. ids ++ r ++ last) again)) in
    ap (λ r. n.inputs ++ r) whole
    ∙ (sym (append_assoc n.inputs (ids ++ second_numbers n) last)
    ∙ ap (λ r. r ++ last) (sym (append_assoc n.inputs ids (second_numbers n))))

-- ---- three numbers for each slow line

gate_count : (n : Netlist) (j : ℕ) (fs : List Fault) → length (map (λ (d : Definition). d.id) (all_gates n j fs)) ≡ 3 * length fs
gate_count n j [] = refl
gate_count n j (f ∷ fs) = let rest = gate_count n (j + 1) fs in omega arith

gate_number : (n : Netlist) (j : ℕ) (fs : List Fault) (k : ℕ) → k < 3 * length fs → get_or (map (λ (d : Definition). d.id) (all_gates n j fs)) k 0 ≡ tie_at n j + k
gate_number n j [] k l = absurd (omega (arith, l))
gate_number n j (f ∷ fs) zero l = omega arith
gate_number n j (f ∷ fs) (suc zero) l = omega arith
gate_number n j (f ∷ fs) (suc (suc zero)) l = omega arith
gate_number n j (f ∷ fs) (suc (suc (suc k))) l = gate_number n (j + 1) fs k (omega (arith, l)) ∙ omega arith

batch_count : (n : Netlist) (fs : List Fault) → length (signals (batch_of n fs)) ≡ tie n + 3 * length fs
batch_count n fs =
    let e = ap length (signals_batched n fs) in
    let s = signals_length n in
    let m : length (second_numbers n) ≡ length n.definitions = length-map n.definitions (λ (d : Definition). d.id + length n.definitions) in
    let g = gate_count n 0 fs in
    e ∙ (length-append (signals n ++ second_numbers n) (gate_numbers n fs) ∙ omega (arith, length-append (signals n) (second_numbers n)))

second_at : (n : Netlist) → IsNumbered n → (j : ℕ) → j < length n.definitions → get_or (second_numbers n) j 0 ≡ length n.inputs + j + length n.definitions
second_at n numbered j l =
    let d : Definition = define 0 Buff [] in
    get_or-map (λ (e : Definition). e.id + length n.definitions) n.definitions j d 0 l
    ∙ ap (λ x. x + length n.definitions) (id_at n numbered j d l)

batch_numbered : (n : Netlist) → IsNumbered n → (fs : List Fault) → IsNumbered (batch_of n fs)
batch_numbered n numbered fs k l =
    let size = signals_length n in
    let m : length (second_numbers n) ≡ length n.definitions = length-map n.definitions (λ (d : Definition). d.id + length n.definitions) in
    let both : length (signals n ++ second_numbers n) ≡ length (signals n) + length (second_numbers n) = length-append (signals n) (second_numbers n) in
    let few : k < tie n + 3 * length fs = omega (arith, batch_count n fs) in
    ap (λ (xs : List ℕ). get_or xs k 0) (signals_batched n fs)
    ∙ elim (cases_lt k (length (signals n ++ second_numbers n))) [
      | inl low ↦ get_or_append_left (signals n ++ second_numbers n) (gate_numbers n fs) 0 k low ∙ elim (cases_lt k (length (signals n))) [
        | inl own ↦ get_or_append_left (signals n) (second_numbers n) 0 k own ∙ numbered k own
        | inr more ↦ get_or-append_right (signals n) (second_numbers n) (length (signals n)) k 0 refl more
            ∙ (second_at n numbered (k - length (signals n)) (omega arith) ∙ omega arith)
      ]
      | inr high ↦ get_or-append_right (signals n ++ second_numbers n) (gate_numbers n fs) (length (signals n ++ second_numbers n)) k 0 refl high
          ∙ (gate_number n 0 fs (k - length (signals n ++ second_numbers n)) (omega arith) ∙ omega arith)
    ]

-- ---- definitions

-- what it reads is below the bound, and it has pins as its kind allows
record IsFine (bound : ℕ) (d : Definition) : Type 0 where
  pins : All (λ x. x < bound) d.pins
  allowed : allows_pins d.kind (length d.pins) ≡ true

late_below : (n : Netlist) (fs : List Fault) (line : Line) (x : ℕ) → x < length (signals n) → read_late n 0 fs line x < tie n + 3 * length fs
late_below n fs line x low = elim (late_cases n 0 fs line x) [
  | inl w ↦ let e = w.0 in let l = second_below n x low in omega arith
  | inr w ↦ let e = w.4 in let l = slice_get_within fs w.0 w.1 w.2 in omega arith
]

late_pins_count : (n : Netlist) (fs : List Fault) (z k : ℕ) (xs : List ℕ) → length (late_pins n fs z k xs) ≡ length xs
late_pins_count n fs z k [] = refl
late_pins_count n fs z k (x ∷ xs) = ap suc (late_pins_count n fs z (k + 1) xs)

late_pins_below : (n : Netlist) (fs : List Fault) (z k : ℕ) (xs : List ℕ) → All (λ x. x < length (signals n)) xs → All (λ x. x < tie n + 3 * length fs) (late_pins n fs z k xs)
late_pins_below n fs z k [] h = All-nil (λ x. x < tie n + 3 * length fs)
late_pins_below n fs z k (x ∷ xs) h =
    All-cons (λ y. y < tie n + 3 * length fs) (read_late n 0 fs (Pin z k) x) (late_pins n fs z (k + 1) xs)
    (late_below n fs (Pin z k) x (All-head (λ y. y < length (signals n)) x xs h))
    (late_pins_below n fs z (k + 1) xs (All-tail (λ y. y < length (signals n)) x xs h))

gate_fine : (n : Netlist) (bound j : ℕ) (f : Fault) → source_of n f.line < length (signals n) → late_at n j < bound → All (IsFine bound) (gates_at n j f)
gate_fine n bound j f low within =
    let x = source_of n f.line in
    let below : (y : ℕ) → y < bound → (ys : List ℕ) → All (λ z. z < bound) ys → All (λ z. z < bound) (y ∷ ys) = λ y l ys h. All-cons (λ z. z < bound) y ys l h in
    let none : All (λ z. z < bound) [] = All-nil (λ z. z < bound) in
    let own = first_below n x low in
    let again = second_below n x low in
    let ties : (v : Bool) → allows_pins (cond v Const0 Const1) 0 ≡ true = elim [ true ↦ refl | false ↦ refl ] in
    let keeps : (v : Bool) → allows_pins (cond v And Or) 2 ≡ true = elim [ true ↦ refl | false ↦ refl ] in
    let lags : (v : Bool) → allows_pins (cond v Or And) 2 ≡ true = elim [ true ↦ refl | false ↦ refl ] in
    let a : Definition = define (tie_at n j) (cond f.value Const0 Const1) [] in
    let b : Definition = define (hold_at n j) (cond f.value And Or) (x ∷ tie_at n j ∷ []) in
    let c : Definition = define (late_at n j) (cond f.value Or And) (second n x ∷ hold_at n j ∷ []) in
    All-cons (IsFine bound) a (b ∷ c ∷ []) (record { pins = none; allowed = ties f.value })
    (All-cons (IsFine bound) b (c ∷ []) (record { pins = below x (omega arith) (tie_at n j ∷ []) (below (tie_at n j) (omega arith) [] none); allowed = keeps f.value })
    (All-cons (IsFine bound) c [] (record { pins = below (second n x) (omega arith) (hold_at n j ∷ []) (below (hold_at n j) (omega arith) [] none); allowed = lags f.value })
    (All-nil (IsFine bound))))

gates_fine : (n : Netlist) → IsSound n → (bound j : ℕ) (fs : List Fault) → All (λ (f : Fault). IsLineOf n f.line) fs → tie n + 3 * (j + length fs) ≤ bound
    → All (IsFine bound) (all_gates n j fs)
gates_fine n sound bound j [] lines l = All-nil (IsFine bound)
gates_fine n sound bound j (f ∷ fs) lines l =
    All-append (IsFine bound) (gates_at n j f) (all_gates n (j + 1) fs)
    (gate_fine n bound j f (source_low n sound f (All-head (λ (g : Fault). IsLineOf n g.line) f fs lines) (source_of n f.line) refl) (omega arith))
    (gates_fine n sound bound (j + 1) fs (All-tail (λ (g : Fault). IsLineOf n g.line) f fs lines) (omega arith))

module _ (n : Netlist) (sound : IsSound n) (fs : List Fault) (lines : All (λ (f : Fault). IsLineOf n f.line) fs) where
  abbrev bound : ℕ
  bound = tie n + 3 * length fs

  own_below : (d : Definition) → Contains n.definitions d → All (λ x. x < length (signals n)) d.pins
  own_below d c = pins_within n sound.formed.numbered sound.closed d c d.pins (length (signals n)) refl refl

  own_pins : (d : Definition) → Contains n.definitions d → All (λ x. x < bound) d.pins
  own_pins d c = All-weaker (λ x. x < length (signals n)) (λ x. x < bound) (λ x l. let k = first_below n x l in omega arith) d.pins (own_below d c)

  own_allowed : (d : Definition) → Contains n.definitions d → allows_pins d.kind (length d.pins) ≡ true
  own_allowed d c = All-contains (λ (r : Definition). allows_pins r.kind (length r.pins) ≡ true) n.definitions d sound.closed.allowed c

  again_fine : (id : ℕ) (d : Definition) → Contains n.definitions d → IsFine bound (define id d.kind (late_pins n fs d.id 0 d.pins))
  again_fine id d c = record {
    pins = late_pins_below n fs d.id 0 d.pins (own_below d c);
    allowed = ap (allows_pins d.kind) (late_pins_count n fs d.id 0 d.pins) ∙ own_allowed d c;
  }

  first_fine : (d : Definition) → Contains n.definitions d → IsFine bound (in_first_of n fs d)
  first_fine d c =
      let step : (b : Bool) → IsFine bound (cond b (define d.id d.kind (late_pins n fs d.id 0 d.pins)) d) =
      elim [ true ↦ again_fine d.id d c | false ↦ record { pins = own_pins d c; allowed = own_allowed d c } ] in
      step (is_cell d)

  second_fine : (d : Definition) → Contains n.definitions d → IsFine bound (in_second_of n fs d)
  second_fine d c =
      let z : ℕ = d.id + length n.definitions in
      let held : is_cell d ≡ true → IsFine bound (define z Buff d.pins) = λ y. record {
        pins = own_pins d c;
        allowed = ap (allows_pins Buff) (All-contains (λ (r : Definition). length r.pins ≡ 1) (cells n) d (one_pin n sound.closed) (filter_contains is_cell n.definitions d c y));
      } in
      let step : (b : Bool) → is_cell d ≡ b → IsFine bound (cond b (define z Buff d.pins) (define z d.kind (late_pins n fs d.id 0 d.pins))) =
      elim [ true ↦ held | false ↦ λ e. again_fine z d c ] in
      step (is_cell d) refl

  all_fine : All (IsFine bound) (batch_of n fs).definitions
  all_fine =
      let ones = map (in_first_of n fs) n.definitions in
      let twos = map (in_second_of n fs) n.definitions in
      All-append (IsFine bound) (ones ++ twos) (all_gates n 0 fs)
      (All-append (IsFine bound) ones twos
      (All-map (IsFine bound) (in_first_of n fs) n.definitions (All-from_contains (λ (d : Definition). IsFine bound (in_first_of n fs d)) n.definitions first_fine))
      (All-map (IsFine bound) (in_second_of n fs) n.definitions (All-from_contains (λ (d : Definition). IsFine bound (in_second_of n fs d)) n.definitions second_fine)))
      (gates_fine n sound bound 0 fs lines (omega arith))

  -- ---- outputs

  output_low : (y : ℕ) → Contains n.outputs y → y < length (signals n)
  output_low y c = signal_below n sound.formed.numbered y (All-contains (Contains (signals n)) n.outputs y sound.closed.outputs c)

  output_below : (x : ℕ) → Contains (batch_of n fs).outputs x → x < bound
  output_below x c =
      let m = contains_map (λ y. read_late n 0 fs (Out y) y) n.outputs x c in
      subst (λ y. y < bound) m.2 (late_below n fs (Out m.0) m.0 (output_low m.0 m.1))

  second_injective : (x y : ℕ) → second n x ≡ second n y → x ≡ y
  second_injective x y e = elim (cases_lt x (length n.inputs)) [
    | inl a ↦ elim (cases_lt y (length n.inputs)) [
      | inl b ↦ let s = second_input n x a in let t = second_input n y b in omega arith
      | inr b ↦ let s = second_input n x a in let t = second_above n y b in absurd (omega arith)
    ]
    | inr a ↦ elim (cases_lt y (length n.inputs)) [
      | inl b ↦ let s = second_above n x a in let t = second_input n y b in absurd (omega arith)
      | inr b ↦ let s = second_above n x a in let t = second_above n y b in omega arith
    ]
  ]

  -- late outputs at one place are the slow line's
  outputs_same : (x y : ℕ) → Contains n.outputs x → Contains n.outputs y → read_late n 0 fs (Out x) x ≡ read_late n 0 fs (Out y) y → x ≡ y
  outputs_same x y c k e =
      let lx = second_below n x (output_low x c) in
      let ly = second_below n y (output_low y k) in
      elim (late_cases n 0 fs (Out x) x) [
        | inl w ↦ elim (late_cases n 0 fs (Out y) y) [
          | inl v ↦ second_injective x y (sym w.0 ∙ (e ∙ v.0))
          | inr v ↦ let a = w.0 in let b = v.4 in absurd (omega arith)
        ]
        | inr w ↦ elim (late_cases n 0 fs (Out y) y) [
          | inl v ↦ let a = w.4 in let b = v.0 in absurd (omega arith)
          | inr v ↦
              let a = w.4 in
              let b = v.4 in
              let place : w.0 ≡ v.0 = omega arith in
              let same : w.1 ≡ v.1 = same_Some w.1 v.1 (sym w.2 ∙ (ap (slice_get fs) place ∙ v.2)) in
              sym (late_source n (Out x) x (λ m s. source_at_out n sound.formed.numbered m x s) w.1 w.3)
              ∙ (ap (λ (g : Fault). source_of n g.line) same ∙ late_source n (Out y) y (λ m s. source_at_out n sound.formed.numbered m y s) v.1 v.3)
        ]
      ]

  outputs_differ : AllPairs (λ x y. x ≢ y) (batch_of n fs).outputs
  outputs_differ i j e l m =
      let r : ℕ → ℕ = λ y. read_late n 0 fs (Out y) y in
      let size : length (map r n.outputs) ≡ length n.outputs = length-map n.outputs r in
      let v : i < length n.outputs = omega arith in
      let w : j < length n.outputs = omega arith in
      λ same. sound.formed.once i j 0 l w (outputs_same (get_or n.outputs i 0) (get_or n.outputs j 0) (Contains-get_or n.outputs i 0 v) (Contains-get_or n.outputs j 0 w)
      (sym (get_or-map r n.outputs i 0 e v) ∙ (same ∙ get_or-map r n.outputs j 0 e w)))

  read_below : (x : ℕ) → HasReader (batch_of n fs) x → x < bound
  read_below x r = elim r [
    | inl w ↦ All-contains (λ y. y < bound) w.0.pins x (All-contains (IsFine bound) (batch_of n fs).definitions w.0 all_fine w.1).pins w.2
    | inr c ↦ output_below x c
  ]

  pub batch_formed : length (signals n) ≤ 1000000 → length fs ≤ 1024 → IsWellFormed (batch_of n fs)
  batch_formed small few =
      let size = signals_length n in
      let count = batch_count n fs in
      let numbered = batch_numbered n sound.formed.numbered fs in
      let names : length (lettered_names 110 bound) ≡ bound = length-map-range_with_len (λ j. 110 ∷ decimal j) 0 bound in
      record {
        numbered = numbered;
        named = λ x c. let l = signal_below (batch_of n fs) numbered x c in omega arith;
        read_named = λ x r. let l = read_below x r in omega arith;
        used = λ x l. inl (signal_from (batch_of n fs) numbered x (omega arith));
        names = all_named 110 bound refl (omega arith);
        distinct = names_distinct 110 bound (omega arith);
        once = outputs_differ;
        allowed = All-weaker (IsFine bound) (λ (d : Definition). allows_pins d.kind (length d.pins) ≡ true) (λ d h. h.allowed) (batch_of n fs).definitions all_fine;
      }
