-- Observed points by number, and what stands at each.
use Rattle.std.proofs.Common.{◌≡◌, ℕ, suc, zero, ◌+◌, ◌-◌, ◌<◌, ◌≤◌, ◌⊎◌, Bool, false, cond, ltb, List, [], ◌∷◌, ◌++◌, map, length, get_or, Some, None, refl, sym, ◌∙◌, ap, subst, inl, inr, arith, length-append}
use Rattle.std.specs.List.{All, Contains, flat_map, slice_get}
use Rattle.std.proofs.lemmas.Bool.{cases_lt, lt-ltb, ltb-true, false_from_ne_true}
use Rattle.std.proofs.lemmas.List.{get_or_append_left, get_or-append_right, get_or-map, length-map}
use Rattle.std.proofs.lemmas.List.Elements.{All-contains, Contains-get_or}
use Rattle.std.proofs.lemmas.Option.{slice_get-get_or}
use Rattle.statement.specs.declared.kinds.Kind.TheVariants.{Dff}
use Rattle.statement.specs.declared.lines.Line.{Line}
use Rattle.statement.specs.declared.lines.Line.TheVariants.{Pin, Out}
use Rattle.statement.specs.declared.lines.Point.{Point}
use Rattle.statement.specs.declared.lines.Point.TheVariants.{Output, Cell}
use Rattle.netlist.specs.Conditions.{IsSound}
use Rattle.statement.specs.Patterns.{observed}
use Rattle.statement.specs.Netlists.{Definition, Netlist, is_cell, cells, signals}
use Rattle.statement.specs.Values.{Rule, on_pins, pins_of, outs}
use Rattle.netlist.proofs.Lists.{contains_filter, contains_head, contains_tail}
use Rattle.netlist.proofs.WellFormed.{one_pin}
use Rattle.observed_points.specs.Points.{output_point, cell_point, points, watched, point_of}

-- the next state, a value for each cell
single : {V : Type 0} (rule : Rule V) (a : ℕ → V) (z : ℕ) (pins : List ℕ) → length pins ≡ 1 → on_pins rule z 0 (map a pins) ≡ rule.line (Pin z 0) (a (get_or pins 0 0)) ∷ []
single rule a z [] l = absurd (omega (arith, l))
single rule a z (x ∷ []) l = refl
single rule a z (x ∷ y ∷ ys) l = absurd (omega (arith, l))

pub next_map : {V : Type 0} (rule : Rule V) (a : ℕ → V) (ds : List Definition) → ((d : Definition) → Contains ds d → length d.pins ≡ 1)
    → flat_map (pins_of rule a) ds ≡ map (λ (d : Definition). rule.line (Pin d.id 0) (a (get_or d.pins 0 0))) ds
next_map rule a [] h = refl
next_map rule a (d ∷ ds) h =
    ap (λ vs. vs ++ flat_map (pins_of rule a) ds) (single rule a d.id d.pins (h d (contains_head d ds)))
    ∙ ap (λ vs. rule.line (Pin d.id 0) (a (get_or d.pins 0 0)) ∷ vs) (next_map rule a ds (λ e c. h e (contains_tail d e ds c)))

past : {X : Type 0} (xs : List X) (k : ℕ) → length xs ≤ k → slice_get xs k ≡ None
past [] zero l = refl
past [] (suc k) l = refl
past (x ∷ xs) zero l = absurd (omega (arith, l))
past (x ∷ xs) (suc k) l = past xs k (omega (arith, l))

-- any definition, where a default is asked for
no_definition : Definition
no_definition = record { id = 0; kind = Dff; pins = [] }

not_below : (a b : ℕ) → b ≤ a → ltb a b ≡ false
not_below a b l = false_from_ne_true (ltb a b) (λ h. let m = ltb-true a b h in omega arith)

module _ (n : Netlist) (sound : IsSound n) where
  abbrev pub line_in : ℕ → Line
  line_in c = (get_or (points n) c (Out 0, 0)).0

  abbrev pub signal_in : ℕ → ℕ
  signal_in c = (get_or (points n) c (Out 0, 0)).1

  pub points_count : length (points n) ≡ length n.outputs + length (cells n)
  points_count =
      length-append (map output_point n.outputs) (map cell_point (cells n))
      ∙ (ap (λ k. k + length (map cell_point (cells n))) (length-map n.outputs output_point)
      ∙ ap (λ k. length n.outputs + k) (length-map (cells n) cell_point))

  pub watched_count : length (watched n) ≡ length (points n)
  watched_count =
      length-append n.outputs (map (λ (d : Definition). get_or d.pins 0 0) (cells n)) ∙ (ap (λ k. length n.outputs + k) (length-map (cells n) (λ (d : Definition). get_or d.pins 0 0)) ∙ sym points_count)

  -- at an output
  pub output_in : (c : ℕ) → c < length n.outputs → get_or (points n) c (Out 0, 0) ≡ (Out (get_or n.outputs c 0), get_or n.outputs c 0)
  output_in c l =
      let outs_list = map output_point n.outputs in
      let size = length-map n.outputs output_point in
      get_or_append_left (map output_point n.outputs) (map cell_point (cells n)) (Out 0, 0) c (omega arith)
      ∙ get_or-map output_point n.outputs c 0 (Out 0, 0) l

  -- at a cell
  pub cell_in : (c : ℕ) (e : Definition) → length n.outputs ≤ c → c < length (points n)
      → get_or (points n) c (Out 0, 0) ≡ (Pin (get_or (cells n) (c - length n.outputs) e).id 0, get_or (get_or (cells n) (c - length n.outputs) e).pins 0 0)
  cell_in c e high low =
      let size = length-map n.outputs output_point in
      let all = points_count in
      get_or-append_right (map output_point n.outputs) (map cell_point (cells n)) (length n.outputs) c (Out 0, 0) size high
      ∙ get_or-map cell_point (cells n) (c - length n.outputs) e (Out 0, 0) (omega arith)

  pub watched_in : (c : ℕ) → c < length (points n) → get_or (watched n) c 0 ≡ signal_in c
  watched_in c l = elim (cases_lt c (length n.outputs)) [
    | inl low ↦ get_or_append_left n.outputs (map (λ (d : Definition). get_or d.pins 0 0) (cells n)) 0 c low ∙ sym (ap (λ (p : Line × ℕ). p.1) (output_in c low))
    | inr high ↦
        let all = points_count in
        let k : c - length n.outputs < length (cells n) = omega arith in
        get_or-append_right n.outputs (map (λ (d : Definition). get_or d.pins 0 0) (cells n)) (length n.outputs) c 0 refl high
        ∙ (get_or-map (λ (d : Definition). get_or d.pins 0 0) (cells n) (c - length n.outputs) no_definition 0 k ∙ sym (ap (λ (p : Line × ℕ). p.1) (cell_in c no_definition high l)))
  ]

  one : (d : Definition) → Contains (cells n) d → length d.pins ≡ 1
  one d c = All-contains (λ (e : Definition). length e.pins ≡ 1) (cells n) d (one_pin n sound.closed) c

  -- the value at a point
  pub observed_in : {V : Type 0} (rule : Rule V) (a : ℕ → V) (c : ℕ) → c < length (points n) → observed rule n a (point_of n c) ≡ Some (rule.line (line_in c) (a (signal_in c)))
  observed_in {V} rule a c l = elim (cases_lt c (length n.outputs)) [
    | inl low ↦
        let f : ℕ → V = λ x. rule.line (Out x) (a x) in
        let size = length-map n.outputs (λ x. rule.line (Out x) (a x)) in
        ap (λ b. observed rule n a (cond b (Output c) (Cell (c - length n.outputs)))) (lt-ltb c (length n.outputs) low)
        ∙ (slice_get-get_or (map f n.outputs) c (f 0) (omega arith) ∙ ap Some (get_or-map f n.outputs c 0 (f 0) low ∙ sym (ap (λ (p : Line × ℕ). rule.line p.0 (a p.1)) (output_in c low))))
    | inr high ↦
        let g : Definition → V = λ d. rule.line (Pin d.id 0) (a (get_or d.pins 0 0)) in
        let all = points_count in
        let k : c - length n.outputs < length (cells n) = omega arith in
        let size = length-map (cells n) (λ (d : Definition). rule.line (Pin d.id 0) (a (get_or d.pins 0 0))) in
        ap (λ b. observed rule n a (cond b (Output c) (Cell (c - length n.outputs)))) (not_below c (length n.outputs) high)
        ∙ (ap (λ vs. slice_get vs (c - length n.outputs)) (next_map rule a (cells n) one)
        ∙ (slice_get-get_or (map g (cells n)) (c - length n.outputs) (g no_definition) (omega arith)
        ∙ ap Some (get_or-map g (cells n) (c - length n.outputs) no_definition (g no_definition) k ∙ sym (ap (λ (p : Line × ℕ). rule.line p.0 (a p.1)) (cell_in c no_definition high l)))))
  ]

  -- a point has a number, or nothing stands there
  pub point_in : (p : Point) → ((c : ℕ) × (c < length (points n)) × (p ≡ point_of n c)) ⊎ ((rule : Rule Bool) (a : ℕ → Bool) → observed rule n a p ≡ None)
  point_in (Output k) = elim (cases_lt k (length n.outputs)) [
    | inl low ↦ let all = points_count in inl (k, omega arith, sym (ap (λ b. cond b (Output k) (Cell (k - length n.outputs))) (lt-ltb k (length n.outputs) low)))
    | inr high ↦ inr (λ rule a. let size = length-map n.outputs (λ x. rule.line (Out x) (a x)) in past (outs rule n a) k (omega arith))
  ]
  point_in (Cell k) = elim (cases_lt k (length (cells n))) [
    | inl low ↦
        let all = points_count in
        let c = length n.outputs + k in
        inl (
          length n.outputs + k,
          omega arith,
          sym (ap (λ b. cond b (Output (length n.outputs + k)) (Cell (length n.outputs + k - length n.outputs))) (not_below (length n.outputs + k) (length n.outputs) (omega arith))
              ∙ ap Cell (let e : length n.outputs + k - length n.outputs ≡ k = omega arith in e)),
        )
    | inr high ↦ inr (λ rule a.
        let size = length-map (cells n) (λ (d : Definition). rule.line (Pin d.id 0) (a (get_or d.pins 0 0))) in
        ap (λ vs. slice_get vs k) (next_map rule a (cells n) one) ∙ past (map (λ (d : Definition). rule.line (Pin d.id 0) (a (get_or d.pins 0 0))) (cells n)) k (omega arith))
  ]

  -- what is watched is a signal
  pub signal_within : (c : ℕ) → c < length (points n) → Contains (signals n) (signal_in c)
  signal_within c l = elim (cases_lt c (length n.outputs)) [
    | inl low ↦ subst (Contains (signals n)) (sym (ap (λ (p : Line × ℕ). p.1) (output_in c low))) (All-contains (Contains (signals n)) n.outputs (get_or n.outputs c 0) sound.closed.outputs (Contains-get_or n.outputs c 0 low))
    | inr high ↦
        let all = points_count in
        let d = get_or (cells n) (c - length n.outputs) no_definition in
        let m = Contains-get_or (cells n) (c - length n.outputs) no_definition (omega arith) in
        let e = one d m in
        let pins = All-contains (λ (f : Definition). All (Contains (signals n)) f.pins) n.definitions d sound.closed.pins (contains_filter is_cell n.definitions d m).0 in
        subst (Contains (signals n)) (sym (ap (λ (p : Line × ℕ). p.1) (cell_in c no_definition high l)))
        (All-contains (Contains (signals n)) d.pins (get_or d.pins 0 0) pins (Contains-get_or d.pins 0 0 (omega arith)))
  ]
