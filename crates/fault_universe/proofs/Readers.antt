-- Which lines read a signal.
use Rattle.std.proofs.Common.{◌≡◌, ℕ, suc, zero, ◌+◌, ◌<◌, ◌⊎◌, Bool, true, false, cond, List, [], ◌∷◌, ◌++◌, ◌-◌, map, length, length-append, get_or, eqb, refl, sym, ◌∙◌, ap, subst, Some, inl, inr, arith}
use Rattle.std.specs.List.{Contains, filter, flat_map, slice_get}
use Rattle.std.proofs.lemmas.Bool.{and_parts, both_ways, eqb-true, eq-eqb}
use Rattle.std.proofs.lemmas.List.{get_or-append-add}
use Rattle.std.proofs.lemmas.List.Elements.{Contains-append_left, Contains-append_right, Contains-append_cases, Contains-get_or}
use Rattle.statement.specs.declared.lines.Line.{Line}
use Rattle.statement.specs.declared.lines.Line.TheVariants.{Stem, Pin, Out}
use Rattle.statement.specs.Netlists.{Definition, Netlist, pins_reading, readers_of}
use Rattle.statement.specs.Values.{is_line}
use Rattle.netlist.proofs.Lists.{contains_cases, contains_head, contains_nil, contains_tail}
use Rattle.fault_universe.proofs.Elements.{Contains-flat_map, flat_map-source, contains_some}

-- pin k of z reads x
pub record IsPinOf (n : Netlist) (z k x : ℕ) : Type 0 where
  pub definition : Definition
  pub member : Contains n.definitions definition
  pub id : definition.id ≡ z
  pub pin : slice_get definition.pins k ≡ Some x

-- a pin from place j on
pub record IsPlaced (x z j : ℕ) (ys : List ℕ) (l : Line) : Type 0 where
  pub place : ℕ
  pub line : l ≡ Pin z (j + place)
  pub pin : slice_get ys place ≡ Some x

reading_first : (x z j y : ℕ) (ys : List ℕ) (l : Line) → y ≡ x → Pin z j ≡ l → IsPlaced x z j (y ∷ ys) l
reading_first x z j y ys l same is =
    let at : j ≡ j + zero = omega arith in
    record { place = zero; line = sym is ∙ ap (λ k. Pin z k) at; pin = ap (λ w. Some w) same }

reading_later : (x z j y : ℕ) (ys : List ℕ) (l : Line) → IsPlaced x z (j + 1) ys l → IsPlaced x z j (y ∷ ys) l
reading_later x z j y ys l p =
    let next : j + 1 + p.place ≡ j + suc p.place = omega arith in
    record { place = suc p.place; line = p.line ∙ ap (λ k. Pin z k) next; pin = p.pin }

reading_step : (x z j y : ℕ) (ys : List ℕ) (l : Line) → ((c : Contains (pins_reading x z (j + 1) ys) l) → IsPlaced x z (j + 1) ys l)
    → (b : Bool) → eqb y x ≡ b → Contains (cond b (Pin z j ∷ pins_reading x z (j + 1) ys) (pins_reading x z (j + 1) ys)) l → IsPlaced x z j (y ∷ ys) l
reading_step x z j y ys l later true e c = elim (contains_cases (Pin z j) l (pins_reading x z (j + 1) ys) c) [
  | inl is ↦ reading_first x z j y ys l (eqb-true y x e) is
  | inr r ↦ reading_later x z j y ys l (later r)
]
reading_step x z j y ys l later false e c = reading_later x z j y ys l (later c)

pub reading_pin : (x z j : ℕ) (ys : List ℕ) (l : Line) → Contains (pins_reading x z j ys) l → IsPlaced x z j ys l
reading_pin x z j [] l c = absurd (contains_nil l c)
reading_pin x z j (y ∷ ys) l c = reading_step x z j y ys l (reading_pin x z (j + 1) ys l) (eqb y x) refl c

pin_step : (x z j y : ℕ) (ys : List ℕ) (l : Line) → (b : Bool) → (y ≡ x → b ≡ true) → ((y ≡ x) × (Pin z j ≡ l)) ⊎ Contains (pins_reading x z (j + 1) ys) l
    → Contains (cond b (Pin z j ∷ pins_reading x z (j + 1) ys) (pins_reading x z (j + 1) ys)) l
pin_step x z j y ys l true reads o = elim o [
  | inl p ↦ subst (λ m. Contains (m ∷ pins_reading x z (j + 1) ys) l) (sym p.1) (contains_head l (pins_reading x z (j + 1) ys))
  | inr r ↦ contains_tail (Pin z j) l (pins_reading x z (j + 1) ys) r
]
pin_step x z j y ys l false reads o = elim o [
  | inl p ↦ absurd (both_ways false refl (reads p.0))
  | inr r ↦ r
]

pin_reading : (x z j : ℕ) (ys : List ℕ) (i : ℕ) → slice_get ys i ≡ Some x → Contains (pins_reading x z j ys) (Pin z (j + i))
pin_reading x z j [] i e = absurd (cc)
pin_reading x z j (y ∷ ys) zero e =
    let same : y ≡ x = cc in
    let at : j ≡ j + zero = omega arith in
    pin_step x z j y ys (Pin z (j + zero)) (eqb y x) (eq-eqb y x) (inl (same, ap (λ k. Pin z k) at))
pin_reading x z j (y ∷ ys) (suc i) e =
    let next : j + 1 + i ≡ j + suc i = omega arith in
    pin_step x z j y ys (Pin z (j + suc i)) (eqb y x) (eq-eqb y x)
    (inr (subst (λ k. Contains (pins_reading x z (j + 1) ys) (Pin z k)) next (pin_reading x z (j + 1) ys i e)))

-- an output that reads x
pub out_reading : (x : ℕ) (ys : List ℕ) (l : Line) → Contains (map (λ y. Out y) (filter (λ y. eqb y x) ys)) l → (l ≡ Out x) × Contains ys x
out_reading x [] l c = absurd (contains_nil l c)
out_reading x (y ∷ ys) l c =
    let here : (b : Bool) → eqb y x ≡ b → Contains (map (λ y. Out y) (cond b (y ∷ filter (λ y. eqb y x) ys) (filter (λ y. eqb y x) ys))) l → (l ≡ Out x) × Contains (y ∷ ys) x =
    elim [
      | true ↦ λ e c. elim (contains_cases (Out y) l (map (λ y. Out y) (filter (λ y. eqb y x) ys)) c) [
        | inl is ↦ (sym is ∙ ap (λ w. Out w) (eqb-true y x e), subst (λ w. Contains (w ∷ ys) x) (sym (eqb-true y x e)) (contains_head x ys))
        | inr r ↦ let m = out_reading x ys l r in (m.0, contains_tail y x ys m.1)
      ]
      | false ↦ λ e c. let m = out_reading x ys l c in (m.0, contains_tail y x ys m.1)
    ] in
    here (eqb y x) refl c

reading_out : (x : ℕ) (ys : List ℕ) → Contains ys x → Contains (map (λ y. Out y) (filter (λ y. eqb y x) ys)) (Out x)
reading_out x [] c = absurd (contains_nil x c)
reading_out x (y ∷ ys) c =
    let here : (b : Bool) → eqb y x ≡ b → Contains (map (λ y. Out y) (cond b (y ∷ filter (λ y. eqb y x) ys) (filter (λ y. eqb y x) ys))) (Out x) =
    elim [
      | true ↦ λ e. subst (λ w. Contains (Out w ∷ map (λ y. Out y) (filter (λ y. eqb y x) ys)) (Out x)) (sym (eqb-true y x e)) (contains_head (Out x) (map (λ y. Out y) (filter (λ y. eqb y x) ys)))
      | false ↦ λ e. elim (contains_cases y x ys c) [
        | inl is ↦ absurd (both_ways (eqb y x) e (eq-eqb y x is))
        | inr r ↦ reading_out x ys r
      ]
    ] in
    here (eqb y x) refl

module _ (n : Netlist) (x : ℕ) where
  pub reader_placed : (l : Line) → Contains (flat_map (λ (d : Definition). pins_reading x d.id 0 d.pins) n.definitions) l → (z : ℕ) × (k : ℕ) × (l ≡ Pin z k) × IsPinOf n z k x
  reader_placed l c =
      let m = flat_map-source (λ (d : Definition). pins_reading x d.id 0 d.pins) n.definitions l c in
      let p = reading_pin x m.0.id 0 m.0.pins l m.2 in
      let at : 0 + p.place ≡ p.place = omega arith in
      (m.0.id, p.place, p.line ∙ ap (λ k. Pin m.0.id k) at, record { definition = m.0; member = m.1; id = refl; pin = p.pin })

  -- a reader is a pin or the output
  pub reader_cases : (l : Line) → Contains (readers_of n x) l → ((z : ℕ) × (k : ℕ) × (l ≡ Pin z k) × IsPinOf n z k x) ⊎ ((l ≡ Out x) × Contains n.outputs x)
  reader_cases l c = elim (Contains-append_cases (flat_map (λ (d : Definition). pins_reading x d.id 0 d.pins) n.definitions) (map (λ y. Out y) (filter (λ y. eqb y x) n.outputs)) l c) [
    | inl p ↦ inl (reader_placed l p)
    | inr o ↦ inr (out_reading x n.outputs l o)
  ]

  pub pin_reads : (z k : ℕ) → IsPinOf n z k x → Contains (readers_of n x) (Pin z k)
  pin_reads z k p =
      Contains-append_left (flat_map (λ (d : Definition). pins_reading x d.id 0 d.pins) n.definitions) (map (λ y. Out y) (filter (λ y. eqb y x) n.outputs)) (Pin z k)
      (subst (λ w. Contains (flat_map (λ (d : Definition). pins_reading x d.id 0 d.pins) n.definitions) (Pin w k)) p.id
      (Contains-flat_map (λ (d : Definition). pins_reading x d.id 0 d.pins) n.definitions p.definition (Pin p.definition.id k) p.member
      (let at : 0 + k ≡ k = omega arith in
      subst (λ j. Contains (pins_reading x p.definition.id 0 p.definition.pins) (Pin p.definition.id j)) at (pin_reading x p.definition.id 0 p.definition.pins k p.pin))))

  pub output_reads : Contains n.outputs x → Contains (readers_of n x) (Out x)
  output_reads c =
      Contains-append_right (flat_map (λ (d : Definition). pins_reading x d.id 0 d.pins) n.definitions) (map (λ y. Out y) (filter (λ y. eqb y x) n.outputs)) (Out x) (reading_out x n.outputs c)

  -- where an output reads it, the last reader is the output
  pub last_reads : Contains n.outputs x → (d : Line) → get_or (readers_of n x) (length (readers_of n x) - 1) d ≡ Out x
  last_reads c d =
      let pins : List Line = flat_map (λ (d : Definition). pins_reading x d.id 0 d.pins) n.definitions in
      let outs : List Line = map (λ y. Out y) (filter (λ y. eqb y x) n.outputs) in
      let some : 0 < length outs = contains_some outs (Out x) (reading_out x n.outputs c) in
      let at : length (pins ++ outs) - 1 ≡ length pins + (length outs - 1) = omega (arith, length-append pins outs) in
      ap (λ k. get_or (pins ++ outs) k d) at ∙ (get_or-append-add pins outs (length outs - 1) d
      ∙ (out_reading x n.outputs (get_or outs (length outs - 1) d) (Contains-get_or outs (length outs - 1) d (omega arith))).0)

-- `is_line` tells whether two lines are one
pub same_line : (l m : Line) → is_line l m ≡ true → l ≡ m
same_line (Stem x) (Stem y) e = ap (λ z. Stem z) (eqb-true x y e)
same_line (Pin x j) (Pin y k) e = let p = and_parts (eqb x y) (eqb j k) e in ap (λ z. Pin z j) (eqb-true x y p.0) ∙ ap (λ i. Pin y i) (eqb-true j k p.1)
same_line (Out x) (Out y) e = ap (λ z. Out z) (eqb-true x y e)
same_line (Stem x) (Pin y k) e = absurd (both_ways false refl e)
same_line (Stem x) (Out y) e = absurd (both_ways false refl e)
same_line (Pin x j) (Stem y) e = absurd (both_ways false refl e)
same_line (Pin x j) (Out y) e = absurd (both_ways false refl e)
same_line (Out x) (Stem y) e = absurd (both_ways false refl e)
same_line (Out x) (Pin y k) e = absurd (both_ways false refl e)

pub is_out : (y : ℕ) (l : Line) → l ≡ Out y → is_line l (Out y) ≡ true
is_out y l e = ap (λ m. is_line m (Out y)) e ∙ eq-eqb y y refl
