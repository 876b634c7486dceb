-- Cubes as rows of values: where two contradict each other, and what one has that another has joined.
use Rattle.std.proofs.Common.{◌≡◌, ◌↔◌, ℕ, suc, zero, ◌+◌, ◌-◌, ◌<◌, ◌≤◌, Bool, true, false, not, ◌||◌, ◌⊎◌, List, [], ◌∷◌, ◌++◌, length, get_or, refl, sym, ◌∙◌, ap, subst, inl, inr, arith}
use Rattle.std.specs.Bool.{IsTrue}
use Rattle.std.proofs.lemmas.Bool.{both_ways, or_cases, or_left, or_right, cases_lt}
use Rattle.std.proofs.lemmas.List.{get_or_append_left, get_or-append_right, get_or_past}
use Rattle.statement.specs.declared.kinds.Tri.{Tri}
use Rattle.statement.specs.declared.kinds.Tri.TheVariants.{Zero, One, X}
use Rattle.statement.specs.Values.{known}
use Rattle.cubes.specs.Cubes.{Cube, row, HasBit, Contradicts, HaveSameWidths}
use Rattle.cubes.specs.inner.Joining.{is_opposite, are_opposed, join, IsJoined, IsJoinedCube}

no : {P : Type 0} → false ≡ true → P
no e = absurd (both_ways false refl e)

not_not : (b : Bool) → not (not b) ≡ b
not_not true = refl
not_not false = refl

-- ---- opposite bits

pub record Opposed (vs ws : List Tri) : Type 0 where
  pub place : ℕ
  pub bit : Bool
  pub here : get_or vs place X ≡ known bit
  pub there : get_or ws place X ≡ known (not bit)

opposite_bits : (v w : Tri) → is_opposite v w ≡ true → (b : Bool) × (v ≡ known b) × (w ≡ known (not b))
opposite_bits Zero One e = (false, refl, refl)
opposite_bits One Zero e = (true, refl, refl)
opposite_bits Zero Zero e = no e
opposite_bits Zero X e = no e
opposite_bits One One e = no e
opposite_bits One X e = no e
opposite_bits X w e = no e

known_opposite : (b : Bool) → is_opposite (known b) (known (not b)) ≡ true
known_opposite true = refl
known_opposite false = refl

pub known_is_no_x : (b : Bool) → X ≡ known b → ⊥
known_is_no_x true e = cc
known_is_no_x false e = cc

opposed_from : (vs ws : List Tri) → are_opposed vs ws ≡ true → Opposed vs ws
opposed_from [] ws e = no e
opposed_from (v ∷ vs) [] e = no e
opposed_from (v ∷ vs) (w ∷ ws) e = elim (or_cases (is_opposite v w) (are_opposed vs ws) e) [
  | inl h ↦ let o = opposite_bits v w h in record { place = zero; bit = o.0; here = o.1; there = o.2 }
  | inr h ↦ let o = opposed_from vs ws h in record { place = suc o.place; bit = o.bit; here = o.here; there = o.there }
]

opposed_at : (vs ws : List Tri) (k : ℕ) (b : Bool) → get_or vs k X ≡ known b → get_or ws k X ≡ known (not b) → are_opposed vs ws ≡ true
opposed_at [] ws k b e h = absurd (known_is_no_x b e)
opposed_at (v ∷ vs) [] k b e h = absurd (known_is_no_x (not b) h)
opposed_at (v ∷ vs) (w ∷ ws) zero b e h =
    or_left (is_opposite v w) (are_opposed vs ws)
    (let p : is_opposite (known b) (known (not b)) ≡ true = known_opposite b in
    subst (λ x. is_opposite x w ≡ true) (sym e) (subst (λ y. is_opposite (known b) y ≡ true) (sym h) p))
opposed_at (v ∷ vs) (w ∷ ws) (suc k) b e h = or_right (is_opposite v w) (are_opposed vs ws) (opposed_at vs ws k b e h)

-- ---- rows

module _ (xs ys : List Tri) where
  pub row_left : (k : ℕ) → k < length xs → get_or (xs ++ ys) k X ≡ get_or xs k X
  row_left k l = get_or_append_left xs ys X k l

  row_right : (k : ℕ) → length xs ≤ k → get_or (xs ++ ys) k X ≡ get_or ys (k - length xs) X
  row_right k l = get_or-append_right xs ys (length xs) k X refl l

  pub bit_left : (k : ℕ) (b : Bool) → get_or xs k X ≡ known b → get_or (xs ++ ys) k X ≡ known b
  bit_left k b e = elim (cases_lt k (length xs)) [
    | inl l ↦ row_left k l ∙ e
    | inr l ↦ absurd (known_is_no_x b (sym (get_or_past xs k X l) ∙ e))
  ]

  pub bit_right : (k : ℕ) (b : Bool) → get_or ys k X ≡ known b → get_or (xs ++ ys) (length xs + k) X ≡ known b
  bit_right k b e =
      let at : (j : ℕ) → j ≡ k → get_or ys j X ≡ known b = λ j same. ap (λ i. get_or ys i X) same ∙ e in
      row_right (length xs + k) (omega arith) ∙ at (length xs + k - length xs) (omega arith)

-- the two halves of rows of the same widths
row_opposed_cases : (a b c d : List Tri) → length a ≡ length c → (k : ℕ) (bit : Bool)
    → get_or (a ++ b) k X ≡ known bit → get_or (c ++ d) k X ≡ known (not bit) → (are_opposed a c || are_opposed b d) ≡ true
row_opposed_cases a b c d same k bit here there = elim (cases_lt k (length a)) [
  | inl l ↦
      or_left (are_opposed a c) (are_opposed b d)
      (opposed_at a c k bit (sym (row_left a b k l) ∙ here) (sym (row_left c d k (omega arith)) ∙ there))
  | inr l ↦
      or_right (are_opposed a c) (are_opposed b d)
      (opposed_at b d (k - length a) bit (sym (row_right a b k l) ∙ here)
      (ap (λ i. get_or d i X) (ap (λ n. k - n) same) ∙ (sym (row_right c d k (omega arith)) ∙ there)))
]

pub contradicts_iff : (c d : Cube) → HaveSameWidths c d → (r : Bool) → r ≡ (are_opposed c.inputs d.inputs || are_opposed c.cells d.cells)
    → IsTrue r ↔ Contradicts c d
contradicts_iff c d w r is = (
  λ t. elim (or_cases (are_opposed c.inputs d.inputs) (are_opposed c.cells d.cells) (sym is ∙ t)) [
    | inl h ↦
        let o = opposed_from c.inputs d.inputs h in
        (o.place, o.bit, bit_left c.inputs c.cells o.place o.bit o.here, bit_left d.inputs d.cells o.place (not o.bit) o.there)
    | inr h ↦
        let o = opposed_from c.cells d.cells h in (
          length c.inputs + o.place,
          o.bit,
          bit_right c.inputs c.cells o.place o.bit o.here,
          ap (λ n. get_or (d.inputs ++ d.cells) (n + o.place) X) w.inputs ∙ bit_right d.inputs d.cells o.place (not o.bit) o.there,
        )
  ],
  λ p. is ∙ row_opposed_cases c.inputs c.cells d.inputs d.cells w.inputs p.0 p.1 p.2 p.3,
)

-- ---- joined rows

joined_at : (old others new : List Tri) → length old ≡ length others → IsJoined old others new
    → (k : ℕ) → get_or new k X ≡ join (get_or old k X) (get_or others k X)
joined_at old others new same j k = elim (cases_lt k (length old)) [
  | inl l ↦ j.each k l
  | inr l ↦
      let size = j.size in
      let a : get_or new k X ≡ X = get_or_past new k X (omega arith) in
      let b : get_or old k X ≡ X = get_or_past old k X l in
      let c : get_or others k X ≡ X = get_or_past others k X (omega arith) in
      a ∙ sym (ap (λ v. join v (get_or others k X)) b ∙ c)
]

joined_row_at : (c d r : Cube) → HaveSameWidths c d → IsJoinedCube c d r → (k : ℕ)
    → get_or (row r) k X ≡ join (get_or (row c) k X) (get_or (row d) k X)
joined_row_at c d r w j k =
    let size = j.inputs.size in
    let same = w.inputs in
    elim (cases_lt k (length c.inputs)) [
      | inl l ↦
          row_left r.inputs r.cells k (omega arith) ∙ (joined_at c.inputs d.inputs r.inputs w.inputs j.inputs k
          ∙ sym (ap (λ v. join v (get_or (row d) k X)) (row_left c.inputs c.cells k l) ∙ ap (λ v. join (get_or c.inputs k X) v) (row_left d.inputs d.cells k (omega arith))))
      | inr l ↦
          let i : ℕ = k - length c.inputs in
          let at_r : get_or (row r) k X ≡ get_or r.cells i X = row_right r.inputs r.cells k (omega arith) ∙ ap (λ n. get_or r.cells (k - n) X) size in
          let at_d : get_or (row d) k X ≡ get_or d.cells i X = row_right d.inputs d.cells k (omega arith) ∙ ap (λ n. get_or d.cells (k - n) X) (sym same) in
          at_r ∙ (joined_at c.cells d.cells r.cells w.cells j.cells i
          ∙ sym (ap (λ v. join v (get_or (row d) k X)) (row_right c.inputs c.cells k l) ∙ ap (λ v. join (get_or c.cells i X) v) at_d))
    ]

join_gives : (v w : Tri) (b : Bool) → join v w ≡ known b → (v ≡ known b) ⊎ (w ≡ known b)
join_gives Zero w b e = inl e
join_gives One w b e = inl e
join_gives X w b e = inr e

join_left : (v w : Tri) (b : Bool) → v ≡ known b → join v w ≡ known b
join_left Zero w b e = e
join_left One w b e = e
join_left X w b e = absurd (known_is_no_x b e)

join_right : (v w : Tri) (b : Bool) → w ≡ known b → (v ≡ known (not b) → ⊥) → join v w ≡ known b
join_right Zero w true e h = absurd (h refl)
join_right Zero w false e h = refl
join_right One w true e h = refl
join_right One w false e h = absurd (h refl)
join_right X w b e h = e

pub joined_bits : (c d r : Cube) → HaveSameWidths c d → IsJoinedCube c d r → ¬ Contradicts c d
    → (k : ℕ) (b : Bool) → HasBit r k b ↔ (HasBit c k b ⊎ HasBit d k b)
joined_bits c d r w j clear k b =
    let at : get_or (row r) k X ≡ join (get_or (row c) k X) (get_or (row d) k X) = joined_row_at c d r w j k in (
      λ e. join_gives (get_or (row c) k X) (get_or (row d) k X) b (sym at ∙ e),
      λ e. at ∙ elim e [
        | inl h ↦ join_left (get_or (row c) k X) (get_or (row d) k X) b h
        | inr h ↦ join_right (get_or (row c) k X) (get_or (row d) k X) b h (λ o. clear (k, not b, o, h ∙ ap known (sym (not_not b))))
      ],
    )

pub joined_widths : (c d r : Cube) → IsJoinedCube c d r → HaveSameWidths r c
joined_widths c d r j = record { inputs = j.inputs.size; cells = j.cells.size }

pub same_widths : (a b c : Cube) → HaveSameWidths a b → HaveSameWidths b c → HaveSameWidths a c
same_widths a b c p q = record { inputs = p.inputs ∙ q.inputs; cells = p.cells ∙ q.cells }
