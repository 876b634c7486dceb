-- On which lines of the scanned netlist a fault of the original stands.
use Rattle.std.proofs.Common.{◌≡◌, ℕ, ◌+◌, ◌<◌, Bool, false, cond, ◌&&◌, ◌⊎◌, List, [], ◌∷◌, length, Option, Some, None, refl, sym, ◌∙◌, ap, subst, inl, inr, arith, eqb}
use Rattle.std.specs.List.{Contains}
use Rattle.std.proofs.lemmas.Bool.{both_ways, cases_Bool, not_from_false, cases_eq, eq-eqb, ne_eqb, and_left, and_right, not-true}
use Rattle.std.proofs.lemmas.List.Elements.{All-contains}
use Rattle.statement.specs.declared.lines.Line.{Line}
use Rattle.statement.specs.declared.lines.Line.TheVariants.{Stem, Pin, Out}
use Rattle.statement.specs.declared.lines.Fault.{Fault}
use Rattle.statement.specs.Netlists.{Definition, Netlist, is_cell, cells, gates, signals}
use Rattle.netlist.specs.Netlist.{is_gate}
use Rattle.netlist.specs.Conditions.{IsNumbered, IsClosed}
use Rattle.statement.specs.Values.{Table, is_line, stuck, with_fault, on_pins}
use Rattle.netlist.proofs.Lists.{filter_contains, contains_filter}
use Rattle.netlist.proofs.Placed.{same_definition, signal_from, definition_below}
use Rattle.netlist.proofs.WellFormed.{one_pin}
use Rattle.scan_insert.specs.Scan.{Naming}
use Rattle.netlist.specs.Lines.{IsLineOf, IsFaultOf}
use Rattle.scan_insert.proofs.Namings.{Origin, Original, Captured, IsNaming, named_line, named_fault}

abbrev pub signal : Line → ℕ
signal (Stem x) = x
signal (Pin z k) = z
signal (Out x) = x

apart : (l m : Line) → (signal l ≡ signal m → ⊥) → is_line l m ≡ false
apart (Stem x) (Stem y) h = ne_eqb x y h
apart (Stem x) (Pin y k) h = refl
apart (Stem x) (Out y) h = refl
apart (Pin x j) (Stem y) h = refl
apart (Pin x j) (Pin y k) h = and_left (eqb x y) (eqb j k) (ne_eqb x y h)
apart (Pin x j) (Out y) h = refl
apart (Out x) (Stem y) h = refl
apart (Out x) (Pin y k) h = refl
apart (Out x) (Out y) h = ne_eqb x y h

same_test : (x y v w : ℕ) → (x ≡ y → v ≡ w) → (v ≡ w → x ≡ y) → eqb v w ≡ eqb x y
same_test x y v w there back = elim (cases_eq x y) [
  | inl e ↦ eq-eqb v w (there e) ∙ sym (eq-eqb x y e)
  | inr n ↦ ne_eqb v w (λ e. n (back e)) ∙ sym (ne_eqb x y n)
]

module _ (s : Naming) (n : Netlist) (naming : IsNaming s n) (numbered : IsNumbered n) (closed : IsClosed n) where
  pub defined : (d : Definition) → Contains n.definitions d → Contains (signals n) d.id
  defined d c = signal_from n numbered d.id (definition_below n numbered d c)

  stem_injective : (x y : ℕ) → Contains (signals n) x → Contains (signals n) y → s.stem x ≡ s.stem y → x ≡ y
  stem_injective x y c d e = let a = naming.stem x c in let b = naming.stem y d in cc

  -- the pin's definition is a cell, whose only pin it is, or a gate
  IsCellPin : ℕ → ℕ → Type 0
  IsCellPin z k = (d : Definition) × Contains (cells n) d × (d.id ≡ z) × (k ≡ 0)

  IsGatePin : ℕ → Type 0
  IsGatePin z = (d : Definition) × Contains (gates n) d × (d.id ≡ z)

  pin_cases : (z k : ℕ) → IsLineOf n (Pin z k) → IsCellPin z k ⊎ IsGatePin z
  unfolding IsCellPin IsGatePin
  pin_cases z k v = elim (cases_Bool (is_cell v.0)) [
    | inl y ↦
        let c = filter_contains is_cell n.definitions v.0 v.1 y in
        let one : length v.0.pins ≡ 1 = All-contains (λ (d : Definition). length d.pins ≡ 1) (cells n) v.0 (one_pin n closed) c in
        let l : k < length v.0.pins = v.3 in
        inl (v.0, c, v.2, omega arith)
    | inr y ↦ inr (v.0, filter_contains is_gate n.definitions v.0 v.1 (not_from_false (is_cell v.0) y), v.2)
  ]

  cell_pin_origin : (z k : ℕ) → IsCellPin z k → naming.origin (s.pins z) ≡ Captured z
  unfolding IsCellPin
  cell_pin_origin z k w = subst (λ x. naming.origin (s.pins x) ≡ Captured x) w.2 (naming.cell_pins w.0 w.1)

  gate_pin_origin : (z : ℕ) → IsGatePin z → naming.origin (s.pins z) ≡ Original z
  unfolding IsGatePin
  gate_pin_origin z w =
      subst (λ x. naming.origin (s.pins x) ≡ Original x) w.2
      (ap naming.origin (naming.gate_pins w.0 w.1) ∙ naming.stem w.0.id (defined w.0 (contains_filter is_gate n.definitions w.0 w.1).0))

  -- a cell and a gate have different signals
  never_both : (c g : Definition) → Contains (cells n) c → Contains (gates n) g → c.id ≡ g.id → ⊥
  never_both c g a b e =
      let p = contains_filter is_cell n.definitions c a in
      let q = contains_filter is_gate n.definitions g b in
      let same = same_definition n numbered c g p.0 q.0 e in
      both_ways (is_cell g) (not-true (is_cell g) q.1) (sym (ap is_cell same) ∙ p.1)

  -- a line that no fault of the original stands on
  pub IsClean : Line → Type 0
  IsClean m = (l : Line) → IsLineOf n l → is_line (named_line s l) m ≡ false

  -- the line's signal stands for nothing that a line of the original can have
  pub new_clean : (m : Line) (o : Origin) → naming.origin (signal m) ≡ o → ((x : ℕ) → Original x ≡ o → ⊥) → ((x : ℕ) → Captured x ≡ o → ⊥) → IsClean m
  unfolding IsClean
  new_clean m o e h k (Stem x) v = apart (Stem (s.stem x)) m (λ q. h x (sym (naming.stem x v) ∙ (ap naming.origin q ∙ e)))
  new_clean m o e h k (Out x) v = apart (Out (s.stem x)) m (λ q. h x (sym (naming.stem x (All-contains (Contains (signals n)) n.outputs x closed.outputs v)) ∙ (ap naming.origin q ∙ e)))
  new_clean m o e h k (Pin z j) v = apart (Pin (s.pins z) j) m (λ q. elim (pin_cases z j v) [
    | inl w ↦ k z (sym (cell_pin_origin z j w) ∙ (ap naming.origin q ∙ e))
    | inr w ↦ h z (sym (gate_pin_origin z w) ∙ (ap naming.origin q ∙ e))
  ])

  pub captured_stem_clean : (d : Definition) → Contains (cells n) d → IsClean (Stem (s.pins d.id))
  unfolding IsClean
  captured_stem_clean d c (Stem x) v = apart (Stem (s.stem x)) (Stem (s.pins d.id)) (λ q. let a = naming.stem x v in let b = naming.cell_pins d c in cc)
  captured_stem_clean d c (Out x) v = refl
  captured_stem_clean d c (Pin z j) v = refl

  pub second_pin_clean : (d : Definition) → Contains (cells n) d → IsClean (Pin (s.pins d.id) 1)
  unfolding IsClean IsCellPin
  second_pin_clean d c (Stem x) v = refl
  second_pin_clean d c (Out x) v = refl
  second_pin_clean d c (Pin z j) v = elim (pin_cases z j v) [
    | inl w ↦ let o : j ≡ 0 = w.3 in and_right (eqb (s.pins z) (s.pins d.id)) (eqb j 1) (ne_eqb j 1 (omega arith))
    | inr w ↦ apart (Pin (s.pins z) j) (Pin (s.pins d.id) 1) (λ q. let a = gate_pin_origin z w in let b = naming.cell_pins d c in cc)
  ]

  pub buffer_clean : (d : Definition) → Contains (cells n) d → IsClean (Pin (s.stem d.id) 0)
  unfolding IsClean IsGatePin
  buffer_clean d c (Stem x) v = refl
  buffer_clean d c (Out x) v = refl
  buffer_clean d c (Pin z j) v =
      let b = naming.stem d.id (defined d (contains_filter is_cell n.definitions d c).0) in
      apart (Pin (s.pins z) j) (Pin (s.stem d.id) 0) (λ q. elim (pin_cases z j v) [
        | inl w ↦ let a = cell_pin_origin z j w in cc
        | inr w ↦ let a = gate_pin_origin z w in let same : d.id ≡ z = cc in never_both d w.0 c w.1 (same ∙ sym w.2)
      ])

  pub on_stem : (x : ℕ) → Contains (signals n) x → (l : Line) → IsLineOf n l → is_line (named_line s l) (Stem (s.stem x)) ≡ is_line l (Stem x)
  on_stem x c (Stem y) v = same_test y x (s.stem y) (s.stem x) (ap s.stem) (stem_injective y x v c)
  on_stem x c (Out y) v = refl
  on_stem x c (Pin z j) v = refl

  pub on_out : (x : ℕ) → Contains (signals n) x → (l : Line) → IsLineOf n l → is_line (named_line s l) (Out (s.stem x)) ≡ is_line l (Out x)
  on_out x c (Stem y) v = refl
  on_out x c (Out y) v = same_test y x (s.stem y) (s.stem x) (ap s.stem) (stem_injective y x (All-contains (Contains (signals n)) n.outputs y closed.outputs v) c)
  on_out x c (Pin z j) v = refl

  pub on_gate : (d : Definition) (k : ℕ) → Contains (gates n) d → (l : Line) → IsLineOf n l → is_line (named_line s l) (Pin (s.stem d.id) k) ≡ is_line l (Pin d.id k)
  unfolding IsCellPin IsGatePin
  on_gate d k c (Stem y) v = refl
  on_gate d k c (Out y) v = refl
  on_gate d k c (Pin z j) v =
      let b = naming.stem d.id (defined d (contains_filter is_gate n.definitions d c).0) in
      elim (pin_cases z j v) [
        | inl w ↦
            let a = cell_pin_origin z j w in
            apart (Pin (s.pins z) j) (Pin (s.stem d.id) k) (λ q. cc)
            ∙ sym (apart (Pin z j) (Pin d.id k) (λ q. never_both w.0 d w.1 c (w.2 ∙ q)))
        | inr w ↦
            let a = gate_pin_origin z w in
            ap (λ t. t && eqb j k) (same_test z d.id (s.pins z) (s.stem d.id) (λ e. ap s.pins e ∙ naming.gate_pins d c) (λ e. cc))
      ]

  pub on_cell : (d : Definition) → Contains (cells n) d → (l : Line) → IsLineOf n l → is_line (named_line s l) (Pin (s.pins d.id) 0) ≡ is_line l (Pin d.id 0)
  unfolding IsCellPin IsGatePin
  on_cell d c (Stem y) v = refl
  on_cell d c (Out y) v = refl
  on_cell d c (Pin z j) v =
      let b = naming.cell_pins d c in
      elim (pin_cases z j v) [
        | inl w ↦
            let a = cell_pin_origin z j w in
            ap (λ t. t && eqb j 0) (same_test z d.id (s.pins z) (s.pins d.id) (ap s.pins) (λ e. cc))
        | inr w ↦
            let a = gate_pin_origin z w in
            apart (Pin (s.pins z) j) (Pin (s.pins d.id) 0) (λ q. cc)
            ∙ sym (apart (Pin z j) (Pin d.id 0) (λ q. never_both d w.0 c w.1 (sym (w.2 ∙ q))))
      ]

  pub clean : {V : Type 0} (known : Bool → V) (f : Option Fault) (m : Line) (v : V) → IsFaultOf n f → IsClean m → stuck known (named_fault s f) m v ≡ v
  unfolding IsClean
  clean known None m v h c = refl
  clean known (Some g) m v h c = ap (λ t. cond t (known g.value) v) (c g.line (h g refl))

  pub matches : {V : Type 0} (known : Bool → V) (f : Option Fault) (m m' : Line) (v : V) → IsFaultOf n f
      → ((l : Line) → IsLineOf n l → is_line (named_line s l) m ≡ is_line l m') → stuck known (named_fault s f) m v ≡ stuck known f m' v
  matches known None m m' v h same = refl
  matches known (Some g) m m' v h same = ap (λ t. cond t (known g.value) v) (same g.line (h g refl))

  pub gate_pins : {V : Type 0} (table : Table V) (f : Option Fault) → IsFaultOf n f → (d : Definition) → Contains (gates n) d → (k : ℕ) (vs : List V)
      → on_pins (with_fault table (named_fault s f)) (s.stem d.id) k vs ≡ on_pins (with_fault table f) d.id k vs
  gate_pins table f h d c k [] = refl
  gate_pins table f h d c k (v ∷ vs) =
      ap (λ x. x ∷ on_pins (with_fault table (named_fault s f)) (s.stem d.id) (k + 1) vs) (matches table.known f (Pin (s.stem d.id) k) (Pin d.id k) v h (on_gate d k c))
      ∙ ap (λ r. stuck table.known f (Pin d.id k) v ∷ r) (gate_pins table f h d c (k + 1) vs)
