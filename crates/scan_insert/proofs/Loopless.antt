-- The scanned netlist has no loop.
use Rattle.std.proofs.Common.{◌≡◌, ℕ, Bool, true, false, cond, ◌&&◌, List, [], ◌∷◌, ◌++◌, map, refl, sym, ◌∙◌, ap, subst, inl, inr, eqb}
use Rattle.std.specs.List.{All, Contains, flat_map, list_any}
use Rattle.std.proofs.lemmas.Bool.{both_ways, not_from_false, and_parts, and_from, eqb-true, eq-eqb}
use Rattle.std.proofs.lemmas.List.Elements.{Contains-append_cases, Contains-append_right, All-contains}
use Rattle.statement.specs.declared.kinds.Kind.TheVariants.{And, Or, Not, Buff, Dff}
use Rattle.statement.specs.Netlists.{Definition, Netlist, is_cell, cells, gates, signals}
use Rattle.netlist.specs.Netlist.{is_gate, Reads, IsLoop, IsAcyclic, define}
use Rattle.netlist.specs.Conditions.{IsClosed}
use Rattle.netlist.proofs.Lists.{contains_head, contains_tail, contains_cases, contains_nil, contains_filter, filter_contains, contains_map, any_true, any_from}
use Rattle.scan_insert.specs.Scan.{Naming, scan_cell, scan_definition, show_last, scanned}
use Rattle.scan_insert.proofs.Namings.{Origin, Original, Enable, EnableNot, ScanIn, ScanOut, Captured, Shifted, Chosen, Held, IsNaming, IsChained}

pub contains_flat_map : {X Y : Type 0} (f : X → List Y) (xs : List X) (y : Y) → Contains (flat_map f xs) y → (x : X) × Contains xs x × Contains (f x) y
contains_flat_map f [] y c = absurd (contains_nil y c)
contains_flat_map f (x ∷ xs) y c = elim (Contains-append_cases (f x) (flat_map f xs) y c) [
  | inl h ↦ (x, contains_head x xs, h)
  | inr h ↦ let m = contains_flat_map f xs y h in (m.0, contains_tail x m.0 xs m.1, m.2)
]

pub map_contains : {X Y : Type 0} (f : X → Y) (xs : List X) (x : X) → Contains xs x → Contains (map f xs) (f x)
map_contains f [] x c = absurd (contains_nil x c)
map_contains f (y ∷ ys) x c = elim (contains_cases y x ys c) [
  | inl e ↦ subst (λ z. Contains (z ∷ map f ys) (f x)) (sym (ap f e)) (contains_head (f x) (map f ys))
  | inr r ↦ contains_tail (f y) (f x) (map f ys) (map_contains f ys x r)
]

pub only_one : {X : Type 0} (x y : X) → Contains (x ∷ []) y → x ≡ y
only_one x y c = elim (contains_cases x y [] c) [ inl e ↦ e | inr r ↦ absurd (contains_nil y r) ]

pub defined_signal : (n : Netlist) (d : Definition) → Contains n.definitions d → Contains (signals n) d.id
defined_signal n d c =
    Contains-append_right n.inputs (map (λ (e : Definition). e.id) n.definitions) d.id (map_contains (λ (e : Definition). e.id) n.definitions d c)

-- the gates of the scanned netlist
pub data IsScanGate (s : Naming) (n : Netlist) : Definition → Type 0 where
  off : IsScanGate s n (define s.enable_not Not (s.enable ∷ []))
  plain : (d : Definition) → Contains (gates n) d → IsScanGate s n (define (s.stem d.id) d.kind (map s.stem d.pins))
  capture : (q : Definition) → Contains (cells n) q → IsScanGate s n (define (s.pins q.id) And (map s.stem q.pins ++ s.enable_not ∷ []))
  shift : (q : Definition) → Contains (cells n) q → IsScanGate s n (define (s.shifted q.id) And (s.before q.id ∷ s.enable ∷ []))
  choose : (q : Definition) → Contains (cells n) q → IsScanGate s n (define (s.chosen q.id) Or (s.pins q.id ∷ s.shifted q.id ∷ []))
  buffer : (q : Definition) → Contains (cells n) q → IsScanGate s n (define (s.stem q.id) Buff (s.held q.id ∷ []))
  show : (p : ℕ × ℕ) → Contains s.scan_out p → IsScanGate s n (show_last p)

gate_of_cell : (s : Naming) (n : Netlist) (c d : Definition) → Contains (cells n) c → Contains (scan_cell s c) d → is_gate d ≡ true → IsScanGate s n d
gate_of_cell s n c d q m g =
    let d0 : Definition = define (s.pins c.id) And (map s.stem c.pins ++ s.enable_not ∷ []) in
    let d1 : Definition = define (s.shifted c.id) And (s.before c.id ∷ s.enable ∷ []) in
    let d2 : Definition = define (s.chosen c.id) Or (s.pins c.id ∷ s.shifted c.id ∷ []) in
    let d3 : Definition = define (s.held c.id) Dff (s.chosen c.id ∷ []) in
    let d4 : Definition = define (s.stem c.id) Buff (s.held c.id ∷ []) in
    elim (contains_cases d0 d (d1 ∷ d2 ∷ d3 ∷ d4 ∷ []) m) [
      | inl e ↦ subst (IsScanGate s n) e (capture c q)
      | inr m1 ↦ elim (contains_cases d1 d (d2 ∷ d3 ∷ d4 ∷ []) m1) [
        | inl e ↦ subst (IsScanGate s n) e (shift c q)
        | inr m2 ↦ elim (contains_cases d2 d (d3 ∷ d4 ∷ []) m2) [
          | inl e ↦ subst (IsScanGate s n) e (choose c q)
          | inr m3 ↦ elim (contains_cases d3 d (d4 ∷ []) m3) [
            | inl e ↦ absurd (both_ways (is_gate d) (sym (ap is_gate e)) g)
            | inr m4 ↦ subst (IsScanGate s n) (only_one d4 d m4) (buffer c q)
          ]
        ]
      ]
    ]

gate_of_definition : (s : Naming) (n : Netlist) (c d : Definition) → Contains n.definitions c → Contains (scan_definition s c) d → is_gate d ≡ true → IsScanGate s n d
gate_of_definition s n c d h m g =
    let step : (b : Bool) → is_cell c ≡ b → Contains (cond b (scan_cell s c) (define (s.stem c.id) c.kind (map s.stem c.pins) ∷ [])) d → IsScanGate s n d =
    elim [
      | true ↦ λ e k. gate_of_cell s n c d (filter_contains is_cell n.definitions c h e) k g
      | false ↦ λ e k. subst (IsScanGate s n) (only_one (define (s.stem c.id) c.kind (map s.stem c.pins)) d k) (plain c (filter_contains is_gate n.definitions c h (not_from_false (is_cell c) e)))
    ] in
    step (is_cell c) refl m

pub scan_gate : (s : Naming) (n : Netlist) (d : Definition) → Contains (gates (scanned s n)) d → IsScanGate s n d
scan_gate s n d c =
    let m = contains_filter is_gate (scanned s n).definitions d c in
    elim (contains_cases (define s.enable_not Not (s.enable ∷ [])) d (flat_map (scan_definition s) n.definitions ++ map show_last s.scan_out) m.0) [
      | inl e ↦ subst (IsScanGate s n) e off
      | inr r ↦ elim (Contains-append_cases (flat_map (scan_definition s) n.definitions) (map show_last s.scan_out) d r) [
        | inl f ↦ let w = contains_flat_map (scan_definition s) n.definitions d f in gate_of_definition s n w.0 d w.1 w.2 m.1
        | inr o ↦ let w = contains_map show_last s.scan_out d o in subst (IsScanGate s n) w.2 (show w.0 w.1)
      ]
    ]

abbrev is_driven : Origin → Bool
is_driven (Original x) = true
is_driven Enable = false
is_driven EnableNot = true
is_driven (ScanIn c) = false
is_driven (ScanOut c) = true
is_driven (Captured q) = true
is_driven (Shifted q) = true
is_driven (Chosen q) = true
is_driven (Held q) = false

module _ (s : Naming) (n : Netlist) (naming : IsNaming s n) (chained : IsChained s n) (closed : IsClosed n) (acyclic : IsAcyclic n) (set : ℕ → Bool) (loop : IsLoop (scanned s n) set) where
  of_cell : (q : Definition) → Contains (cells n) q → naming.origin (s.stem q.id) ≡ Original q.id
  of_cell q c = naming.stem q.id (defined_signal n q (contains_filter is_cell n.definitions q c).0)

  of_gate : (d : Definition) → Contains (gates n) d → naming.origin (s.stem d.id) ≡ Original d.id
  of_gate d c = naming.stem d.id (defined_signal n d (contains_filter is_gate n.definitions d c).0)

  driven_gate : (d : Definition) → IsScanGate s n d → is_driven (naming.origin d.id) ≡ true
  driven_gate _ off = ap is_driven naming.enable_not
  driven_gate _ (plain d c) = ap is_driven (of_gate d c)
  driven_gate _ (capture q c) = ap is_driven (naming.cell_pins q c)
  driven_gate _ (shift q c) = ap is_driven (naming.shifted q c)
  driven_gate _ (choose q c) = ap is_driven (naming.chosen q c)
  driven_gate _ (buffer q c) = ap is_driven (of_cell q c)
  driven_gate _ (show p c) = ap is_driven (naming.scan_out p c).1

  driven : (w : ℕ) → set w ≡ true → is_driven (naming.origin w) ≡ true
  driven w h = let m = (loop w h).1 in subst (λ x. is_driven (naming.origin x) ≡ true) m.2 (driven_gate m.0 (scan_gate s n m.0 m.1))

  undriven : (w : ℕ) (o : Origin) → naming.origin w ≡ o → is_driven o ≡ false → set w ≡ true → ⊥
  undriven w o e u h = both_ways (is_driven o) u (sym (ap is_driven e) ∙ driven w h)

  held_out : (q : Definition) → Contains (cells n) q → set (s.held q.id) ≡ true → ⊥
  held_out q c = undriven (s.held q.id) (Held q.id) (naming.held q c) refl

  enable_out : set s.enable ≡ true → ⊥
  enable_out = undriven s.enable Enable naming.enable refl

  -- the signals of the original that stand for members
  inside : ℕ → Bool
  inside x = list_any (λ y. eqb y x) (signals n) && set (s.stem x)

  is_inside : (x : ℕ) → Contains (signals n) x → set (s.stem x) ≡ true → inside x ≡ true
  unfolding inside
  is_inside x c h = and_from (list_any (λ y. eqb y x) (signals n)) (set (s.stem x)) (any_from (λ y. eqb y x) (signals n) x c (eq-eqb x x refl)) h

  signal_inside : (x : ℕ) → inside x ≡ true → Contains (signals n) x × (set (s.stem x) ≡ true)
  unfolding inside
  signal_inside x h =
      let p = and_parts (list_any (λ y. eqb y x) (signals n)) (set (s.stem x)) h in
      let w = any_true (λ y. eqb y x) (signals n) p.0 in
      (subst (Contains (signals n)) (eqb-true w.0 x w.2) w.1, p.1)

  Found : ℕ → Type 0
  Found z = (x : ℕ) × Reads n z x × (inside x ≡ true)

  original : (d : Definition) → IsScanGate s n d → (z x : ℕ) → Contains (signals n) z → d.id ≡ s.stem z → Contains d.pins x → set x ≡ true → Found z
  unfolding Found
  original _ off z x v e c h = absurd (enable_out (subst (λ y. set y ≡ true) (sym (only_one s.enable x c)) h))
  original _ (plain d g) z x v e c h =
      let w = contains_map s.stem d.pins x c in
      let a = of_gate d g in
      let b = naming.stem z v in
      let same : d.id ≡ z = cc in
      let read = All-contains (Contains (signals n)) d.pins w.0 (All-contains (λ (r : Definition). All (Contains (signals n)) r.pins) n.definitions d closed.pins (contains_filter is_gate n.definitions d g).0) w.1 in
      (w.0, (d, g, same, w.1), is_inside w.0 read (ap set w.2 ∙ h))
  original _ (capture q k) z x v e c h = let a = naming.cell_pins q k in let b = naming.stem z v in cc
  original _ (shift q k) z x v e c h = let a = naming.shifted q k in let b = naming.stem z v in cc
  original _ (choose q k) z x v e c h = let a = naming.chosen q k in let b = naming.stem z v in cc
  original _ (buffer q k) z x v e c h = absurd (held_out q k (subst (λ y. set y ≡ true) (sym (only_one (s.held q.id) x c)) h))
  original _ (show p m) z x v e c h = let a = (naming.scan_out p m).1 in let b = naming.stem z v in cc

  stem_out : (z : ℕ) → Contains (signals n) z → set (s.stem z) ≡ true → ⊥
  unfolding Found
  stem_out z c h = acyclic z (
    inside,
    (λ y k.
        let i = signal_inside y k in
        let m = loop (s.stem y) i.1 in
        original m.1.0 (scan_gate s n m.1.0 m.1.1) y m.0 i.0 m.1.2 m.1.3 m.2),
    is_inside z c h,
  )

  -- which gates read what, by where the gate stands in the scan path
  off_out : set s.enable_not ≡ true → ⊥
  off_out h = at _ (scan_gate s n _ (loop s.enable_not h).1.1) (loop s.enable_not h).0 (loop s.enable_not h).1.2 (loop s.enable_not h).1.3 (loop s.enable_not h).2
    where
      at : (d : Definition) → IsScanGate s n d → (x : ℕ) → d.id ≡ s.enable_not → Contains d.pins x → set x ≡ true → ⊥
      at _ off x e c k = enable_out (subst (λ y. set y ≡ true) (sym (only_one s.enable x c)) k)
      at _ (plain d g) x e c k = let a = of_gate d g in let b = naming.enable_not in cc
      at _ (capture q m) x e c k = let a = naming.cell_pins q m in let b = naming.enable_not in cc
      at _ (shift q m) x e c k = let a = naming.shifted q m in let b = naming.enable_not in cc
      at _ (choose q m) x e c k = let a = naming.chosen q m in let b = naming.enable_not in cc
      at _ (buffer q m) x e c k = let a = of_cell q m in let b = naming.enable_not in cc
      at _ (show p m) x e c k = let a = (naming.scan_out p m).1 in let b = naming.enable_not in cc

  pins_out : (q : Definition) → Contains (cells n) q → (x : ℕ) → Contains (map s.stem q.pins ++ s.enable_not ∷ []) x → set x ≡ true → ⊥
  pins_out q m x c h = elim (Contains-append_cases (map s.stem q.pins) (s.enable_not ∷ []) x c) [
    | inl p ↦
        let w = contains_map s.stem q.pins x p in
        let read = All-contains (Contains (signals n)) q.pins w.0 (All-contains (λ (r : Definition). All (Contains (signals n)) r.pins) n.definitions q closed.pins (contains_filter is_cell n.definitions q m).0) w.1 in
        stem_out w.0 read (ap set w.2 ∙ h)
    | inr p ↦ off_out (subst (λ y. set y ≡ true) (sym (only_one s.enable_not x p)) h)
  ]

  shift_pins_out : (q : Definition) → Contains (cells n) q → (x : ℕ) → Contains (s.before q.id ∷ s.enable ∷ []) x → set x ≡ true → ⊥
  shift_pins_out q m x c h = elim (contains_cases (s.before q.id) x (s.enable ∷ []) c) [
    | inl e ↦ elim (chained.before q m) [
      | inl w ↦ held_out w.0 w.1 (ap set (sym w.2 ∙ e) ∙ h)
      | inr i ↦ let o = naming.scan_in (s.before q.id) i in undriven (s.before q.id) (ScanIn o.0) o.1 refl (ap set e ∙ h)
    ]
    | inr p ↦ enable_out (ap set (only_one s.enable x p) ∙ h)
  ]

  captured_out : (q : Definition) → Contains (cells n) q → set (s.pins q.id) ≡ true → ⊥
  captured_out q c h = at _ (scan_gate s n _ (loop (s.pins q.id) h).1.1) (loop (s.pins q.id) h).0 (loop (s.pins q.id) h).1.2 (loop (s.pins q.id) h).1.3 (loop (s.pins q.id) h).2
    where
      at : (d : Definition) → IsScanGate s n d → (x : ℕ) → d.id ≡ s.pins q.id → Contains d.pins x → set x ≡ true → ⊥
      at _ off x e p k = let a = naming.cell_pins q c in let b = naming.enable_not in cc
      at _ (plain d g) x e p k = let a = of_gate d g in let b = naming.cell_pins q c in cc
      at _ (capture r m) x e p k = pins_out r m x p k
      at _ (shift r m) x e p k = shift_pins_out r m x p k
      at _ (choose r m) x e p k = let a = naming.chosen r m in let b = naming.cell_pins q c in cc
      at _ (buffer r m) x e p k = let a = of_cell r m in let b = naming.cell_pins q c in cc
      at _ (show r m) x e p k = let a = (naming.scan_out r m).1 in let b = naming.cell_pins q c in cc

  shifted_out : (q : Definition) → Contains (cells n) q → set (s.shifted q.id) ≡ true → ⊥
  shifted_out q c h = at _ (scan_gate s n _ (loop (s.shifted q.id) h).1.1) (loop (s.shifted q.id) h).0 (loop (s.shifted q.id) h).1.2 (loop (s.shifted q.id) h).1.3 (loop (s.shifted q.id) h).2
    where
      at : (d : Definition) → IsScanGate s n d → (x : ℕ) → d.id ≡ s.shifted q.id → Contains d.pins x → set x ≡ true → ⊥
      at _ off x e p k = let a = naming.shifted q c in let b = naming.enable_not in cc
      at _ (plain d g) x e p k = let a = of_gate d g in let b = naming.shifted q c in cc
      at _ (capture r m) x e p k = pins_out r m x p k
      at _ (shift r m) x e p k = shift_pins_out r m x p k
      at _ (choose r m) x e p k = let a = naming.chosen r m in let b = naming.shifted q c in cc
      at _ (buffer r m) x e p k = let a = of_cell r m in let b = naming.shifted q c in cc
      at _ (show r m) x e p k = let a = (naming.scan_out r m).1 in let b = naming.shifted q c in cc

  any_gate_out : (d : Definition) → IsScanGate s n d → (x : ℕ) → Contains d.pins x → set d.id ≡ true → set x ≡ true → ⊥
  any_gate_out _ off x p h k = off_out h
  any_gate_out _ (plain d g) x p h k = stem_out d.id (defined_signal n d (contains_filter is_gate n.definitions d g).0) h
  any_gate_out _ (capture q m) x p h k = pins_out q m x p k
  any_gate_out _ (shift q m) x p h k = shift_pins_out q m x p k
  any_gate_out _ (choose q m) x p h k = elim (contains_cases (s.pins q.id) x (s.shifted q.id ∷ []) p) [
    | inl e ↦ captured_out q m (ap set e ∙ k)
    | inr r ↦ shifted_out q m (ap set (only_one (s.shifted q.id) x r) ∙ k)
  ]
  any_gate_out _ (buffer q m) x p h k = held_out q m (ap set (only_one (s.held q.id) x p) ∙ k)
  any_gate_out _ (show r m) x p h k = let w = chained.shows r m in held_out w.0 w.1 (ap set (sym w.2 ∙ only_one r.1 x p) ∙ k)

  pub nothing : (z : ℕ) → set z ≡ true → ⊥
  nothing z h = let m = loop z h in any_gate_out m.1.0 (scan_gate s n m.1.0 m.1.1) m.0 m.1.3 (ap set m.1.2 ∙ h) m.2

pub scanned_acyclic : (s : Naming) (n : Netlist) → IsNaming s n → IsChained s n → IsClosed n → IsAcyclic n → IsAcyclic (scanned s n)
scanned_acyclic s n naming chained closed acyclic z w = nothing s n naming chained closed acyclic w.0 w.1 z w.2
