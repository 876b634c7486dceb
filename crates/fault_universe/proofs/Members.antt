-- Which lines a netlist has, and which faults.
use Rattle.std.proofs.Common.{◌≡◌, ℕ, suc, zero, ◌-◌, ◌<◌, ◌≤◌, ◌⊎◌, Bool, true, false, cond, not, leb, eqb, List, [], ◌∷◌, length, get_or, refl, sym, ◌∙◌, ap, subst, Option, None, Some, inl, inr, arith}
use Rattle.std.specs.List.{All, Contains, find, slice_get}
use Rattle.std.specs.Option.{option_map_or}
use Rattle.std.proofs.lemmas.Bool.{both_ways, eqb-true, le-leb, leb-true, ne_eqb}
use Rattle.std.proofs.lemmas.Option.{get_or_from_slice_get, slice_get-get_or}
use Rattle.std.proofs.lemmas.List.Elements.{All-contains}
use Rattle.statement.specs.declared.lines.Line.{Line}
use Rattle.statement.specs.declared.lines.Line.TheVariants.{Stem, Pin, Out}
use Rattle.statement.specs.declared.lines.Fault.{Fault}
use Rattle.statement.specs.Netlists.{Definition, Netlist, signals, readers_of}
use Rattle.netlist.specs.Netlist.{definition_of}
use Rattle.netlist.specs.Conditions.{IsSound}
use Rattle.statement.specs.Values.{is_line}
use Rattle.netlist.proofs.Found.{defined}
use Rattle.netlist.proofs.Placed.{definition_below, signal_below}
use Rattle.netlist.proofs.WellFormed.{few_pins_of}
use Rattle.netlist.proofs.Lists.{contains_cases, contains_head, contains_nil, contains_tail}
use Rattle.fault_universe.specs.Universe.{all_lines, branching}
use Rattle.statement.specs.Faults.{faults_of, lines_of, universe_of}
use Rattle.fault_universe.specs.inner.Written.{IsWritten}
use Rattle.netlist.specs.Lines.{signal_of, IsLineOf}
use Rattle.fault_universe.proofs.Elements.{contains_at, slice_get_below, Contains-flat_map, flat_map-source}
use Rattle.fault_universe.proofs.Names.{is_signal}
use Rattle.fault_universe.proofs.Readers.{IsPinOf, is_out, last_reads, pin_reads, reader_cases, same_line}

-- branches
branching_step : (rs : List Line) (l : Line) (b : Bool) → leb 2 (length rs) ≡ b → Contains (cond b rs []) l → (2 ≤ length rs) × Contains rs l
branching_step rs l true e c = (leb-true 2 (length rs) e, c)
branching_step rs l false e c = absurd (contains_nil l c)

pub in_branching : (rs : List Line) (l : Line) → Contains (branching rs) l → (2 ≤ length rs) × Contains rs l
in_branching rs l c = branching_step rs l (leb 2 (length rs)) refl c

pub many_branches : (rs : List Line) → 2 ≤ length rs → branching rs ≡ rs
many_branches rs l = ap (λ b. cond b rs []) (le-leb 2 (length rs) l)

few_step : (rs : List Line) (b : Bool) → leb 2 (length rs) ≡ b → length rs < 2 → cond b rs [] ≡ []
few_step rs true e l = let h : 2 ≤ length rs = leb-true 2 (length rs) e in absurd (omega arith)
few_step rs false e l = refl

some_step : (rs : List Line) (b : Bool) → leb 2 (length rs) ≡ b → 0 < length (cond b rs []) → 2 ≤ length rs
some_step rs true e l = leb-true 2 (length rs) e
some_step rs false e l = absurd (omega arith)

pub some_branches : (rs : List Line) → 0 < length (branching rs) → 2 ≤ length rs
some_branches rs l = some_step rs (leb 2 (length rs)) refl l

find_step : {X : Type 0} (t : X → Bool) (x : X) (xs : List X) (d : X) → (find t xs ≡ Some d → Contains xs d × (t d ≡ true)) → (b : Bool) → t x ≡ b
    → cond b (Some x) (find t xs) ≡ Some d → Contains (x ∷ xs) d × (t d ≡ true)
find_step t x xs d later true e f = let same : x ≡ d = cc in (subst (λ y. Contains (y ∷ xs) d) (sym same) (contains_head d xs), sym (ap t same) ∙ e)
find_step t x xs d later false e f = let m = later f in (contains_tail x d xs m.0, m.1)

pub found : {X : Type 0} (t : X → Bool) (xs : List X) (d : X) → find t xs ≡ Some d → Contains xs d × (t d ≡ true)
found t [] d e = absurd (cc)
found t (x ∷ xs) d e = find_step t x xs d (found t xs d) (t x) refl e

-- the pins of the signal z
pin_at_step : (n : Netlist) (z k x : ℕ) (o : Option Definition) → definition_of n z ≡ o → slice_get (option_map_or (λ (d : Definition). d.pins) o []) k ≡ Some x → IsPinOf n z k x
pin_at_step n z k x None e p = absurd (cc)
pin_at_step n z k x (Some d) e p =
    let m = found (λ (c : Definition). eqb c.id z) n.definitions d e in
    record { definition = d; member = m.0; id = eqb-true d.id z m.1; pin = p }

pub pin_at : (n : Netlist) (z k x : ℕ) (pins : List ℕ) → pins ≡ option_map_or (λ (d : Definition). d.pins) (definition_of n z) [] → slice_get pins k ≡ Some x → IsPinOf n z k x
pin_at n z k x pins is e = pin_at_step n z k x (definition_of n z) refl (sym (ap (λ ps. slice_get ps k) is) ∙ e)

module _ (n : Netlist) (sound : IsSound n) where
  pub at_pin : (z k x : ℕ) (pins : List ℕ) → pins ≡ option_map_or (λ (d : Definition). d.pins) (definition_of n z) [] → IsPinOf n z k x → slice_get pins k ≡ Some x
  at_pin z k x pins is p =
      let d = defined n sound.formed.numbered p.definition z p.member p.id in
      ap (λ ps. slice_get ps k) (is ∙ ap (λ o. option_map_or (λ (c : Definition). c.pins) o []) d) ∙ p.pin

  pub read_signal : (z k x : ℕ) → IsPinOf n z k x → Contains (signals n) x
  read_signal z k x p =
      All-contains (Contains (signals n)) p.definition.pins x
      (All-contains (λ (d : Definition). All (Contains (signals n)) d.pins) n.definitions p.definition sound.closed.pins p.member)
      (contains_at p.definition.pins k x p.pin)

  pub pin_signal : (z k x : ℕ) → IsPinOf n z k x → z < length (signals n)
  pin_signal z k x p = let l = definition_below n sound.formed.numbered p.definition p.member in let e = p.id in omega arith

  pin_number : (z k x : ℕ) → IsPinOf n z k x → k < 1024
  pin_number z k x p =
      let few = few_pins_of n sound.closed p.definition p.member in
      let l = slice_get_below p.definition.pins k x p.pin in
      omega arith

  -- lines
  pub stem_is_line : (x : ℕ) → x < length (signals n) → Contains (all_lines n) (Stem x)
  stem_is_line x l = Contains-flat_map (lines_of n) (signals n) x (Stem x) (is_signal n sound.formed.numbered x l) (contains_head (Stem x) (branching (readers_of n x)))

  pub branch_is_line : (x : ℕ) (l : Line) → Contains (signals n) x → Contains (branching (readers_of n x)) l → Contains (all_lines n) l
  branch_is_line x l s c = Contains-flat_map (lines_of n) (signals n) x l s (contains_tail (Stem x) l (branching (readers_of n x)) c)

  pub line_cases : (l : Line) → Contains (all_lines n) l → (x : ℕ) × Contains (signals n) x × ((Stem x ≡ l) ⊎ ((2 ≤ length (readers_of n x)) × Contains (readers_of n x) l))
  line_cases l c =
      let m = flat_map-source (lines_of n) (signals n) l c in
      (m.0, m.1, elim (contains_cases (Stem m.0) l (branching (readers_of n m.0)) m.2) [ inl e ↦ inl e | inr r ↦ inr (in_branching (readers_of n m.0) l r) ])

  pub line_written : (l : Line) → Contains (all_lines n) l → IsWritten n l
  line_written l c =
      let m = line_cases l c in
      elim m.2 [
        | inl e ↦ subst (IsWritten n) e (signal_below n sound.formed.numbered m.0 m.1)
        | inr r ↦ elim (reader_cases n m.0 l r.1) [
          | inl p ↦ let few = pin_number p.0 p.1 m.0 p.3 in subst (IsWritten n) (sym p.2) (pin_signal p.0 p.1 m.0 p.3, omega arith)
          | inr o ↦ subst (IsWritten n) (sym o.0) (signal_below n sound.formed.numbered m.0 m.1)
        ]
      ]

  pub line_of : (l : Line) → Contains (all_lines n) l → IsLineOf n l
  line_of l c =
      let m = line_cases l c in
      elim m.2 [
        | inl e ↦ subst (IsLineOf n) e m.1
        | inr r ↦ elim (reader_cases n m.0 l r.1) [
          | inl p ↦
              let at : IsPinOf n p.0 p.1 m.0 = p.3 in
              subst (IsLineOf n) (sym p.2) (at.definition, at.member, at.id, slice_get_below at.definition.pins p.1 m.0 at.pin)
          | inr o ↦ subst (IsLineOf n) (sym o.0) o.1
        ]
      ]

  -- the pins and outputs among the lines
  pub pin_line : (z k x : ℕ) → IsPinOf n z k x → 2 ≤ length (readers_of n x) → Contains (all_lines n) (Pin z k)
  pin_line z k x p many = branch_is_line x (Pin z k) (read_signal z k x p) (subst (λ rs. Contains rs (Pin z k)) (sym (many_branches (readers_of n x) many)) (pin_reads n x z k p))

  pub line_pin : (z k : ℕ) → Contains (all_lines n) (Pin z k) → (x : ℕ) × IsPinOf n z k x × (2 ≤ length (readers_of n x))
  line_pin z k c =
      let m = line_cases (Pin z k) c in
      elim m.2 [
        | inl e ↦ absurd (cc)
        | inr r ↦ elim (reader_cases n m.0 (Pin z k) r.1) [
          | inl p ↦
              let id : p.0 ≡ z = cc in
              let place : p.1 ≡ k = cc in
              (m.0, subst (λ j. IsPinOf n z j m.0) place (subst (λ w. IsPinOf n w p.1 m.0) id p.3), r.0)
          | inr o ↦ absurd (cc)
        ]
      ]

  pub line_out : (y : ℕ) → Contains (all_lines n) (Out y) → Contains n.outputs y × (2 ≤ length (readers_of n y))
  line_out y c =
      let m = line_cases (Out y) c in
      elim m.2 [
        | inl e ↦ absurd (cc)
        | inr r ↦ elim (reader_cases n m.0 (Out y) r.1) [
          | inl p ↦ absurd (cc)
          | inr o ↦ let is : m.0 ≡ y = cc in (subst (Contains n.outputs) is o.1, subst (λ x. 2 ≤ length (readers_of n x)) is r.0)
        ]
      ]

-- faults
pub fault_is_member : (n : Netlist) (l : Line) (v : Bool) → Contains (all_lines n) l → Contains (universe_of n) (record { line = l; value = v })
fault_is_member n l false c = Contains-flat_map faults_of (all_lines n) l (record { line = l; value = false }) c (contains_head (record { line = l; value = false }) (record { line = l; value = true } ∷ []))
fault_is_member n l true c = Contains-flat_map faults_of (all_lines n) l (record { line = l; value = true }) c
    (contains_tail (record { line = l; value = false }) (record { line = l; value = true }) (record { line = l; value = true } ∷ []) (contains_head (record { line = l; value = true }) []))

pub fault_line : (l : Line) (f : Fault) → Contains (faults_of l) f → f.line ≡ l
fault_line l f c = elim (contains_cases (record { line = l; value = false }) f (record { line = l; value = true } ∷ []) c) [
  | inl e ↦ sym (ap (λ (g : Fault). g.line) e)
  | inr r ↦ elim (contains_cases (record { line = l; value = true }) f [] r) [ inl e ↦ sym (ap (λ (g : Fault). g.line) e) | inr none ↦ absurd (contains_nil f none) ]
]

pub member_line : (n : Netlist) (f : Fault) → Contains (universe_of n) f → Contains (all_lines n) f.line
member_line n f c =
    let m = flat_map-source faults_of (all_lines n) f c in
    subst (Contains (all_lines n)) (sym (fault_line m.0 f m.2)) m.1

written_signal : (n : Netlist) (l : Line) → IsWritten n l → signal_of l < length (signals n)
written_signal n (Stem x) w = w
written_signal n (Pin z k) w = w.0
written_signal n (Out y) w = w

pub member_signal : (n : Netlist) → IsSound n → (i : ℕ) (f : Fault) → slice_get (universe_of n) i ≡ Some f → signal_of f.line < length (signals n)
member_signal n sound i f e = written_signal n f.line (line_written n sound f.line (member_line n f (contains_at (universe_of n) i f e)))

-- numbers that are zero or not
not_zero : (m : ℕ) → not (eqb m 0) ≡ true → 0 < m
not_zero zero e = absurd (both_ways false refl e)
not_zero (suc m) e = omega arith

module _ (n : Netlist) (sound : IsSound n) where
  -- the last branch of a stem tells whether its output is one
  pub last_branch : (y : ℕ) (rs : List Line) (last : Line) (b : Bool) → y < length (signals n) → rs ≡ branching (readers_of n y) → Some last ≡ slice_get rs (length rs - 1) → b ≡ is_line last (Out y)
      → (b ≡ true → Contains (all_lines n) (Out y)) × (Contains (all_lines n) (Out y) → b ≡ true)
  last_branch y rs last b l is at t = (
    (λ e.
        let same : last ≡ Out y = same_line last (Out y) (sym t ∙ e) in
        branch_is_line n sound y (Out y) (is_signal n sound.formed.numbered y l) (subst (λ qs. Contains qs (Out y)) is (subst (Contains rs) same (contains_at rs (length rs - 1) last (sym at))))),
    (λ c.
        let m = line_out n sound y c in
        let whole : rs ≡ readers_of n y = is ∙ many_branches (readers_of n y) m.1 in
        let out : get_or rs (length rs - 1) last ≡ Out y = ap (λ qs. get_or qs (length qs - 1) last) whole ∙ last_reads n y m.0 last in
        t ∙ is_out y last (sym (get_or_from_slice_get rs (length rs - 1) last last (sym at)) ∙ out)),
  )

  pub no_last_branch : (y : ℕ) (rs : List Line) → rs ≡ branching (readers_of n y) → None ≡ slice_get rs (length rs - 1) → Contains (all_lines n) (Out y) → ⊥
  no_last_branch y rs is at c =
      let m = line_out n sound y c in
      let whole : rs ≡ readers_of n y = is ∙ many_branches (readers_of n y) m.1 in
      let size : length rs ≡ length (readers_of n y) = ap length whole in
      let many : 2 ≤ length (readers_of n y) = m.1 in
      let some : slice_get rs (length rs - 1) ≡ Some (get_or rs (length rs - 1) (Out y)) = slice_get-get_or rs (length rs - 1) (Out y) (omega arith) in
      absurd (cc)

  -- the pin at a place, and whether it is a branch
  module _ (z k : ℕ) (pins : List ℕ) (are : pins ≡ option_map_or (λ (d : Definition). d.pins) (definition_of n z) []) where
    pub branch_at_pin : (x : ℕ) (rs : List Line) (b : Bool) → slice_get pins k ≡ Some x → rs ≡ branching (readers_of n x) → b ≡ eqb (length rs) 0
        → (not b ≡ true → Contains (all_lines n) (Pin z k)) × (Contains (all_lines n) (Pin z k) → not b ≡ true)
    branch_at_pin x rs b e is t = (
      (λ some.
          let low : 0 < length rs = not_zero (length rs) (ap not (sym t) ∙ some) in
          pin_line n sound z k x (pin_at n z k x pins are e) (some_branches (readers_of n x) (subst (λ qs. 0 < length qs) is low))),
      (λ c.
          let m = line_pin n sound z k c in
          let there : slice_get pins k ≡ Some m.0 = at_pin n sound z k m.0 pins are m.1 in
          let same : m.0 ≡ x = cc in
          let many : 2 ≤ length (readers_of n x) = subst (λ y. 2 ≤ length (readers_of n y)) same m.2 in
          let whole : rs ≡ readers_of n x = is ∙ many_branches (readers_of n x) many in
          let size : length rs ≡ length (readers_of n x) = ap length whole in
          ap not t ∙ ap not (ne_eqb (length rs) 0 (omega arith))),
    )

    pub no_pin : slice_get pins k ≡ None → Contains (all_lines n) (Pin z k) → ⊥
    no_pin e c =
        let m = line_pin n sound z k c in
        let there : slice_get pins k ≡ Some m.0 = at_pin n sound z k m.0 pins are m.1 in
        absurd (cc)
