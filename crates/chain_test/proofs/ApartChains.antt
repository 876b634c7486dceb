-- The shift paths of two chains have no line in common: a stuck line of the one is none of the other's.
use Rattle.std.proofs.Common.{◌≡◌, ◌≢◌, ℕ, suc, zero, ◌+◌, ◌-◌, ◌<◌, ◌≤◌, ◌⊎◌, Bool, false, eqb, List, [], ◌∷◌, ◌++◌, map, length, get_or, Some, slice_get, refl, sym, ◌∙◌, ap, subst, inl, inr, arith, length-append}
use Rattle.std.specs.List.{AllPairs, Contains}
use Rattle.std.proofs.lemmas.Bool.{cases_lt, ne_eqb, and_left}
use Rattle.std.proofs.lemmas.List.{get_or-map, get_or_append_left, get_or-append_right}
use Rattle.statement.specs.declared.lines.Line.{Line}
use Rattle.statement.specs.declared.lines.Line.TheVariants.{Stem, Pin}
use Rattle.statement.specs.declared.lines.Fault.{Fault}
use Rattle.statement.specs.Netlists.{Definition, Netlist, cells}
use Rattle.statement.specs.Values.{is_line, stuck}
use Rattle.statement.specs.Tests.{cells_of}
use Rattle.scan_insert.specs.Scan.{Naming}
use Rattle.scan_insert.specs.Scanned.{last_of}
use Rattle.scan_insert.proofs.Namings.{Origin, ScanIn, ScanOut, Shifted, Chosen, Held, IsNaming}
use Rattle.scan_play.proofs.Places.{get_of}
use Rattle.chain_test.proofs.StuckPath.{free, put_out, taken}
use Rattle.chain_test.proofs.PathLines.{OnPath, at_input, at_pin, at_shifted, at_chosen, at_held, at_shown, at_output}

-- ---- no cell is in two chains

-- how many cells the chains before have
start : List (List ℕ) → ℕ → ℕ
start [] c = 0
start (own ∷ chains) zero = 0
start (own ∷ chains) (suc c) = length own + start chains c

stands : (chains : List (List ℕ)) (c : ℕ) (own : List ℕ) → slice_get chains c ≡ Some own → (k d : ℕ) → k < length own
    → (get_or (cells_of chains) (start chains c + k) d ≡ get_or own k d) × (start chains c + k < length (cells_of chains))
unfolding start
stands [] c own e k d l = cc
stands (x ∷ chains) zero own e k d l =
    let same : x ≡ own = get_of (x ∷ chains) zero own own e in
    let below : k < length x = subst (λ (y : List ℕ). k < length y) (sym same) l in
    let at : 0 + k ≡ k = omega arith in (
      ap (λ i. get_or (x ++ cells_of chains) i d) at ∙ (get_or_append_left x (cells_of chains) d k below ∙ ap (λ (y : List ℕ). get_or y k d) same),
      omega (arith, below, length-append x (cells_of chains)),
    )
stands (x ∷ chains) (suc c) own e k d l =
    let r = stands chains c own e k d l in
    let from : length x + start chains c + k - length x ≡ start chains c + k = omega arith in (
      get_or-append_right x (cells_of chains) (length x) (length x + start chains c + k) d refl (omega arith) ∙ (ap (λ i. get_or (cells_of chains) i d) from ∙ r.0),
      omega (arith, r.1, length-append x (cells_of chains)),
    )

in_order : (chains : List (List ℕ)) (c e : ℕ) (own other : List ℕ) → slice_get chains c ≡ Some own → slice_get chains e ≡ Some other → c < e → start chains c + length own ≤ start chains e
unfolding start
in_order [] c e own other p q l = cc
in_order (x ∷ chains) c zero own other p q l = absurd (omega arith)
in_order (x ∷ chains) zero (suc e) own other p q l =
    let same = ap length (get_of (x ∷ chains) zero own own p) in omega arith
in_order (x ∷ chains) (suc c) (suc e) own other p q l = let h = in_order chains c e own other p q (omega arith) in omega arith

module _ (chains : List (List ℕ)) (distinct : AllPairs (λ x y. x ≢ y) (cells_of chains)) where
  ordered_apart : (c e : ℕ) (own other : List ℕ) → slice_get chains c ≡ Some own → slice_get chains e ≡ Some other → c < e
      → (k j : ℕ) → k < length own → j < length other → get_or own k 0 ≡ get_or other j 0 → ⊥
  ordered_apart c e own other p q l k j below within same =
      let a = stands chains c own p k 0 below in
      let b = stands chains e other q j 0 within in
      let h = in_order chains c e own other p q l in
      distinct (start chains c + k) (start chains e + j) 0 (omega arith) b.1 (a.0 ∙ (same ∙ sym b.0))

  pub cells_apart : (c e : ℕ) (own other : List ℕ) → slice_get chains c ≡ Some own → slice_get chains e ≡ Some other → (c ≡ e → ⊥)
      → (k j : ℕ) → k < length own → j < length other → get_or own k 0 ≡ get_or other j 0 → ⊥
  cells_apart c e own other p q differ k j below within same = elim (cases_lt c e) [
    | inl l ↦ ordered_apart c e own other p q l k j below within same
    | inr l ↦ elim (cases_lt e c) [
      | inl m ↦ ordered_apart e c other own q p m j k within below (sym same)
      | inr m ↦ absurd (differ (omega arith))
    ]
  ]

-- ---- signals of a shift path

-- a gate of a scan cell on the shift path
data Gate : Type 0 where
  shifts : Gate
  chooses : Gate
  keeps : Gate

gate : Naming → Gate → ℕ → ℕ
gate s shifts q = s.shifted q
gate s chooses q = s.chosen q
gate s keeps q = s.held q

origin_of : Gate → ℕ → Origin
origin_of shifts q = Shifted q
origin_of chooses q = Chosen q
origin_of keeps q = Held q

data OnWay (s : Naming) (input output : ℕ) (own : List ℕ) : ℕ → Type 0 where
  enters : (w : ℕ) → w ≡ input → OnWay s input output own w
  goes : (w k : ℕ) (p : Gate) → k < length own → w ≡ gate s p (get_or own k 0) → OnWay s input output own w
  leaves : (w : ℕ) → w ≡ output → OnWay s input output own w

way_of : (s : Naming) (input output : ℕ) (own : List ℕ) (l : Line) → OnPath s input output own l → (w : ℕ) × OnWay s input output own w × ((l ≡ Stem w) ⊎ (l ≡ Pin w 0))
unfolding gate
way_of s input output own l (at_input _ e) = (input, enters input refl, inl e)
way_of s input output own l (at_pin _ k below e) = (s.shifted (get_or own k 0), goes (s.shifted (get_or own k 0)) k shifts below refl, inr e)
way_of s input output own l (at_shifted _ k below e) = (s.shifted (get_or own k 0), goes (s.shifted (get_or own k 0)) k shifts below refl, inl e)
way_of s input output own l (at_chosen _ k below e) = (s.chosen (get_or own k 0), goes (s.chosen (get_or own k 0)) k chooses below refl, inl e)
way_of s input output own l (at_held _ k below e) = (s.held (get_or own k 0), goes (s.held (get_or own k 0)) k keeps below refl, inl e)
way_of s input output own l (at_shown _ e) = (output, leaves output refl, inr e)
way_of s input output own l (at_output _ e) = (output, leaves output refl, inl e)

one_cell : (p r : Gate) (q t : ℕ) → origin_of p q ≡ origin_of r t → q ≡ t
unfolding origin_of
one_cell shifts shifts q t e = cc
one_cell shifts chooses q t e = cc
one_cell shifts keeps q t e = cc
one_cell chooses shifts q t e = cc
one_cell chooses chooses q t e = cc
one_cell chooses keeps q t e = cc
one_cell keeps shifts q t e = cc
one_cell keeps chooses q t e = cc
one_cell keeps keeps q t e = cc

no_input : (i q : ℕ) (p : Gate) → ScanIn i ≡ origin_of p q → ⊥
unfolding origin_of
no_input i q shifts e = cc
no_input i q chooses e = cc
no_input i q keeps e = cc

no_output : (i q : ℕ) (p : Gate) → ScanOut i ≡ origin_of p q → ⊥
unfolding origin_of
no_output i q shifts e = cc
no_output i q chooses e = cc
no_output i q keeps e = cc

-- the signals of a chain's path stand for what they are
pub record IsWay (s : Naming) (n : Netlist) (naming : IsNaming s n) (input output : ℕ) (own : List ℕ) : Type 0 where
  pub first : (i : ℕ) × (naming.origin input ≡ ScanIn i)
  pub last : (i : ℕ) × (naming.origin output ≡ ScanOut i)
  pub cell : (k : ℕ) → k < length own → (d : Definition) × Contains (cells n) d × (d.id ≡ get_or own k 0)

module _ (s : Naming) (n : Netlist) (naming : IsNaming s n) where
  gate_origin : (p : Gate) (d : Definition) → Contains (cells n) d → naming.origin (gate s p d.id) ≡ origin_of p d.id
  unfolding gate origin_of
  gate_origin shifts d c = naming.shifted d c
  gate_origin chooses d c = naming.chosen d c
  gate_origin keeps d c = naming.held d c

  gate_stands : (input output : ℕ) (own : List ℕ) → IsWay s n naming input output own → (p : Gate) (k : ℕ) → k < length own → naming.origin (gate s p (get_or own k 0)) ≡ origin_of p (get_or own k 0)
  gate_stands input output own way p k l =
      let d = way.cell k l in
      subst (λ q. naming.origin (gate s p q) ≡ origin_of p q) d.2 (gate_origin p d.0 d.1)

  module _ (input output : ℕ) (own : List ℕ) (way : IsWay s n naming input output own) (entry exit : ℕ) (other : List ℕ) (also : IsWay s n naming entry exit other)
      (ins : input ≡ entry → ⊥) (outs : output ≡ exit → ⊥) (apart : (k j : ℕ) → k < length own → j < length other → get_or own k 0 ≡ get_or other j 0 → ⊥) where
    differ : (w v : ℕ) → OnWay s input output own w → OnWay s entry exit other v → w ≡ v → ⊥
    differ w v (enters _ a) (enters _ b) e = ins (sym a ∙ (e ∙ b))
    differ w v (enters _ a) (goes _ j r l b) e =
        no_input way.first.0 (get_or other j 0) r (sym way.first.1 ∙ (ap naming.origin (sym a ∙ (e ∙ b)) ∙ gate_stands entry exit other also r j l))
    differ w v (enters _ a) (leaves _ b) e =
        let same : ScanIn way.first.0 ≡ ScanOut also.last.0 = sym way.first.1 ∙ (ap naming.origin (sym a ∙ (e ∙ b)) ∙ also.last.1) in cc
    differ w v (goes _ k p l a) (enters _ b) e =
        no_input also.first.0 (get_or own k 0) p (sym also.first.1 ∙ (ap naming.origin (sym b ∙ (sym e ∙ a)) ∙ gate_stands input output own way p k l))
    differ w v (goes _ k p l a) (goes _ j r m b) e =
        apart k j l m (one_cell p r (get_or own k 0) (get_or other j 0)
        (sym (gate_stands input output own way p k l) ∙ (ap naming.origin (sym a ∙ (e ∙ b)) ∙ gate_stands entry exit other also r j m)))
    differ w v (goes _ k p l a) (leaves _ b) e =
        no_output also.last.0 (get_or own k 0) p (sym also.last.1 ∙ (ap naming.origin (sym b ∙ (sym e ∙ a)) ∙ gate_stands input output own way p k l))
    differ w v (leaves _ a) (enters _ b) e =
        let same : ScanOut way.last.0 ≡ ScanIn also.first.0 = sym way.last.1 ∙ (ap naming.origin (sym a ∙ (e ∙ b)) ∙ also.first.1) in cc
    differ w v (leaves _ a) (goes _ j r l b) e =
        no_output way.last.0 (get_or other j 0) r (sym way.last.1 ∙ (ap naming.origin (sym a ∙ (e ∙ b)) ∙ gate_stands entry exit other also r j l))
    differ w v (leaves _ a) (leaves _ b) e = outs (sym a ∙ (e ∙ b))

    off_stem : (g : Fault) → OnPath s input output own g.line → (v : ℕ) → OnWay s entry exit other v → is_line g.line (Stem v) ≡ false
    off_stem g path v on =
        let w = way_of s input output own g.line path in
        elim w.2 [
          | inl e ↦ ap (λ m. is_line m (Stem v)) e ∙ ne_eqb w.0 v (differ w.0 v w.1 on)
          | inr e ↦ ap (λ m. is_line m (Stem v)) e
        ]

    off_pin : (g : Fault) → OnPath s input output own g.line → (v : ℕ) → OnWay s entry exit other v → is_line g.line (Pin v 0) ≡ false
    off_pin g path v on =
        let w = way_of s input output own g.line path in
        elim w.2 [
          | inl e ↦ ap (λ m. is_line m (Pin v 0)) e
          | inr e ↦ ap (λ m. is_line m (Pin v 0)) e ∙ and_left (eqb w.0 v) (eqb 0 0) (ne_eqb w.0 v (differ w.0 v w.1 on))
        ]

-- each cell of the chain takes what comes before it, and the scan output shows what the last one holds
pub record IsClear {V : Type 0} (known : Bool → V) (g : Fault) (s : Naming) (input output : ℕ) (own : List ℕ) : Type 0 where
  pub takes : (k : ℕ) → k < length own → (w : V) → taken known g s (get_or own k 0) (stuck known (Some g) (Stem (get_or (input ∷ map s.held own) k 0)) w) ≡ w
  pub shows : (w : V) → put_out known g output (stuck known (Some g) (Stem (s.held (last_of own))) w) ≡ w

pub clear_of : {V : Type 0} (known : Bool → V) (g : Fault) (s : Naming) (n : Netlist) (naming : IsNaming s n) (input output : ℕ) (own : List ℕ) (way : IsWay s n naming input output own)
    (entry exit : ℕ) (other : List ℕ) (also : IsWay s n naming entry exit other) → 0 < length other → (input ≡ entry → ⊥) → (output ≡ exit → ⊥)
    → ((k j : ℕ) → k < length own → j < length other → get_or own k 0 ≡ get_or other j 0 → ⊥) → OnPath s input output own g.line → IsClear known g s entry exit other
unfolding gate
clear_of {V} known g s n naming input output own way entry exit other also some ins outs apart path = record { takes = takes; shows = shows }
  where
    stem : (v : ℕ) → OnWay s entry exit other v → (w : V) → stuck known (Some g) (Stem v) w ≡ w
    stem v on w = free known g (Stem v) w (off_stem s n naming input output own way entry exit other also ins outs apart g path v on)

    pin : (v : ℕ) → OnWay s entry exit other v → (w : V) → stuck known (Some g) (Pin v 0) w ≡ w
    pin v on w = free known g (Pin v 0) w (off_pin s n naming input output own way entry exit other also ins outs apart g path v on)

    held : (k : ℕ) → k < length other → OnWay s entry exit other (s.held (get_or other k 0))
    held k l = goes (s.held (get_or other k 0)) k keeps l refl

    before : (k : ℕ) → k < length other → (w : V) → stuck known (Some g) (Stem (get_or (entry ∷ map s.held other) k 0)) w ≡ w
    before zero l w = stem entry (enters entry refl) w
    before (suc k) l w =
        ap (λ x. stuck known (Some g) (Stem x) w) (get_or-map s.held other k 0 0 (omega arith)) ∙ stem (s.held (get_or other k 0)) (held k (omega arith)) w

    takes : (k : ℕ) → k < length other → (w : V) → taken known g s (get_or other k 0) (stuck known (Some g) (Stem (get_or (entry ∷ map s.held other) k 0)) w) ≡ w
    takes k l w =
        let q = get_or other k 0 in
        let shifted = goes (s.shifted q) k shifts l refl in
        let chosen = goes (s.chosen q) k chooses l refl in
        ap (taken known g s q) (before k l w)
        ∙ (ap (λ v. stuck known (Some g) (Stem (s.chosen q)) (stuck known (Some g) (Stem (s.shifted q)) v)) (pin (s.shifted q) shifted w)
        ∙ (ap (λ v. stuck known (Some g) (Stem (s.chosen q)) v) (stem (s.shifted q) shifted w) ∙ stem (s.chosen q) chosen w))

    shows : (w : V) → put_out known g exit (stuck known (Some g) (Stem (s.held (last_of other))) w) ≡ w
    shows w =
        let out = leaves exit refl in
        ap (put_out known g exit) (stem (s.held (last_of other)) (held (length other - 1) (omega arith)) w)
        ∙ (ap (λ v. stuck known (Some g) (Stem exit) v) (pin exit out w) ∙ stem exit out w)
