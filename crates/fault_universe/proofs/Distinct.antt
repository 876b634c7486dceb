-- No line and no fault stands twice.
use Rattle.std.proofs.Common.{◌≡◌, ◌≢◌, ℕ, suc, zero, ◌+◌, ◌<◌, ◌≤◌, Bool, true, false, cond, eqb, leb, List, [], ◌∷◌, ◌++◌, map, length, get_or, refl, sym, ◌∙◌, ap, subst, Some, inl, inr, arith}
use Rattle.std.specs.List.{Contains, filter, flat_map, slice_get}
use Rattle.std.proofs.lemmas.Bool.{both_ways, eqb-true}
use Rattle.std.proofs.lemmas.List.Elements.{Contains-append_cases}
use Rattle.std.specs.Option.{option_map_or}
use Rattle.std.proofs.lemmas.List.{get_or_default}
use Rattle.statement.specs.declared.lines.Line.{Line}
use Rattle.statement.specs.declared.lines.Line.TheVariants.{Stem, Pin, Out}
use Rattle.statement.specs.declared.lines.Fault.{Fault}
use Rattle.statement.specs.Netlists.{Definition, Netlist, signals, pins_reading, readers_of}
use Rattle.netlist.specs.Netlist.{definition_of}
use Rattle.netlist.specs.Conditions.{IsSound}
use Rattle.netlist.proofs.Placed.{id_at, same_definition}
use Rattle.netlist.proofs.Lists.{contains_cases, contains_head, contains_nil, contains_tail}
use Rattle.fault_universe.specs.Universe.{all_lines, branching}
use Rattle.statement.specs.Faults.{faults_of, lines_of, universe_of}
use Rattle.fault_universe.proofs.Elements.{contains_at, flat_map-source}
use Rattle.fault_universe.proofs.Members.{at_pin, fault_line, in_branching}
use Rattle.fault_universe.proofs.Readers.{IsPinOf, out_reading, reader_cases, reader_placed, reading_pin}

-- no element stands twice
abbrev pub IsDistinct : {X : Type 0} → List X → Type 0
IsDistinct [] = Unit {0}
IsDistinct (x ∷ xs) = (Contains xs x → ⊥) × IsDistinct xs

pub one_place : {X : Type 0} (xs : List X) (i j : ℕ) (x : X) → IsDistinct xs → slice_get xs i ≡ Some x → slice_get xs j ≡ Some x → i ≡ j
one_place [] i j x d e f = absurd (cc)
one_place (y ∷ ys) zero zero x d e f = refl
one_place (y ∷ ys) zero (suc j) x d e f = let same : y ≡ x = cc in absurd (d.0 (subst (Contains ys) (sym same) (contains_at ys j x f)))
one_place (y ∷ ys) (suc i) zero x d e f = let same : y ≡ x = cc in absurd (d.0 (subst (Contains ys) (sym same) (contains_at ys i x e)))
one_place (y ∷ ys) (suc i) (suc j) x d e f = ap suc (one_place ys i j x d.1 e f)

pub from_places : {X : Type 0} (xs : List X) → ((i j : ℕ) (d : X) → i < j → j < length xs → get_or xs i d ≢ get_or xs j d) → IsDistinct xs
from_places [] h = tt
from_places (x ∷ xs) h = (
  (λ c. let l : c.0 < length xs = c.1 in h zero (suc c.0) x (omega arith) (omega arith) (sym c.2)),
  from_places xs (λ i j d l m. h (suc i) (suc j) d (omega arith) (omega arith)),
)

distinct_append : {X : Type 0} (xs ys : List X) → IsDistinct xs → IsDistinct ys → ((x : X) → Contains xs x → Contains ys x → ⊥) → IsDistinct (xs ++ ys)
distinct_append [] ys d e apart = e
distinct_append (x ∷ xs) ys d e apart = (
  (λ c. elim (Contains-append_cases xs ys x c) [ inl l ↦ d.0 l | inr r ↦ apart x (contains_head x xs) r ]),
  distinct_append xs ys d.1 e (λ y c. apart y (contains_tail x y xs c)),
)

-- lists of which no two share an element
distinct_flat_map : {X Y : Type 0} (f : X → List Y) (xs : List X) → IsDistinct xs → ((x : X) → Contains xs x → IsDistinct (f x))
    → ((x z : X) (y : Y) → Contains xs x → Contains xs z → Contains (f x) y → Contains (f z) y → x ≡ z) → IsDistinct (flat_map f xs)
distinct_flat_map f [] d each apart = tt
distinct_flat_map f (x ∷ xs) d each apart =
    distinct_append (f x) (flat_map f xs) (each x (contains_head x xs))
    (distinct_flat_map f xs d.1 (λ z c. each z (contains_tail x z xs c)) (λ w z y c e. apart w z y (contains_tail x w xs c) (contains_tail x z xs e)))
    (λ y here there.
    let m = flat_map-source f xs y there in
    d.0 (subst (Contains xs) (sym (apart x m.0 y (contains_head x xs) (contains_tail x m.0 xs m.1) here m.2)) m.1))

-- the pins of one definition that read a signal
pub later_pin : (x z j : ℕ) (ys : List ℕ) (k : ℕ) → Contains (pins_reading x z j ys) (Pin z k) → j ≤ k
later_pin x z j [] k c = absurd (contains_nil (Pin z k) c)
later_pin x z j (y ∷ ys) k c =
    let here : (b : Bool) → Contains (cond b (Pin z j ∷ pins_reading x z (j + 1) ys) (pins_reading x z (j + 1) ys)) (Pin z k) → j ≤ k =
    elim [
      | true ↦ λ c. elim (contains_cases (Pin z j) (Pin z k) (pins_reading x z (j + 1) ys) c) [
        | inl e ↦ let same : j ≡ k = cc in omega arith
        | inr r ↦ let l = later_pin x z (j + 1) ys k r in omega arith
      ]
      | false ↦ λ c. let l = later_pin x z (j + 1) ys k c in omega arith
    ] in
    here (eqb y x) c

distinct_pins : (x z j : ℕ) (ys : List ℕ) → IsDistinct (pins_reading x z j ys)
distinct_pins x z j [] = tt
distinct_pins x z j (y ∷ ys) =
    let here : (b : Bool) → IsDistinct (cond b (Pin z j ∷ pins_reading x z (j + 1) ys) (pins_reading x z (j + 1) ys)) =
    elim [
      | true ↦ ((λ c. let l = later_pin x z (j + 1) ys j c in absurd (omega arith)), distinct_pins x z (j + 1) ys)
      | false ↦ distinct_pins x z (j + 1) ys
    ] in
    here (eqb y x)

distinct_outs : (x : ℕ) (ys : List ℕ) → IsDistinct ys → IsDistinct (map (λ y. Out y) (filter (λ y. eqb y x) ys))
distinct_outs x [] d = tt
distinct_outs x (y ∷ ys) d =
    let here : (b : Bool) → eqb y x ≡ b → IsDistinct (map (λ y. Out y) (cond b (y ∷ filter (λ y. eqb y x) ys) (filter (λ y. eqb y x) ys))) =
    elim [
      | true ↦ λ e. ((λ c. let m = out_reading x ys (Out y) c in d.0 (subst (Contains ys) (sym (eqb-true y x e)) m.1)), distinct_outs x ys d.1)
      | false ↦ λ e. distinct_outs x ys d.1
    ] in
    here (eqb y x) refl

module _ (n : Netlist) (sound : IsSound n) where
  pub distinct_signals : IsDistinct (signals n)
  distinct_signals = from_places (signals n)
      (λ i j d l m e.
      let p : get_or (signals n) i d ≡ i = get_or_default (signals n) i d 0 (omega arith) ∙ sound.formed.numbered i (omega arith) in
      let q : get_or (signals n) j d ≡ j = get_or_default (signals n) j d 0 m ∙ sound.formed.numbered j m in
      omega arith)

  pub distinct_definitions : IsDistinct n.definitions
  distinct_definitions = from_places n.definitions
      (λ i j d l m e.
      let p = id_at n sound.formed.numbered i d (omega arith) in
      let q = id_at n sound.formed.numbered j d m in
      let same : (get_or n.definitions i d).id ≡ (get_or n.definitions j d).id = ap (λ (c : Definition). c.id) e in
      omega arith)

  distinct_readers : (x : ℕ) → IsDistinct (readers_of n x)
  distinct_readers x =
      distinct_append (flat_map (λ (d : Definition). pins_reading x d.id 0 d.pins) n.definitions) (map (λ y. Out y) (filter (λ y. eqb y x) n.outputs))
      (distinct_flat_map (λ (d : Definition). pins_reading x d.id 0 d.pins) n.definitions distinct_definitions (λ d c. distinct_pins x d.id 0 d.pins)
      (λ d e l c f p q.
      let here = reading_pin x d.id 0 d.pins l p in
      let there = reading_pin x e.id 0 e.pins l q in
      let pins : Pin d.id (0 + here.place) ≡ Pin e.id (0 + there.place) = sym here.line ∙ there.line in
      let same : d.id ≡ e.id = cc in
      same_definition n sound.formed.numbered d e c f same))
      (distinct_outs x n.outputs (from_places n.outputs sound.formed.once))
      (λ l p o.
      let pin = reader_placed n x l p in
      let out = out_reading x n.outputs l o in
      let both : Pin pin.0 pin.1 ≡ Out x = sym pin.2 ∙ out.0 in
      absurd (cc))

  stem_is_no_reader : (x y : ℕ) → Contains (readers_of n x) (Stem y) → ⊥
  stem_is_no_reader x y c = elim (reader_cases n x (Stem y) c) [ inl p ↦ let e = p.2 in absurd (cc) | inr o ↦ let e = o.0 in absurd (cc) ]

  distinct_branches : (x : ℕ) (b : Bool) → IsDistinct (cond b (readers_of n x) [])
  distinct_branches x true = distinct_readers x
  distinct_branches x false = tt

  one_read : (x y : ℕ) (l : Line) → Contains (readers_of n x) l → Contains (readers_of n y) l → x ≡ y
  one_read x y l c e = elim (reader_cases n x l c) [
    | inl p ↦ elim (reader_cases n y l e) [
      | inl q ↦
          let pins : Pin p.0 p.1 ≡ Pin q.0 q.1 = sym p.2 ∙ q.2 in
          let id : p.0 ≡ q.0 = cc in
          let place : p.1 ≡ q.1 = cc in
          let at = at_pin n sound p.0 p.1 x (option_map_or (λ (d : Definition). d.pins) (definition_of n p.0) []) refl p.3 in
          let moved : IsPinOf n p.0 p.1 y = subst (λ k. IsPinOf n p.0 k y) (sym place) (subst (λ z. IsPinOf n z q.1 y) (sym id) q.3) in
          let also = at_pin n sound p.0 p.1 y (option_map_or (λ (d : Definition). d.pins) (definition_of n p.0) []) refl moved in
          cc
      | inr o ↦ let both : Pin p.0 p.1 ≡ Out y = sym p.2 ∙ o.0 in absurd (cc)
    ]
    | inr o ↦ elim (reader_cases n y l e) [
      | inl q ↦ let both : Out x ≡ Pin q.0 q.1 = sym o.0 ∙ q.2 in absurd (cc)
      | inr q ↦ let both : Out x ≡ Out y = sym o.0 ∙ q.0 in cc
    ]
  ]

  one_source : (x y : ℕ) (l : Line) → Contains (lines_of n x) l → Contains (lines_of n y) l → x ≡ y
  one_source x y l c e = elim (contains_cases (Stem x) l (branching (readers_of n x)) c) [
    | inl s ↦ elim (contains_cases (Stem y) l (branching (readers_of n y)) e) [
      | inl t ↦ let both : Stem x ≡ Stem y = s ∙ sym t in cc
      | inr r ↦ absurd (stem_is_no_reader y x (subst (Contains (readers_of n y)) (sym s) (in_branching (readers_of n y) l r).1))
    ]
    | inr p ↦ elim (contains_cases (Stem y) l (branching (readers_of n y)) e) [
      | inl t ↦ absurd (stem_is_no_reader x y (subst (Contains (readers_of n x)) (sym t) (in_branching (readers_of n x) l p).1))
      | inr r ↦ one_read x y l (in_branching (readers_of n x) l p).1 (in_branching (readers_of n y) l r).1
    ]
  ]

  distinct_lines : IsDistinct (all_lines n)
  distinct_lines = distinct_flat_map (lines_of n) (signals n) distinct_signals
      (λ x c. ((λ r. stem_is_no_reader x x (in_branching (readers_of n x) (Stem x) r).1), distinct_branches x (leb 2 (length (readers_of n x)))))
      (λ x y l c e. one_source x y l)

  pub distinct_faults : IsDistinct (universe_of n)
  distinct_faults = distinct_flat_map faults_of (all_lines n) distinct_lines
      (λ l c. (
        (λ m. elim (contains_cases (record { line = l; value = true }) (record { line = l; value = false }) [] m) [
          | inl e ↦ let values : true ≡ false = ap (λ (g : Fault). g.value) e in absurd (both_ways true values refl)
          | inr r ↦ contains_nil (record { line = l; value = false }) r
        ]),
        ((λ m. contains_nil (record { line = l; value = true }) m), tt),
      ))
      (λ l m f c e p q. sym (fault_line l f p) ∙ fault_line m f q)
