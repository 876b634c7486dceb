-- A netlist's faults have one list of classes.
use Rattle.std.proofs.Common.{◌≡◌, ℕ, zero, suc, ◌<◌, ◌≤◌, List, length, get_or, sym, ◌∙◌, ap, ap₂, Some, inl, inr, false, arith}
use Rattle.std.specs.List.{slice_get}
use Rattle.std.proofs.lemmas.Bool.{cases_lt, cases_order}
use Rattle.std.proofs.lemmas.Grind.{same_number_lists}
use Rattle.std.proofs.lemmas.List.{ext_get_or}
use Rattle.std.proofs.lemmas.List.Elements.{All-get_or}
use Rattle.std.proofs.lemmas.Option.{get_or_from_slice_get, slice_get-get_or, slice_get_within}
use Rattle.statement.specs.declared.lines.Fault.{Fault}
use Rattle.statement.specs.declared.lines.Line.TheVariants.{Stem}
use Rattle.statement.specs.Netlists.{Netlist}
use Rattle.statement.specs.Faults.{universe_of}
use Rattle.fault_collapse.specs.Numbers.{Classes}
use Rattle.fault_collapse.specs.Classes.{AreClasses}

-- a fault to read past the end of a list
blank : Fault
blank = record { line = Stem 0; value = false }

module _ (n : Netlist) where
  fault_at : (i : ℕ) → i < length (universe_of n) → slice_get (universe_of n) i ≡ Some (get_or (universe_of n) i blank)
  fault_at i l = slice_get-get_or (universe_of n) i blank l

  within : (c : Classes) → AreClasses n c → (i : ℕ) → i < length (universe_of n) → get_or c.numbers i 0 < length c.representatives
  within c p i l = let size = p.size in All-get_or (λ class. class < length c.representatives) c.numbers i 0 (omega arith) p.within

  -- where the numbers before agree, none is the less
  not_less : (c d : Classes) → AreClasses n c → AreClasses n d → (m : ℕ) → m < length (universe_of n)
      → ((j : ℕ) → j < m → get_or c.numbers j 0 ≡ get_or d.numbers j 0) → get_or c.numbers m 0 < get_or d.numbers m 0 → ⊥
  not_less c d p q m l before less =
      let k = get_or c.numbers m 0 in
      let high = within d q m l in
      let f = q.first k (omega arith) in
      let member = f.member in
      elim (cases_order f.place m) [
        | inl same ↦ let e = ap (λ (j : ℕ). get_or d.numbers j 0) same in omega arith
        | inr o ↦ elim o [
          | inl lower ↦
              let here = before f.place lower in
              let there = fault_at f.place (omega arith) in
              let alike = (p.equivalent f.place m _ _ there (fault_at m l)).0 (omega arith) in
              let one = (q.equivalent f.place m _ _ there (fault_at m l)).1 alike in
              omega arith
          | inr higher ↦ let w = f.earlier m higher in omega arith
        ]
      ]

  module _ (c d : Classes) (p : AreClasses n c) (q : AreClasses n d) where
    number_at : (m : ℕ) → m < length (universe_of n) → ((j : ℕ) → j < m → get_or c.numbers j 0 ≡ get_or d.numbers j 0)
        → get_or c.numbers m 0 ≡ get_or d.numbers m 0
    number_at m l before = elim (cases_order (get_or c.numbers m 0) (get_or d.numbers m 0)) [
      | inl same ↦ same
      | inr o ↦ elim o [
        | inl less ↦ absurd (not_less c d p q m l before less)
        | inr more ↦ absurd (not_less d c q p m l (λ j b. sym (before j b)) more)
      ]
    ]

    numbers_below : (m : ℕ) → m ≤ length (universe_of n) → (j : ℕ) → j < m → get_or c.numbers j 0 ≡ get_or d.numbers j 0
    numbers_below zero few j l = absurd (omega arith)
    numbers_below (suc m) few j l = elim (cases_lt j m) [
      | inl lower ↦ numbers_below m (omega arith) j lower
      | inr last ↦
          let is : j ≡ m = omega arith in
          let here = number_at m (omega arith) (λ i b. numbers_below m (omega arith) i b) in
          ap (λ (i : ℕ). get_or c.numbers i 0) is ∙ (here ∙ sym (ap (λ (i : ℕ). get_or d.numbers i 0) is))
    ]

    pub same_numbers : c.numbers ≡ d.numbers
    same_numbers =
        let sizes : length c.numbers ≡ length d.numbers = p.size ∙ sym q.size in
        same_number_lists c.numbers d.numbers sizes (λ k l. let size = p.size in numbers_below (length (universe_of n)) (omega arith) k (omega arith))

  -- a class's first member
  first_at : (c : Classes) (p : AreClasses n c) (class : ℕ) (l : class < length c.representatives)
      → slice_get (universe_of n) (p.first class l).place ≡ Some (get_or c.representatives class blank)
  first_at c p class l = (p.first class l).representative _ (slice_get-get_or c.representatives class blank l)

  -- no list of classes has fewer
  no_fewer : (c d : Classes) → AreClasses n c → AreClasses n d → c.numbers ≡ d.numbers → length c.representatives < length d.representatives → ⊥
  no_fewer c d p q same less =
      let f = q.first (length c.representatives) less in
      let there = slice_get_within (universe_of n) f.place _ (first_at d q (length c.representatives) less) in
      let low = within c p f.place there in
      let e = ap (λ (ks : List ℕ). get_or ks f.place 0) same in
      let member = f.member in
      omega arith

  -- the first member in one is none of a later place in the other
  no_earlier : (c d : Classes) (p : AreClasses n c) (q : AreClasses n d) → c.numbers ≡ d.numbers → (class : ℕ) (l : class < length c.representatives) (k : class < length d.representatives)
      → (p.first class l).place < (q.first class k).place → ⊥
  no_earlier c d p q same class l k less =
      let member = (p.first class l).member in
      let e = ap (λ (ks : List ℕ). get_or ks (p.first class l).place 0) same in
      let w = (q.first class k).earlier (p.first class l).place less in
      omega arith

  module _ (c d : Classes) (p : AreClasses n c) (q : AreClasses n d) where
    same_place : (class : ℕ) (l : class < length c.representatives) (k : class < length d.representatives) → (p.first class l).place ≡ (q.first class k).place
    same_place class l k = elim (cases_order (p.first class l).place (q.first class k).place) [
      | inl same ↦ same
      | inr o ↦ elim o [
        | inl less ↦ absurd (no_earlier c d p q (same_numbers c d p q) class l k less)
        | inr more ↦ absurd (no_earlier d c q p (sym (same_numbers c d p q)) class k l more)
      ]
    ]

    same_count : length c.representatives ≡ length d.representatives
    same_count = elim (cases_order (length c.representatives) (length d.representatives)) [
      | inl same ↦ same
      | inr o ↦ elim o [
        | inl less ↦ absurd (no_fewer c d p q (same_numbers c d p q) less)
        | inr more ↦ absurd (no_fewer d c q p (sym (same_numbers c d p q)) more)
      ]
    ]

    same_representative : (class : ℕ) → class < length c.representatives → get_or c.representatives class blank ≡ get_or d.representatives class blank
    same_representative class l =
        let count = same_count in
        let k : class < length d.representatives = omega arith in
        let here : slice_get (universe_of n) (p.first class l).place ≡ Some (get_or d.representatives class blank) =
        ap (slice_get (universe_of n)) (same_place class l k) ∙ first_at d q class k in
        sym (get_or_from_slice_get (universe_of n) (p.first class l).place _ blank (first_at c p class l)) ∙ get_or_from_slice_get (universe_of n) (p.first class l).place _ blank here

    pub same_classes : c ≡ d
    same_classes =
        ap₂ (λ (numbers : List ℕ) (representatives : List Fault). record { numbers = numbers; representatives = representatives })
        (same_numbers c d p q) (ext_get_or blank c.representatives d.representatives same_count same_representative)
