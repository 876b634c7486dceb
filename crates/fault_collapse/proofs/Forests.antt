-- Trees in which each member names an earlier one, as they are written.
use Rattle.std.proofs.Common.{◌≡◌, ℕ, ◌<◌, ◌≤◌, cond, eqb, min, max, List, length, set, get_or, sym, ◌∙◌, ap, subst, inl, inr, arith, length-set}
use Rattle.std.proofs.lemmas.Bool.{cases_eq, cases_lt, eq-eqb, ne_eqb}
use Rattle.std.proofs.lemmas.List.{get_or-set_other, get_or-set_same}
use Rattle.fault_collapse.specs.inner.Merging.{IsForest, LeadsTo, merged}

-- what stands at a place after a write
at_set : (P : ℕ → Type 0) (p : List ℕ) (i v k : ℕ) → i < length p → (k ≡ i → P v) → ((k ≡ i → ⊥) → P (get_or p k 0)) → P (get_or (set p i v) k 0)
at_set P p i v k l here there = elim (cases_eq k i) [
  | inl e ↦ subst P (sym (ap (λ j. get_or (set p i v) j 0) e ∙ get_or-set_same p i v 0 l)) (here e)
  | inr ne ↦ subst P (sym (get_or-set_other p i k v 0 ne)) (there ne)
]

module _ (p : List ℕ) (at : ℕ) (forest : IsForest p) (within : at < length p) where
  -- the place behind the next one
  above_within : get_or p (get_or p at 0) 0 ≤ get_or p at 0
  above_within = let l = forest at within in forest (get_or p at 0) (omega arith)

  pub halved_forest : (q : List ℕ) → q ≡ set p at (get_or p (get_or p at 0) 0) → IsForest q
  halved_forest q is = subst IsForest (sym is)
      (λ k l.
      let size : length (set p at (get_or p (get_or p at 0) 0)) ≡ length p = length-set p at (get_or p (get_or p at 0) 0) in
      let low = forest at within in
      let lower = above_within in
      at_set (λ v. v ≤ k) p at (get_or p (get_or p at 0) 0) k within (λ e. omega arith) (λ ne. forest k (omega arith)))

  pub halved : (q : List ℕ) (first : ℕ → ℕ) → q ≡ set p at (get_or p (get_or p at 0) 0) → LeadsTo p first → LeadsTo q first
  halved q first is h = subst (λ r. LeadsTo r first) (sym is)
      (let size : length (set p at (get_or p (get_or p at 0) 0)) ≡ length p = length-set p at (get_or p (get_or p at 0) 0) in
      let low = forest at within in
      let lower = above_within in
      record {
        kept = λ k l. at_set (λ v. first v ≡ first k) p at (get_or p (get_or p at 0) 0) k within
            (λ e. h.kept (get_or p at 0) (omega arith) ∙ (h.kept at within ∙ ap first (sym e)))
            (λ ne. h.kept k (omega arith));
        root = λ k l. at_set (λ v. v ≡ k → first k ≡ k) p at (get_or p (get_or p at 0) 0) k within
            (λ e same. ap first e ∙ (h.root at within (omega arith) ∙ sym e))
            (λ ne same. h.root k (omega arith) same);
        low = h.low;
        once = h.once;
      })

-- two classes become one

module _ (first : ℕ → ℕ) (low high : ℕ) (less : low ≤ high) where
  pub merged_here : (k : ℕ) → first k ≡ high → merged first low high k ≡ low
  merged_here k e = ap (λ b. cond b low (first k)) (eq-eqb (first k) high e)

  pub merged_there : (k : ℕ) → (first k ≡ high → ⊥) → merged first low high k ≡ first k
  merged_there k ne = ap (λ b. cond b low (first k)) (ne_eqb (first k) high ne)

  merged_low : first low ≡ low → merged first low high low ≡ low
  merged_low e = elim (cases_eq (first low) high) [
    | inl same ↦ merged_here low same
    | inr ne ↦ merged_there low ne ∙ e
  ]

  module _ (p : List ℕ) (forest : IsForest p) (within : high < length p) (h : LeadsTo p first) (first_low : first low ≡ low) (first_high : first high ≡ high) where
    merged_kept : (k v : ℕ) → first v ≡ first k → merged first low high v ≡ merged first low high k
    merged_kept k v e = ap (λ f. cond (eqb f high) low f) e

    pub linked : LeadsTo (set p high low) (merged first low high)
    linked =
        let size : length (set p high low) ≡ length p = length-set p high low in
        record {
          kept = λ k l. at_set (λ v. merged first low high v ≡ merged first low high k) p high low k within
              (λ e. merged_low first_low ∙ sym (merged_here k (ap first e ∙ first_high)))
              (λ ne. merged_kept k (get_or p k 0) (h.kept k (omega arith)));
          root = λ k l. at_set (λ v. v ≡ k → merged first low high k ≡ k) p high low k within
              (λ e same. merged_here k (ap first e ∙ first_high) ∙ same)
              (λ ne same. let is = h.root k (omega arith) same in merged_there k (λ f. ne (sym is ∙ f)) ∙ is);
          low = λ k. elim (cases_eq (first k) high) [
            | inl same ↦ let e = merged_here k same in let l = h.low k in omega arith
            | inr ne ↦ let e = merged_there k ne in let l = h.low k in omega arith
          ];
          once = λ k. elim (cases_eq (first k) high) [
            | inl same ↦ ap (merged first low high) (merged_here k same) ∙ (merged_low first_low ∙ sym (merged_here k same))
            | inr ne ↦ ap (merged first low high) (merged_there k ne) ∙ merged_kept k (first k) (h.once k)
          ];
        }

-- the classes of two members become one
module _ (p : List ℕ) (first : ℕ → ℕ) (h : LeadsTo p first) (one other : ℕ) where
  first_least : first (min (first one) (first other)) ≡ min (first one) (first other)
  first_least = elim (cases_lt (first one) (first other)) [
    | inl l ↦ let e : min (first one) (first other) ≡ first one = omega arith in ap first e ∙ (h.once one ∙ sym e)
    | inr l ↦ let e : min (first one) (first other) ≡ first other = omega arith in ap first e ∙ (h.once other ∙ sym e)
  ]

  first_greatest : first (max (first one) (first other)) ≡ max (first one) (first other)
  first_greatest = elim (cases_lt (first one) (first other)) [
    | inl l ↦ let e : max (first one) (first other) ≡ first other = omega arith in ap first e ∙ (h.once other ∙ sym e)
    | inr l ↦ let e : max (first one) (first other) ≡ first one = omega arith in ap first e ∙ (h.once one ∙ sym e)
  ]

  pub linked_classes : (low high : ℕ) → IsForest p → low ≡ min (first one) (first other) → high ≡ max (first one) (first other) → high < length p
      → LeadsTo (set p high low) (merged first (min (first one) (first other)) (max (first one) (first other)))
  linked_classes low high forest l m within =
      let between : min (first one) (first other) ≤ max (first one) (first other) = omega arith in
      let inside : max (first one) (first other) < length p = omega arith in
      subst (λ x. LeadsTo (set p x low) (merged first (min (first one) (first other)) (max (first one) (first other)))) (sym m)
      (subst (λ x. LeadsTo (set p (max (first one) (first other)) x) (merged first (min (first one) (first other)) (max (first one) (first other)))) (sym l)
      (linked first (min (first one) (first other)) (max (first one) (first other)) between p forest inside h first_least first_greatest))

  -- both members have the lesser of the two first members
  pub merged_one : merged first (min (first one) (first other)) (max (first one) (first other)) one ≡ min (first one) (first other)
  merged_one = elim (cases_eq (first one) (max (first one) (first other))) [
    | inl e ↦ merged_here first (min (first one) (first other)) (max (first one) (first other)) (omega arith) one e
    | inr ne ↦ merged_there first (min (first one) (first other)) (max (first one) (first other)) (omega arith) one ne ∙ (omega arith)
  ]

  pub merged_other : merged first (min (first one) (first other)) (max (first one) (first other)) other ≡ min (first one) (first other)
  merged_other = elim (cases_eq (first other) (max (first one) (first other))) [
    | inl e ↦ merged_here first (min (first one) (first other)) (max (first one) (first other)) (omega arith) other e
    | inr ne ↦ merged_there first (min (first one) (first other)) (max (first one) (first other)) (omega arith) other ne ∙ (omega arith)
  ]
