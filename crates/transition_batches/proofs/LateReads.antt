-- What a line reads in a batch of slow lines that stand apart, beside what it reads in the two frames of one of them.
use Rattle.std.proofs.Common.{◌≡◌, ℕ, zero, suc, ◌+◌, Bool, true, false, cond, ◌||◌, ◌⊎◌, List, [], ◌∷◌, get_or, Some, refl, ◌∙◌, ap, subst, inl, inr, arith}
use Rattle.std.specs.List.{AllPairs, slice_get}
use Rattle.std.proofs.lemmas.Bool.{cases_Bool, cases_lt, or_cases, both_ways}
use Rattle.std.proofs.lemmas.Option.{none-some, same_Some, slice_get_within, get_or_from_slice_get}
use Rattle.statement.specs.declared.lines.Line.{Line}
use Rattle.statement.specs.declared.lines.Line.TheVariants.{Stem, Pin, Out}
use Rattle.statement.specs.declared.lines.Fault.{Fault}
use Rattle.statement.specs.Netlists.{Netlist}
use Rattle.statement.specs.Values.{is_line}
use Rattle.transition_frames.specs.Frames.{source_of, second}
use Rattle.transition_frames.proofs.Sources.{stem_is, pin_is, out_is}
use Rattle.transition_batches.specs.Batches.{late_at, read_late, AreApart}

-- the line reads the late value of the slow line, where it reads x in the netlist
abbrev pub is_late : Fault → Line → ℕ → Bool
is_late g l x = is_line g.line (Stem x) || is_line g.line l

pub line_is : (l m : Line) → is_line l m ≡ true → l ≡ m
line_is l (Stem x) e = stem_is l x e
line_is l (Pin z k) e = pin_is l z k e
line_is l (Out x) e = out_is l x e

module _ (n : Netlist) (l : Line) (x : ℕ) (own : (m : Line) → is_line m l ≡ true → source_of n m ≡ x) where
  -- two lines that stand apart aren't both late there
  pub not_both : (g h : Fault) → AreApart n g h → is_late g l x ≡ true → is_late h l x ≡ true → ⊥
  not_both g h apart p q = elim (or_cases (is_line g.line (Stem x)) (is_line g.line l) p) [
    | inl a ↦ elim (or_cases (is_line h.line (Stem x)) (is_line h.line l) q) [
      | inl b ↦
          let same : is_line g.line h.line ≡ true = ap (is_line g.line) (stem_is h.line x b) ∙ a in
          both_ways (is_line g.line h.line) apart.lines same
      | inr b ↦
          let same : is_line g.line (Stem (source_of n h.line)) ≡ true = ap (λ y. is_line g.line (Stem y)) (own h.line b) ∙ a in
          both_ways (is_line g.line (Stem (source_of n h.line))) apart.first same
    ]
    | inr a ↦ elim (or_cases (is_line h.line (Stem x)) (is_line h.line l) q) [
      | inl b ↦
          let same : is_line h.line (Stem (source_of n g.line)) ≡ true = ap (λ y. is_line h.line (Stem y)) (own g.line a) ∙ b in
          both_ways (is_line h.line (Stem (source_of n g.line))) apart.other same
      | inr b ↦
          let same : is_line g.line h.line ≡ true = ap (is_line g.line) (line_is h.line l b) ∙ a in
          both_ways (is_line g.line h.line) apart.lines same
    ]
  ]

  pub one_late : (fs : List Fault) → AllPairs (AreApart n) fs → (i j : ℕ) (g h : Fault) → slice_get fs i ≡ Some g → slice_get fs j ≡ Some h
      → is_late g l x ≡ true → is_late h l x ≡ true → i ≡ j
  one_late fs apart i j g h at_i at_j p q =
      let gi : get_or fs i h ≡ g = get_or_from_slice_get fs i g h at_i in
      let hj : get_or fs j h ≡ h = get_or_from_slice_get fs j h h at_j in
      elim (cases_lt i j) [
        | inl less ↦
            let w : AreApart n (get_or fs i h) (get_or fs j h) = apart i j h less (slice_get_within fs j h at_j) in
            let v : AreApart n g h = subst (λ (e : Fault). AreApart n g e) hj (subst (λ (e : Fault). AreApart n e (get_or fs j h)) gi w) in
            absurd (not_both g h v p q)
        | inr more ↦ elim (cases_lt j i) [
          | inl less ↦
              let w : AreApart n (get_or fs j h) (get_or fs i h) = apart j i h less (slice_get_within fs i g at_i) in
              let v : AreApart n h g = subst (λ (e : Fault). AreApart n h e) gi (subst (λ (e : Fault). AreApart n e (get_or fs i h)) hj w) in
              absurd (not_both h g v q p)
          | inr same ↦ omega arith
        ]
      ]

  -- its source is x
  pub late_source : (g : Fault) → is_late g l x ≡ true → source_of n g.line ≡ x
  late_source g p = elim (or_cases (is_line g.line (Stem x)) (is_line g.line l) p) [
    | inl a ↦ ap (source_of n) (stem_is g.line x a)
    | inr a ↦ own g.line a
  ]

-- what a line reads where the first of these slow lines stands at place k: the second frame, if none is late there, or the late value of one
pub late_cases : (n : Netlist) (k : ℕ) (fs : List Fault) (l : Line) (x : ℕ)
    → ((read_late n k fs l x ≡ second n x) × ((i : ℕ) (g : Fault) → slice_get fs i ≡ Some g → is_late g l x ≡ false))
    ⊎ ((i : ℕ) × (g : Fault) × (slice_get fs i ≡ Some g) × (is_late g l x ≡ true) × (read_late n k fs l x ≡ late_at n (k + i)))
late_cases n k [] l x = inl (refl, λ i g e. absurd (none-some g e))
late_cases n k (f ∷ fs) l x = elim (cases_Bool (is_late f l x)) [
  | inl y ↦
      let place : k ≡ k + 0 = omega arith in
      let at : read_late n k (f ∷ fs) l x ≡ late_at n k = ap (λ b. cond b (late_at n k) (read_late n (k + 1) fs l x)) y in
      inr (0, f, refl, y, at ∙ ap (late_at n) place)
  | inr e ↦
      let at : read_late n k (f ∷ fs) l x ≡ read_late n (k + 1) fs l x = ap (λ b. cond b (late_at n k) (read_late n (k + 1) fs l x)) e in
      elim (late_cases n (k + 1) fs l x) [
        | inl w ↦ inl (at ∙ w.0, none_late f fs l x e w.1)
        | inr w ↦
            let place : k + 1 + w.0 ≡ k + suc w.0 = omega arith in
            inr (suc w.0, w.1, w.2, w.3, at ∙ (w.4 ∙ ap (late_at n) place))
      ]
]
  where
    none_late : (f : Fault) (fs : List Fault) (l : Line) (x : ℕ) → is_late f l x ≡ false → ((i : ℕ) (g : Fault) → slice_get fs i ≡ Some g → is_late g l x ≡ false)
        → (i : ℕ) (g : Fault) → slice_get (f ∷ fs) i ≡ Some g → is_late g l x ≡ false
    none_late f fs l x e h zero g p = subst (λ (w : Fault). is_late w l x ≡ false) (same_Some f g p) e
    none_late f fs l x e h (suc i) g p = h i g p
