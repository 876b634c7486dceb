-- The order of observed points is that of their numbers.
use Rattle.std.proofs.Common.{◌≡◌, ℕ, ◌-◌, ◌<◌, ◌≤◌, false, cond, ltb, length, ap, subst, inl, inr, arith}
use Rattle.std.proofs.lemmas.Bool.{cases_lt, lt-ltb, ltb-true, false_from_ne_true}
use Rattle.statement.specs.declared.lines.Point.TheVariants.{Output, Cell}
use Rattle.netlist.specs.Conditions.{IsSound}
use Rattle.statement.specs.Netlists.{Netlist}
use Rattle.statement.specs.Patterns.{IsBefore}
use Rattle.observed_points.specs.Points.{point_of}

not_below : (a b : ℕ) → b ≤ a → ltb a b ≡ false
not_below a b l = false_from_ne_true (ltb a b) (λ h. let m = ltb-true a b h in omega arith)

module _ (n : Netlist) (sound : IsSound n) where
  -- an earlier point has a lower number
  pub before_in : (c d : ℕ) → IsBefore (point_of n c) (point_of n d) → c < d
  before_in c d h = elim (cases_lt c (length n.outputs)) [
    | inl low ↦ elim (cases_lt d (length n.outputs)) [
      | inl low' ↦ subst (λ q. IsBefore (Output c) q) (as_output d low') (subst (λ p. IsBefore p (point_of n d)) (as_output c low) h)
      | inr high ↦ omega arith
    ]
    | inr high ↦ elim (cases_lt d (length n.outputs)) [
      | inl low' ↦ absurd (subst (λ q. IsBefore (Cell (c - length n.outputs)) q) (as_output d low') (subst (λ p. IsBefore p (point_of n d)) (as_cell c high) h))
      | inr high' ↦
          let l : c - length n.outputs < d - length n.outputs = subst (λ q. IsBefore (Cell (c - length n.outputs)) q) (as_cell d high') (subst (λ p. IsBefore p (point_of n d)) (as_cell c high) h) in
          omega arith
    ]
  ] where
    as_output : (c : ℕ) → c < length n.outputs → point_of n c ≡ Output c
    as_output c l = ap (λ b. cond b (Output c) (Cell (c - length n.outputs))) (lt-ltb c (length n.outputs) l)

    as_cell : (c : ℕ) → length n.outputs ≤ c → point_of n c ≡ Cell (c - length n.outputs)
    as_cell c l = ap (λ b. cond b (Output c) (Cell (c - length n.outputs))) (not_below c (length n.outputs) l)
