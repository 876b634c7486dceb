-- The last pattern and the first point at which something is detected: there is one of each.
use Rattle.std.proofs.Common.{◌≡◌, ℕ, ◌<◌, ◌⊎◌, inl, inr, ap, subst, sym}
use Rattle.std.proofs.lemmas.Bool.{cases_order}
use Rattle.statement.specs.declared.lines.Point.{Point}
use Rattle.statement.specs.declared.lines.Point.TheVariants.{Output, Cell}
use Rattle.statement.specs.Patterns.{IsBefore}

-- one of two points is before the other, or they are one
before_cases : (a b : Point) → (a ≡ b) ⊎ (IsBefore a b ⊎ IsBefore b a)
before_cases (Output j) (Output k) = elim (cases_order j k) [ inl same ↦ inl (ap Output same) | inr o ↦ inr o ]
before_cases (Output j) (Cell k) = inr (inl tt)
before_cases (Cell j) (Output k) = inr (inr tt)
before_cases (Cell j) (Cell k) = elim (cases_order j k) [ inl same ↦ inl (ap Cell same) | inr o ↦ inr o ]

-- it is detected here, by no later pattern, and at no point before
pub record IsLastAt (D : ℕ → Point → Type 0) (place : ℕ) (point : Point) : Type 0 where
  pub here : D place point
  pub last : (k : ℕ) (c : Point) → place < k → ¬ D k c
  pub first : (c : Point) → IsBefore c point → ¬ D place c

pub last_once : (D : ℕ → Point → Type 0) (p q : ℕ) (a b : Point) → IsLastAt D p a → IsLastAt D q b → (p ≡ q) × (a ≡ b)
last_once D p q a b x y = elim (cases_order p q) [
  | inl same ↦
      let there : D p b = subst (λ (k : ℕ). D k b) (sym same) y.here in
      let here : D q a = subst (λ (k : ℕ). D k a) same x.here in
      elim (before_cases a b) [
        | inl point ↦ (same, point)
        | inr o ↦ elim o [
          | inl earlier ↦ absurd (y.first a earlier here)
          | inr later ↦ absurd (x.first b later there)
        ]
      ]
  | inr o ↦ elim o [
    | inl lower ↦ absurd (x.last q b lower y.here)
    | inr higher ↦ absurd (y.last p a higher x.here)
  ]
]
