-- Where a report says that a fault is seen. A says of a pattern and a point in which cycle and at which pin the tester sees them.
use Rattle.std.specs.Prelude.{ℕ, ◌≡◌, List, Option, Some, None}
use Rattle.statement.specs.declared.lines.Point.{Point}

-- the last pattern that detects it is this one, and its first point is seen in this cycle at this pin
abbrev pub IsSeenBy : (ℕ → Point → ℕ → List ℕ → Type 0) → Option (ℕ × Point) → ℕ → ℕ → List ℕ → Type 0
IsSeenBy A None place cycle pin = ⊥
IsSeenBy A (Some last) place cycle pin = (place ≡ last.0) × A last.0 last.1 cycle pin
