-- When a strobe goes wrong.
use Rattle.std.specs.Prelude.{ℕ, ◌≡◌, Bool, not, List, Some}
use Rattle.statement.specs.Values.{known}
use Rattle.statement.specs.Runs.{Cycle, strobe_at, shown_at}

-- The strobe of cycle c at output o is of a bit, and the other bit is shown. It is said of any values, of which some stand for bits.
abbrev pub IsWrong : {V : Type 0} → (Bool → V) → List Cycle → List (List V) → ℕ → ℕ → Type 0
IsWrong value cycles shown c o = (b : Bool) × (strobe_at cycles c o ≡ known b) × (shown_at shown c o ≡ Some (value (not b)))
