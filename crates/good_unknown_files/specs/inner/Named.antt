-- Unknown inputs as inputs that are held at 0.
use Rattle.std.specs.Prelude.{ℕ, Bool, true, false, cond, List, Option, Some, None, map}
use Rattle.statement.specs.Patterns.{Holds}
use Rattle.report.specs.Reports.{Hold}
use Rattle.unknown_inputs.specs.Unknowns.{Unknowns}

abbrev pub at_zero : List ℕ → Hold
at_zero name = record { name = name; bit = false }

abbrev pub zero_hold : Bool → Option Bool
zero_hold unknown = cond unknown (Some false) None

-- the unknown inputs alone are held
abbrev pub zero_holds : Unknowns → Holds
zero_holds = map zero_hold

abbrev pub is_held : Option Bool → Bool
is_held None = false
is_held (Some bit) = true
