-- An input that is looked up.
use Rattle.std.specs.Prelude.{ℕ, Option, Some, None}
use Rattle.statement.specs.Benches.{Text}
use Rattle.statement.specs.Netlists.{Netlist}
use Rattle.command_steps.specs.Runs.{IsInputAt}

-- the number of the input of this name, or there is none
abbrev pub IsFound : Netlist → Text → Option ℕ → Type 0
IsFound n name (Some k) = IsInputAt n k name
IsFound n name None = (k : ℕ) → ¬ IsInputAt n k name
