-- Lines by their texts (private to this crate).
use Rattle.std.specs.Prelude.{ℕ, ◌≡◌, ◌≢◌, ◌^◌, ◌<◌, length, Option, None, Some, List}
use Rattle.statement.specs.declared.lines.Line.{Line}
use Rattle.statement.specs.declared.lines.Line.TheVariants.{Stem, Pin, Out}
use Rattle.statement.specs.Netlists.{Netlist, signals}
use Rattle.statement.specs.Faults.{line_text}

-- a line whose signal the netlist has, with a number of a pin below 2 ^ 32
abbrev pub IsWritten : Netlist → Line → Type 0
IsWritten n (Stem x) = x < length (signals n)
IsWritten n (Pin z k) = (z < length (signals n)) × (k < 2 ^ 32)
IsWritten n (Out y) = y < length (signals n)

-- the line of this text, if there is one
abbrev pub IsLineNamed : Netlist → List ℕ → Option Line → Type 0
IsLineNamed n text None = (line : Line) → IsWritten n line → text ≢ line_text n line
IsLineNamed n text (Some line) = IsWritten n line × (text ≡ line_text n line)
