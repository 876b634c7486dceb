-- Where a stuck line changes what a signal is.
use Rattle.std.specs.Prelude.{ℕ, ◌≡◌, ◌==◌, ◌⊎◌, ⊤, Bool, false, IsTrue}
use Rattle.statement.specs.declared.lines.Line.{Line}
use Rattle.statement.specs.declared.lines.Line.TheVariants.{Stem, Pin, Out}
use Rattle.statement.specs.Netlists.{Netlist}
use Rattle.netlist.specs.Netlist.{IsGateAt}

-- the line is the stem of the signal, or a pin of what defines it
abbrev pub is_at : Line → ℕ → Bool
is_at (Stem y) x = y == x
is_at (Pin z k) x = z == x
is_at (Out y) x = false

-- the one signal whose equation the line enters: the gate of a pin, or what a stem is
abbrev pub IsSite : Netlist → Line → ℕ → Type 0
IsSite n line x = IsTrue (is_at line x) × (IsGateAt n x ⊎ (line ≡ Stem x))

-- No equation has the line: an output, or the pin of a cell. Only an observed point reads it.
abbrev pub IsObservedOnly : Netlist → Line → Type 0
IsObservedOnly n (Stem x) = ⊥
IsObservedOnly n (Pin z k) = ¬ IsGateAt n z
IsObservedOnly n (Out x) = ⊤
