-- The lines of a netlist and its faults. (Stems, branches and stuck-at faults: Bushnell and Agrawal, Essentials of Electronic Testing.)
use Rattle.std.specs.Prelude.{ℕ, ◌≡◌, ◌<◌, length, Option, Some}
use Rattle.std.specs.List.{Contains}
use Rattle.statement.specs.declared.lines.Line.{Line}
use Rattle.statement.specs.declared.lines.Line.TheVariants.{Stem, Pin, Out}
use Rattle.statement.specs.declared.lines.Fault.{Fault}
use Rattle.statement.specs.Netlists.{Definition, Netlist, signals}

-- a stem of a signal, a pin of a definition, or an output
abbrev pub IsLineOf : Netlist → Line → Type 0
IsLineOf n (Stem x) = Contains (signals n) x
IsLineOf n (Pin z k) = (d : Definition) × Contains n.definitions d × (d.id ≡ z) × (k < length d.pins)
IsLineOf n (Out x) = Contains n.outputs x

-- no fault, or one on a line of the netlist
abbrev pub IsFaultOf : Netlist → Option Fault → Type 0
IsFaultOf n f = (g : Fault) → f ≡ Some g → IsLineOf n g.line

-- the signal that a line is named by
abbrev pub signal_of : Line → ℕ
signal_of (Stem x) = x
signal_of (Pin z k) = z
signal_of (Out y) = y

-- the signal of a pin is below m
abbrev pub IsPinBelow : ℕ → Line → Type 0
IsPinBelow m (Pin z k) = z < m
IsPinBelow m (Stem z) = Unit {0}
IsPinBelow m (Out z) = Unit {0}
