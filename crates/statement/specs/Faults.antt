-- All stuck-at faults of a netlist, in order, and their texts.
use Rattle.std.specs.Prelude.{ℕ, if◌then◌else◌, nat_le, List, [], ◌∷◌, length, true, false, ◌++◌, codes, decimal, Bool}
use Rattle.std.specs.List.{flat_map}
use Rattle.statement.specs.declared.lines.Fault.{Fault}
use Rattle.statement.specs.declared.lines.Line.{Line}
use Rattle.statement.specs.declared.lines.Line.TheVariants.{Stem, Pin, Out}
use Rattle.statement.specs.Netlists.{Netlist, readers_of, signals, name_of}

-- the lines of a signal: its stem, and then a branch to each of its readers where these are two or more
abbrev pub lines_of : Netlist → ℕ → List Line
lines_of n x = Stem x ∷ (if nat_le 2 (length (readers_of n x)) then readers_of n x else [])

-- the line stuck at 0, and stuck at 1
abbrev pub faults_of : Line → List Fault
faults_of line = record { line = line; value = false } ∷ record { line = line; value = true } ∷ []

-- those of all lines, in the order of signals
abbrev pub universe_of : Netlist → List Fault
universe_of n = flat_map faults_of (flat_map (lines_of n) (signals n))

-- pins are numbered from 0
abbrev pub line_text : Netlist → Line → List ℕ
line_text n (Stem x) = codes "stem " ++ name_of n x
line_text n (Pin z k) = codes "pin " ++ (name_of n z ++ (codes " " ++ decimal k))
line_text n (Out y) = codes "out " ++ name_of n y

abbrev pub value_text : Bool → List ℕ
value_text false = codes "/0"
value_text true = codes "/1"

abbrev pub fault_text : Netlist → Fault → List ℕ
fault_text n f = line_text n f.line ++ value_text f.value
