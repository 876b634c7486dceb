-- Laws of faults in a fanout-free region, each the contract of a function of its name.
use Rattle.std.specs.Prelude.{ℕ, ◌≡◌, ◌≢◌, ◌↔◌, Bool, true, List, Some, None, IsTrue}
use Rattle.netlist.specs.Conditions.{IsSound}
use Rattle.statement.specs.Patterns.{Detects, observed}
use Rattle.netlist.specs.Lines.{IsLineOf}
use Rattle.statement.specs.Netlists.{Netlist}
use Rattle.statement.specs.Values.{Settles, bits}
use Rattle.statement.specs.declared.lines.Fault.{Fault}
use Rattle.statement.specs.declared.lines.Point.{Point}
use Rattle.regions.specs.Turned.{turned, turned_bits}
use Rattle.regions.specs.Regions.{GatePin, IsLinePath}
use Rattle.regions.specs.Sensitized.{reaches}

-- With a fault the head of its region differs exactly where the fault reaches it.
abbrev pub ReachesHead : Type 0
ReachesHead =
    (n : Netlist) (f : Fault) (path : List GatePin) (h : ℕ) (inputs state : List Bool) (a b : ℕ → Bool)
    → IsSound n → IsLineOf n f.line → IsLinePath n f.line path h
    → Settles (bits None) n inputs state a → Settles (bits (Some f)) n inputs state b
    → b h ≡ turned (reaches a f path) (a h)

-- Every point observes with the fault what it observes where the head alone is turned over, or left as it is where the fault doesn't reach it.
abbrev pub ObservedByHead : Type 0
ObservedByHead =
    (n : Netlist) (f : Fault) (path : List GatePin) (h : ℕ) (inputs state : List Bool) (a b c : ℕ → Bool)
    → IsSound n → IsLineOf n f.line → IsLinePath n f.line path h
    → Settles (bits None) n inputs state a → Settles (bits (Some f)) n inputs state b
    → Settles (turned_bits h (reaches a f path)) n inputs state c
    → (point : Point) → observed (bits (Some f)) n b point ≡ observed (bits None) n c point

-- A fault is detected at a point exactly where it reaches the head, and the point observes the head turned over.
abbrev pub DetectedByHead : Type 0
DetectedByHead =
    (n : Netlist) (f : Fault) (path : List GatePin) (h : ℕ) (inputs state : List Bool) (a c : ℕ → Bool)
    → IsSound n → IsLineOf n f.line → IsLinePath n f.line path h
    → Settles (bits None) n inputs state a → Settles (turned_bits h true) n inputs state c
    → (point : Point) → Detects n f inputs state point ↔ (IsTrue (reaches a f path) × (observed (bits None) n a point ≢ observed (bits None) n c point))
