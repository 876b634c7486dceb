-- Laws of classes, each the contract of a function of its name.
use Rattle.std.specs.Prelude.{ℕ, ◌≡◌, ◌↔◌, Bool, List, length, slice_get, Some, IsTrue}
use Rattle.std.specs.Bool.{Decides}
use Rattle.statement.specs.declared.kinds.Kind.{Kind}
use Rattle.statement.specs.declared.lines.Fault.{Fault}
use Rattle.statement.specs.declared.lines.Point.{Point}
use Rattle.statement.specs.Netlists.{Netlist}
use Rattle.netlist.specs.Conditions.{IsSound}
use Rattle.netlist.specs.Gates.{allows_pins}
use Rattle.statement.specs.Values.{Settles, Table, bit_table, bits, outs, next, with_fault}
use Rattle.statement.specs.Patterns.{Detects}
use Rattle.fault_collapse.specs.Classes.{AreClasses}
use Rattle.fault_collapse.specs.Joined.{IsEquivalent, output_value}
use Rattle.fault_collapse.specs.Numbers.{Classes}

-- A table of values whose gates are controlled as those of bits: a pin at a controlling value decides what the gate gives.
abbrev pub Controls : {V : Type 0} → Table V → Type 0
Controls {V} table =
    (kind : Kind) (v w : Bool) (values : List V) (k : ℕ) → output_value kind v ≡ Some w → IsTrue (allows_pins kind (length values))
    → slice_get values k ≡ Some (table.known v) → table.gate kind values ≡ table.known w

abbrev pub BitsControl : Type 0
BitsControl = Controls bit_table

-- Equivalent faults give the same outputs and the same next state, whatever is driven. It is so for each table that controls.
abbrev pub EquivalentAgreeBy : Type 0 → Type 0
EquivalentAgreeBy V =
    (same : V → V → Bool) → ((x y : V) → Decides (same x y) (x ≡ y)) → (blank : V) (table : Table V) → Controls table
    → (n : Netlist) (f g : Fault) (inputs state : List V) (a b : ℕ → V) → IsSound n → IsEquivalent n f g
    → Settles (with_fault table (Some f)) n inputs state a → Settles (with_fault table (Some g)) n inputs state b
    → (outs (with_fault table (Some f)) n a ≡ outs (with_fault table (Some g)) n b) × (next (with_fault table (Some f)) n a ≡ next (with_fault table (Some g)) n b)

-- For every pattern, equivalent faults give the same outputs and the same next state.
abbrev pub EquivalentAgree : Type 0
EquivalentAgree =
    (n : Netlist) (f g : Fault) (inputs state : List Bool) (a b : ℕ → Bool) → IsSound n → IsEquivalent n f g
    → Settles (bits (Some f)) n inputs state a → Settles (bits (Some g)) n inputs state b
    → (outs (bits (Some f)) n a ≡ outs (bits (Some g)) n b) × (next (bits (Some f)) n a ≡ next (bits (Some g)) n b)

-- the same patterns detect them, at the same points
abbrev pub DetectedAlike : Type 0
DetectedAlike =
    (n : Netlist) (f g : Fault) (inputs state : List Bool) (point : Point) → IsSound n → IsEquivalent n f g
    → Detects n f inputs state point ↔ Detects n g inputs state point

-- A netlist's faults have one list of classes: what they are determines their numbers and representatives.
abbrev pub ClassesOnce : Type 0
ClassesOnce = (n : Netlist) (c d : Classes) → AreClasses n c → AreClasses n d → c ≡ d
