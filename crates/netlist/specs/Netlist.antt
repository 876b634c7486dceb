-- What reads what in a netlist, and what a loop of gates is.
use Rattle.std.specs.Prelude.{ℕ, ◌≡◌, ◌==◌, ◌||◌, Bool, not, List, length, IsTrue, Option, find}
use Rattle.std.specs.List.{Contains}
use Rattle.statement.specs.Netlists.{Definition, Netlist, is_cell, gates, signals}
use Rattle.statement.specs.declared.kinds.Kind.{Kind}

abbrev pub is_gate : Definition → Bool
is_gate d = not (is_cell d)

abbrev pub signal_count : Netlist → ℕ
signal_count n = length (signals n)

-- what defines a signal; nothing for an input
abbrev pub definition_of : Netlist → ℕ → Option Definition
definition_of n x = find (λ (d : Definition). d.id == x) n.definitions

-- the gate that defines z has x at a pin
abbrev pub Reads : Netlist → ℕ → ℕ → Type 0
Reads n z x = (d : Definition) × Contains (gates n) d × (d.id ≡ z) × Contains d.pins x

abbrev pub IsGateAt : Netlist → ℕ → Type 0
IsGateAt n x = (g : Definition) × Contains (gates n) g × (g.id ≡ x)

-- a set of signals, and x beside
abbrev pub also : (ℕ → Bool) → ℕ → ℕ → Bool
also set x y = set y || (y == x)

-- a set of gates each of which reads a gate of the set
abbrev pub IsLoop : Netlist → (ℕ → Bool) → Type 0
IsLoop n set = (z : ℕ) → IsTrue (set z) → (x : ℕ) × Reads n z x × IsTrue (set x)

-- z is in the greatest such set, which is the union of all of them
abbrev pub IsOnLoop : Netlist → ℕ → Type 0
IsOnLoop n z = (set : ℕ → Bool) × IsLoop n set × IsTrue (set z)

-- no such set has a member
abbrev pub IsAcyclic : Netlist → Type 0
IsAcyclic n = (z : ℕ) → ¬ IsOnLoop n z

-- the definition of these parts
abbrev pub define : ℕ → Kind → List ℕ → Definition
define z kind pins = record { id = z; kind = kind; pins = pins }
