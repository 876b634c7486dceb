-- Values that have settled but for some signals, and the evaluation of one gate more.
-- (Event-driven simulation, where only what a change reaches is evaluated: Ulrich, Exclusive simulation of activity in digital networks, 1969.)
use Rattle.std.specs.Prelude.{ℕ, ◌≡◌, ◌≢◌, ◌<◌, Bool, List, length, IsFalse}
use Rattle.std.specs.List.{AllZip, Contains}
use Rattle.statement.specs.declared.lines.Line.TheVariants.{Stem}
use Rattle.statement.specs.Netlists.{Definition, Netlist, cells, gates, signals}
use Rattle.statement.specs.Values.{Rule, pins_of}

-- what the stem of a gate makes of what the gate makes of its pins
abbrev pub given : {V : Type 0} → Rule V → (ℕ → V) → Definition → V
given rule a d = rule.line (Stem d.id) (rule.gate d (pins_of rule a d))

-- The assignment settles but for the signals that wait: each other input and cell has what its stem makes of the value that is driven there,
-- and each other gate what its stem makes of what the gate makes of its pins.
pub record SettlesBut {V : Type 0} (waits : ℕ → Bool) (rule : Rule V) (n : Netlist) (inputs state : List V) (a : ℕ → V) : Type 0 where
  pub inputs_driven : AllZip (λ x v. IsFalse (waits x) → a x ≡ rule.line (Stem x) v) n.inputs inputs
  pub cells_driven : AllZip (λ (d : Definition) v. IsFalse (waits d.id) → a d.id ≡ rule.line (Stem d.id) v) (cells n) state
  pub gates_done : (d : Definition) → Contains (gates n) d → IsFalse (waits d.id) → a d.id ≡ rule.line (Stem d.id) (rule.gate d (pins_of rule a d))

-- The gate is evaluated: it has its value, nothing else changed, and it alone may cease to wait.
-- Where its value changed, each gate that reads it waits.
pub record IsStep {V : Type 0} (rule : Rule V) (n : Netlist) (g : Definition) (a b : ℕ → V) (before after : ℕ → Bool) : Type 0 where
  pub value : b g.id ≡ rule.line (Stem g.id) (rule.gate g (pins_of rule a g))
  pub others : (x : ℕ) → x ≢ g.id → b x ≡ a x
  pub waiting : (x : ℕ) → x < length (signals n) → x ≢ g.id → IsFalse (after x) → IsFalse (before x)
  pub readers : (d : Definition) → Contains (gates n) d → Contains d.pins g.id → IsFalse (after d.id) → b g.id ≡ a g.id

-- what is driven onto this input or cell makes this value
pub record IsDrivenTo {V : Type 0} (rule : Rule V) (n : Netlist) (inputs state : List V) (x : ℕ) (v : V) : Type 0 where
  pub from_inputs : AllZip (λ y w. y ≡ x → v ≡ rule.line (Stem x) w) n.inputs inputs
  pub from_state : AllZip (λ (d : Definition) w. d.id ≡ x → v ≡ rule.line (Stem x) w) (cells n) state

-- an input or a cell takes a value: nothing else changed, and where it changed each gate that reads it waits
pub record IsSourceStep {V : Type 0} (n : Netlist) (x : ℕ) (v : V) (a b : ℕ → V) (before after : ℕ → Bool) : Type 0 where
  pub source : (d : Definition) → Contains (gates n) d → d.id ≢ x
  pub value : b x ≡ v
  pub others : (y : ℕ) → y ≢ x → b y ≡ a y
  pub waiting : (y : ℕ) → y < length (signals n) → y ≢ x → IsFalse (after y) → IsFalse (before y)
  pub readers : (d : Definition) → Contains (gates n) d → Contains d.pins x → IsFalse (after d.id) → b x ≡ a x

-- two rules agree on a signal: on its stem, and where it is a gate on its pins and on what it computes
pub record AgreeAt {V : Type 0} (rule rule' : Rule V) (n : Netlist) (x : ℕ) : Type 0 where
  pub stems : (v : V) → rule.line (Stem x) v ≡ rule'.line (Stem x) v
  pub gates_do : (d : Definition) → Contains (gates n) d → d.id ≡ x → (a : ℕ → V) → rule.gate d (pins_of rule a d) ≡ rule'.gate d (pins_of rule' a d)
