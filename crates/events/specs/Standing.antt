-- Values of a netlist's signals as they stand, with a trail of what changed.
use Rattle.std.specs.Prelude.{ℕ, ◌≡◌, ◌==◌, ◌+◌, ◌-◌, ◌<◌, Bool, List, ◌++◌, length, IsFalse}
use Rattle.std.specs.List.{All, Contains}
use Rattle.statement.specs.declared.lines.Line.TheVariants.{Stem}
use Rattle.statement.specs.Netlists.{Netlist, signals}
use Rattle.statement.specs.Values.{Rule, Settles}
use Rattle.netlist.specs.Settled.{at}
use Rattle.events.specs.declared.trails.Change.{Change}
use Rattle.events.specs.Trails.{AreChanges}
use Rattle.events.specs.Waiting.{SettlesBut, IsDrivenTo}

-- a value for each signal, what changed, and how many changes may stand on the trail when a call begins
pub record Standing (V : Type 0) : Type 0 where
  pub netlist : Netlist
  pub values : List V
  pub trail : List (Change V)
  pub room : ℕ

-- the same, with the capacity of the trail: a call may change each signal once and touch one more
abbrev pub standing : {V : Type 0} → Netlist → List V → List (Change V) → ℕ → Standing V
standing n values trail capacity = record { netlist = n; values = values; trail = trail; room = capacity - (length (signals n) + 1) }

-- what is always so
pub record IsStanding {V : Type 0} (s : Standing V) : Type 0 where
  pub size : length s.values ≡ length (signals s.netlist)
  pub within : All (λ (c : Change V). c.signal < length s.values) s.trail

-- the same netlist with other values: the trail has gained exactly the signals whose value changed, each once, with the value before
pub record Moves {V : Type 0} (old new : Standing V) : Type 0 where
  pub netlist : new.netlist ≡ old.netlist
  pub room : new.room ≡ old.room
  pub changes : List (Change V)
  pub trail : new.trail ≡ old.trail ++ changes
  pub are_changes : AreChanges old.values new.values changes

-- what settled but for one signal, onto which this value is driven if it is an input or a cell, settles
pub record SettlesAnew {V : Type 0} (rule : Rule V) (n : Netlist) (id : ℕ) (driven : V) (old new : List V) : Type 0 where
  pub each : (inputs state : List V) (d : V) → IsDrivenTo rule n inputs state id (rule.line (Stem id) driven)
      → SettlesBut (λ x. x == id) rule n inputs state (at old d) → Settles rule n inputs state (at new d)

-- The same of some signals at once, where each that is an input or a cell is driven with the value that it had.
pub record SettlesAllAnew {V : Type 0} (rule : Rule V) (n : Netlist) (ids : List ℕ) (old new : List V) : Type 0 where
  pub each : (inputs state : List V) (d : V) (waits : ℕ → Bool)
      → ((x : ℕ) → Contains ids x → IsDrivenTo rule n inputs state x (rule.line (Stem x) (at old d x)))
      → ((x : ℕ) → ¬ Contains ids x → IsFalse (waits x))
      → SettlesBut waits rule n inputs state (at old d) → Settles rule n inputs state (at new d)

-- what settled under one rule settles under another, whatever is driven
pub record SettlesOver {V : Type 0} (rule rule' : Rule V) (n : Netlist) (old new : List V) : Type 0 where
  pub each : (inputs state : List V) (d : V) → Settles rule n inputs state (at old d) → Settles rule' n inputs state (at new d)

-- what settled for other values on inputs and cells settles for these
pub record SettlesFor {V : Type 0} (rule : Rule V) (n : Netlist) (inputs state : List V) (old new : List V) : Type 0 where
  pub each : (inputs' state' : List V) (d : V) → Settles rule n inputs' state' (at old d) → Settles rule n inputs state (at new d)
