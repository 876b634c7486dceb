-- Laws of values that have settled but for some signals, each the contract of a function of its name.
use Rattle.std.specs.Prelude.{ℕ, Bool, List, Some, None, IsFalse}
use Rattle.std.specs.List.{Contains}
use Rattle.statement.specs.Netlists.{Definition, Netlist, gates}
use Rattle.netlist.specs.Conditions.{IsSound}
use Rattle.statement.specs.declared.lines.Fault.{Fault}
use Rattle.statement.specs.Values.{Rule, Settles, Table, with_fault}
use Rattle.events.specs.Stuck.{is_at, IsObservedOnly}
use Rattle.events.specs.Waiting.{SettlesBut, IsStep, IsSourceStep, IsDrivenTo, AgreeAt}

-- After a gate is evaluated the values have settled but for what then waits.
abbrev pub StepSettles : Type 0 → Type 0
StepSettles V =
    (rule : Rule V) (n : Netlist) (inputs state : List V) (a b : ℕ → V) (before after : ℕ → Bool) (g : Definition)
    → IsSound n → Contains (gates n) g → IsStep rule n g a b before after
    → SettlesBut before rule n inputs state a → SettlesBut after rule n inputs state b

-- The same of an input or a cell.
abbrev pub SourceStepSettles : Type 0 → Type 0
SourceStepSettles V =
    (rule : Rule V) (n : Netlist) (inputs state : List V) (a b : ℕ → V) (before after : ℕ → Bool) (x : ℕ) (v : V)
    → IsSound n → IsSourceStep n x v a b before after → IsDrivenTo rule n inputs state x v
    → SettlesBut before rule n inputs state a → SettlesBut after rule n inputs state b

-- Where nothing waits, the values settle.
abbrev pub NoneWaits : Type 0 → Type 0
NoneWaits V =
    (rule : Rule V) (n : Netlist) (inputs state : List V) (a : ℕ → V) (waits : ℕ → Bool)
    → ((x : ℕ) → IsFalse (waits x)) → SettlesBut waits rule n inputs state a → Settles rule n inputs state a

-- Values that settle under one rule settle under another but for the signals at which the two differ.
abbrev pub RuleChanges : Type 0 → Type 0
RuleChanges V =
    (rule rule' : Rule V) (n : Netlist) (inputs state : List V) (a : ℕ → V) (waits : ℕ → Bool)
    → ((x : ℕ) → IsFalse (waits x) → AgreeAt rule rule' n x)
    → Settles rule n inputs state a → SettlesBut waits rule' n inputs state a

-- A line stuck changes a rule at one signal at most.
abbrev pub StuckChanges : Type 0 → Type 0
StuckChanges V =
    (table : Table V) (f : Fault) (n : Netlist) (x : ℕ) → IsFalse (is_at f.line x)
    → AgreeAt (with_fault table None) (with_fault table (Some f)) n x × AgreeAt (with_fault table (Some f)) (with_fault table None) n x

-- A cell's pin stuck, or an output, changes a rule at no signal.
abbrev pub ObservedOnly : Type 0 → Type 0
ObservedOnly V =
    (table : Table V) (f : Fault) (n : Netlist) (x : ℕ) → IsObservedOnly n f.line
    → AgreeAt (with_fault table None) (with_fault table (Some f)) n x
