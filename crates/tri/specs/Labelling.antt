-- Labels worked out.
use Rattle.std.specs.Prelude.{ℕ, ◌≡◌, Bool, List, length, Option, None, slice_index_or}
use Rattle.netlist.specs.Settled.{at}
use Rattle.statement.specs.declared.lines.Fault.{Fault}
use Rattle.statement.specs.Netlists.{Netlist, signals}
use Rattle.statement.specs.Patterns.{Holds}
use Rattle.tri.specs.declared.labels.Label.{Label}
use Rattle.tri.specs.declared.labelling.Labelling.{Labelling}
use Rattle.tri.specs.Labels.{Decisions, AreLabels}

-- decided bits by the number of the signal
abbrev pub decided_in : List (Option Bool) → Decisions
decided_in row x = slice_index_or row x None

-- the labels of all signals, by number
pub record AreLabelled (f : Option Fault) (path : Decisions) (n : Netlist) (holds : Holds) (values : List Label) : Type 0 where
  pub size : length values ≡ length (signals n)
  pub labels : (d : Label) → AreLabels f path n holds (at values d)

-- the rule of labels under a fault, or none, and no decision
pub record IsUndecided (n : Netlist) (f : Option Fault) (rule : Labelling) : Type 0 where
  pub fault : rule.fault ≡ f
  pub size : length rule.decided.items ≡ length (signals n)
  pub free : (x : ℕ) → decided_in rule.decided.items x ≡ None
