-- Laws of labels after a change, each the contract of a function of its name.
use Rattle.std.specs.Prelude.{ℕ, ◌≡◌, ◌≢◌, ◌==◌, Option, None, slice_index_or}
use Rattle.statement.specs.declared.lines.Line.{Line}
use Rattle.statement.specs.declared.lines.Line.TheVariants.{Stem}
use Rattle.statement.specs.declared.lines.Fault.{Fault}
use Rattle.netlist.specs.Conditions.{IsSound}
use Rattle.statement.specs.Patterns.{Holds}
use Rattle.netlist.specs.Holds.{AreHoldsOf}
use Rattle.statement.specs.Netlists.{Netlist}
use Rattle.events.specs.Waiting.{SettlesBut, IsDrivenTo}
use Rattle.tri.specs.declared.labels.Label.{Label}
use Rattle.tri.specs.Labels.{Decisions, labels, on_line, source_label, held_value, input_labels, cell_labels, AreLabels}
use Rattle.label_events.specs.Lines.{IsLineOfOthers, AgreeOnOtherLines}

-- Where two paths differ at one signal only, the labels of the one settle under the other but for that signal.
abbrev pub DecisionChanges : Type 0
DecisionChanges =
    (f : Option Fault) (path path' : Decisions) (n : Netlist) (holds : Holds) (l : ℕ → Label) (x : ℕ)
    → ((y : ℕ) → y ≢ x → path y ≡ path' y) → AreLabels f path n holds l
    → SettlesBut (λ y. y == x) (labels f path') n (input_labels path' n holds) (cell_labels path' n) l

-- An input has what its stem makes of the bit at which it is held, or X, with its decision; a cell the same of X.
abbrev pub SourceIsDriven : Type 0
SourceIsDriven =
    (f : Option Fault) (path : Decisions) (n : Netlist) (holds : Holds) (x : ℕ) → IsSound n → AreHoldsOf n holds
    → IsDrivenTo (labels f path) n (input_labels path n holds) (cell_labels path n) x (on_line f (Stem x) (source_label path x (held_value (slice_index_or holds x None))))

-- Where two faults, or one and none, do the same on all lines but those of one signal, the labels under the one settle under the other
-- but for that signal.
abbrev pub FaultChanges : Type 0
FaultChanges =
    (line : Line) (f g : Option Fault) (path : Decisions) (n : Netlist) (holds : Holds) (l : ℕ → Label) (x : ℕ)
    → AgreeOnOtherLines line f g → ((y : ℕ) → y ≢ x → IsLineOfOthers n line y) → AreLabels f path n holds l
    → SettlesBut (λ y. y == x) (labels g path) n (input_labels path n holds) (cell_labels path n) l

-- Where they do the same on all lines of signals, the labels are the same.
abbrev pub FaultChangesNothing : Type 0
FaultChangesNothing =
    (line : Line) (f g : Option Fault) (path : Decisions) (n : Netlist) (holds : Holds) (l : ℕ → Label)
    → AgreeOnOtherLines line f g → ((y : ℕ) → IsLineOfOthers n line y) → AreLabels f path n holds l → AreLabels g path n holds l
