-- What the labels on the pins of a gate are together (private to this crate).
use Rattle.std.specs.Prelude.{◌≡◌, ℕ, false, List, map, Option}
use Rattle.std.specs.List.{list_any}
use Rattle.statement.specs.declared.kinds.Tri.TheVariants.{X}
use Rattle.statement.specs.declared.lines.Fault.{Fault}
use Rattle.statement.specs.declared.lines.Line.TheVariants.{Pin}
use Rattle.statement.specs.Values.{on_pins}
use Rattle.netlist.specs.Settled.{at}
use Rattle.tri.specs.declared.labels.Label.{Label}
use Rattle.tri.specs.Labels.{Decisions, labels, on_line}
use Rattle.tri.specs.Gathered.{AreTriReductionsOf}
use Rattle.label_events.specs.declared.rule.GoodPins.{GoodPins}

pub record AreGoodPins (pins : List Label) (t : GoodPins) : Type 0 where
  pub good : AreTriReductionsOf (map (λ (l : Label). l.good) pins) t.good
  pub may_differ : t.may_differ ≡ list_any (λ (l : Label). l.may_differ) pins

-- a label of no meaning
abbrev pub no_label : Label
no_label = record { own = X; good = X; faulty = X; may_differ = false }

-- the labels on the pins of a gate, from those of all signals
abbrev pub pin_labels : Option Fault → Decisions → ℕ → List ℕ → List Label → List Label
pin_labels f path id pins values = on_pins (labels f path) id 0 (map (at values no_label) pins)

-- the fault's line is no pin of it
abbrev pub IsNoPinStuck : Option Fault → ℕ → Type 0
IsNoPinStuck f id = (k : ℕ) (l : Label) → on_line f (Pin id k) l ≡ l
