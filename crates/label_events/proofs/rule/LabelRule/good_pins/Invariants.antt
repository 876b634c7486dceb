use Rattle.std.proofs.Common.{map, drop}
use Rattle.statement.specs.Values.{on_pins}
use Rattle.netlist.specs.Settled.{at}
use Rattle.tri.specs.Labels.{labels}
use Rattle.tri.specs.Labelling.{decided_in}
use Rattle.label_events.specs.Gathered.{AreGoodPins, no_label}
use Rattle.label_events.proofs.rule.LabelRule.good_pins.Given as goal

abbrev pub invariant-loop-k : goal.invariant-loop-k
invariant-loop-k l =
    AreGoodPins (on_pins (labels l.self.labelling.now.fault (decided_in l.self.labelling.now.decided.items)) l.id l.k (map (at l.values no_label) (drop l.k l.pins))) l.all
