use Rattle.std.proofs.Common.{map, drop}
use Rattle.statement.specs.Values.{on_pins}
use Rattle.netlist.specs.Settled.{at}
use Rattle.tri.specs.Labels.{labels}
use Rattle.tri.specs.Labelling.{decided_in}
use Rattle.tri.specs.declared.labels.Label.{Label}
use Rattle.tri.specs.Gathered.{AreTriReductionsOf}
use Rattle.label_events.specs.Gathered.{no_label}
use Rattle.label_events.proofs.rule.LabelRule.faulty_pins.Given as goal

abbrev pub invariant-loop-k : goal.invariant-loop-k
invariant-loop-k l =
    AreTriReductionsOf (map (λ (m : Label). m.faulty) (on_pins (labels l.self.labelling.now.fault (decided_in l.self.labelling.now.decided.items)) l.id l.k (map (at l.values no_label) (drop l.k l.pins)))) l.all
