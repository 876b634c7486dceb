use Rattle.std.proofs.Common.{◌≡◌, ◌≤◌, map, drop, subst, arith}
use Rattle.statement.specs.Values.{on_pins}
use Rattle.netlist.specs.Settled.{at}
use Rattle.tri.specs.Labels.{labels}
use Rattle.tri.specs.Labelling.{decided_in}
use Rattle.tri.specs.declared.labels.Label.{Label}
use Rattle.tri.specs.Gathered.{AreTriReductionsOf}
use Rattle.label_events.specs.Gathered.{no_label}
use Rattle.label_events.proofs.rule.LabelRule.faulty_pins.Goals as goal

pub returns : goal.returns
returns c =
    let rule = labels c.args.self.now.labelling.now.fault (decided_in c.args.self.now.labelling.now.decided.items) in
    let end : c.loop-k.k ≤ 0 = c.loop-k-test.false in
    let zero : c.loop-k.k ≡ 0 = omega arith in
    subst (λ k. AreTriReductionsOf (map (λ (m : Label). m.faulty) (on_pins rule c.args.id k (map (at c.args.values.now no_label) (drop k c.args.pins.now)))) c.loop-k.all) zero c.loop-k.invariant
