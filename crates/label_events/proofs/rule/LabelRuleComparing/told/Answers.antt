use Rattle.std.proofs.Common.{◌∙◌, rules}
use Rattle.tri.specs.Labelling.{decided_in}
use Rattle.label_events.proofs.Hiding.{pin_tells}
use Rattle.label_events.proofs.rule.LabelRuleComparing.told.Goals as goal

pub returns : goal.returns
returns c = λ d. (search rules) ∙ pin_tells c.args.self.now.labelling.now.fault (decided_in c.args.self.now.labelling.now.decided.items) c.args.gate.now c.args.values.now
    c.in_ok-label.label c.args.place c.in_ok-label.ensures.within (search rules) c.in_ok-label.ensures.label (search rules) (search rules) d
