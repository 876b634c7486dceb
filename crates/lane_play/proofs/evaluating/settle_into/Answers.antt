use Rattle.std.proofs.Common.{◌∙◌}
use Rattle.netlist.proofs.Settling.{all_settle}
use Rattle.lane_play.specs.inner.Lanes.{lanes_rule}
use Rattle.lane_play.proofs.evaluating.settle_into.Goals as goal

pub evaluate_all-requires-clause-size : goal.evaluate_all-requires-clause-size
evaluate_all-requires-clause-size c = c.drive_sources.ensures.size ∙ c.requires.size

pub returns-clause-settled : goal.returns-clause-settled
returns-clause-settled c =
    all_settle c.args.netlist.now c.requires.sound.formed.numbered c.args.order.now c.requires.ordered (lanes_rule c.args.rule.now.faults.now) c.args.inputs.now c.args.state.now
    c.args.values.now.items c.drive_sources.new.values.items c.evaluate_all.new.values.items c.requires.size c.drive_sources.ensures c.evaluate_all.ensures.made
