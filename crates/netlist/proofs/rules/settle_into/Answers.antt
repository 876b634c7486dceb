use Rattle.std.proofs.Common.{◌∙◌}
use Rattle.netlist.proofs.Settling.{all_settle}
use Rattle.netlist.proofs.rules.settle_into.Goals as goal

pub evaluate_all-requires-clause-size : goal.evaluate_all-requires-clause-size
evaluate_all-requires-clause-size g c = c.drive_sources.ensures.size ∙ c.requires.size

pub returns-clause-settled : goal.returns-clause-settled
returns-clause-settled g c =
    all_settle c.args.netlist.now c.requires.sound.formed.numbered c.args.order.now c.requires.ordered (g.L.Logic.rule c.args.logic.now) c.args.inputs.now c.args.state.now
    c.args.values.now.items c.drive_sources.new.values.items c.evaluate_all.new.values.items c.requires.size c.drive_sources.ensures c.in_ok-evaluate_all.ensures.made
