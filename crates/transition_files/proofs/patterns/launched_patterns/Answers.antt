use Rattle.transition_files.proofs.LaunchBack.{launches_obey}
use Rattle.transition_files.proofs.patterns.launched_patterns.Goals as goal

pub returns-clause-obey : goal.returns-clause-obey
returns-clause-obey c =
    launches_obey c.args.core.now c.netlist.result.now c.args.holds.now c.in_ok-applied.applied.items c.in_ok-kept.kept.items c.netlist.ensures c.in_ok-applied.ensures.obey c.in_ok-kept.ensures
