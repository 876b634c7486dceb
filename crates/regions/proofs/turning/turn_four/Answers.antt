use Rattle.regions.proofs.SideTurned.{settles_in_lanes}
use Rattle.regions.proofs.turning.turn_four.Goals as goal

pub returns-clause-settles : goal.returns-clause-settles
returns-clause-settles c = λ values stood.
    settles_in_lanes c.args.events.now.netlist c.args.turned.now values c.args.events.now.values c.change_each.new.self.values stood c.change_each.ensures.settles
