use Rattle.std.proofs.Common.{◌++◌, List, ◌∙◌, ap}
use Rattle.events.specs.declared.trails.Change.{Change}
use Rattle.regions.specs.declared.fours.Four.{Four}
use Rattle.word_sim.proofs.ToldFaults.{lane_all}
use Rattle.word_sim.proofs.lanes.tell_four.Goals as goal

pub tell_lane-requires-clause-netlist : goal.tell_lane-requires-clause-netlist
tell_lane-requires-clause-netlist c = c.turn_four.ensures.moves.netlist ∙ c.requires.beside.beside.netlist

pub tell_lane-requires-clause-turned : goal.tell_lane-requires-clause-turned
tell_lane-requires-clause-turned c =
    let m = c.turn_four.ensures.moves in
    lane_all c.args.events.now.netlist c.args.wide.now.netlist c.args.pass.now _ _ c.args.events.now.values c.args.wide.now.values
    c.turn_four.new.events.values c.turn_four.new.events.trail m.changes c.requires.beside.beside.netlist
    (m.trail ∙ ap (λ (ts : List (Change Four)). ts ++ m.changes) c.requires.beside.beside.trail)
    c.requires.beside.values_are c.requires.pass m.are_changes (c.turn_four.ensures.settles c.args.events.now.values c.requires.beside.values_are)

pub turn_four-requires-clause-distinct : goal.turn_four-requires-clause-distinct
turn_four-requires-clause-distinct c = c.can_turn.ensures.distinct c.if-not-can_turn.false
