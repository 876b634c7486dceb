use Rattle.std.proofs.Common.{◌++◌, List, ℕ, ◌∙◌, ap}
use Rattle.events.specs.declared.trails.Change.{Change}
use Rattle.word_sim.proofs.ToldFaults.{head_low, turned_all}
use Rattle.word_sim.proofs.groups.tell_from.Goals as goal

pub turn-requires-clause-within : goal.turn-requires-clause-within
turn-requires-clause-within c =
    head_low c.args.events.now.netlist c.args.events.now.values c.args.pass.now.faults.now c.args.pass.now.reaches.now c.args.start c.in-Some.head c.in-Some.field-0-1 _ c.requires.pass.reaches
    c.requires.start c.in-Some.is

pub tell_turned-requires-clause-turned : goal.tell_turned-requires-clause-turned
tell_turned-requires-clause-turned c =
    turned_all c.args.events.now.netlist c.turn.new.events.netlist c.args.pass.now _ c.args.events.now.values c.turn.new.events.values
    c.turn.new.events.trail c.turn.ensures.moves.changes c.turn.ensures.moves.netlist
    (c.turn.ensures.moves.trail ∙ ap (λ (ts : List (Change ℕ)). ts ++ c.turn.ensures.moves.changes) c.requires.trail)
    c.requires.pass c.turn.ensures.moves.are_changes c.turn.ensures.settles
