use Rattle.std.proofs.Common.{◌≡◌, ◌++◌, ◌∙◌, List, ℕ, ap, sym, subst, length, refl, arith}
use Rattle.netlist.specs.Conditions.{IsSound}
use Rattle.statement.specs.Netlists.{Netlist, signals}
use Rattle.events.specs.declared.trails.Change.{Change}
use Rattle.events.specs.Words.{word_table}
use Rattle.word_sim.proofs.FaultFound.{stuck_found}
use Rattle.word_sim.proofs.detecting.last_stuck.Goals as goal

pub returns-clause-found : goal.returns-clause-found
returns-clause-found c =
    let n = c.args.events.now.netlist in
    let sound : IsSound c.args.events.now.netlist = subst IsSound (c.netlist.ensures ∙ c.core.ensures) c.sound.ensures in
    let moves = c.stick.ensures.moves in
    let size : length c.args.events.now.values ≡ length (signals c.args.events.now.netlist) =
    sym c.stick.ensures.moves.are_changes.size ∙ (c.values.ensures.standing.size ∙ ap (λ (m : Netlist). length (signals m)) c.stick.ensures.moves.netlist) in
    let trail_is : c.trail.result.now ≡ c.stick.ensures.moves.changes =
    c.trail.ensures.trail ∙ (c.stick.ensures.moves.trail ∙ ap (λ (ts : List (Change ℕ)). ts ++ c.stick.ensures.moves.changes) c.requires.trail) in
    let count : c.len.result ≡ length c.args.points.now.seen.items = (let a = c.len.ensures in let b = c.args.points.now.seen.ok.0 in omega arith) in
    stuck_found n sound c.args.fault.now c.args.events.now.values c.args.marks c.args.points.now.seen.items c.args.points.now.first.items c.args.points.now.numbers.items c.requires.points size
    c.stick.new.self.values c.values.result.now c.deref.result.now c.len.result c.trail.result.now c.stick.ensures.moves.changes c.requires.enters c.stick.ensures.moves.are_changes (c.stick.ensures.settles word_table refl)
    c.values.ensures.values trail_is c.deref.ensures.value count c.last_shown-found.result c.last_shown-found.ensures
