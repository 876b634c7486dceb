use Rattle.std.proofs.Common.{◌++◌, ◌∙◌, List, ℕ, refl, ap, sym, subst, length}
use Rattle.netlist.specs.Conditions.{IsSound}
use Rattle.statement.specs.Netlists.{Netlist, signals}
use Rattle.events.specs.declared.trails.Change.{Change}
use Rattle.events.specs.Words.{word_table}
use Rattle.word_sim.specs.inner.Differences.{IsFirstShown}
use Rattle.grade.specs.inner.Keys.{most_key}
use Rattle.grade.proofs.Spotted.{stuck_spotted}
use Rattle.grade.proofs.spotting.spot_stuck.Goals as goal

pub nearest_undone-requires-clause-size : goal.nearest_undone-requires-clause-size
nearest_undone-requires-clause-size c = c.requires.timing.are_keys.size ∙ ap (λ (m : Netlist). length (signals m)) (sym c.stick.ensures.moves.netlist)

pub returns-clause-first : goal.returns-clause-first
returns-clause-first c =
    let n = c.args.events.now.netlist in
    let keys = c.args.timing.now.keys.items in
    let key = c.nearest_undone.result in
    let new = c.stick.new.self.values in
    let moves = c.stick.ensures.moves in
    let sound : IsSound n = subst IsSound (c.netlist.ensures ∙ c.core.ensures) c.sound.ensures in
    let size = sym moves.are_changes.size ∙ (c.nearest_undone.ensures.size ∙ ap (λ (m : Netlist). length (signals m)) moves.netlist) in
    let trail_is = moves.trail ∙ ap (λ (ts : List (Change ℕ)). ts ++ moves.changes) c.requires.trail in
    let first = subst (λ (cs : List (Change ℕ)). IsFirstShown keys most_key new c.args.j cs key) trail_is c.nearest_undone.ensures.first in
    stuck_spotted n sound c.args.timing.now.chains.now c.args.fault.now c.args.events.now.values c.args.j c.requires.low keys c.requires.timing.are_keys new moves.changes size c.requires.enters
    moves.are_changes (c.stick.ensures.settles word_table refl) key first
