use Rattle.std.proofs.Common.{◌++◌, ◌*◌, ◌^◌, ◌%◌, ◌∙◌, List, ℕ, ap, sym, subst, length}
use Rattle.netlist.specs.Conditions.{IsSound}
use Rattle.statement.specs.Netlists.{Netlist, signals}
use Rattle.events.specs.declared.trails.Change.{Change}
use Rattle.detections.proofs.Alone.{one_bit}
use Rattle.word_sim.specs.inner.Differences.{IsFirstShown}
use Rattle.grade.specs.inner.Keys.{most_key}
use Rattle.grade.proofs.Turned.{turned_spotted}
use Rattle.grade.proofs.spotting.spot_turned.Goals as goal

pub nearest_undone-requires-clause-size : goal.nearest_undone-requires-clause-size
nearest_undone-requires-clause-size c = c.requires.timing.are_keys.size ∙ ap (λ (m : Netlist). length (signals m)) (sym c.turn.ensures.moves.netlist)

pub returns-clause-first : goal.returns-clause-first
returns-clause-first c =
    let n = c.args.events.now.netlist in
    let j = c.args.j in
    let keys = c.args.timing.now.keys.items in
    let key = c.nearest_undone.result in
    let new = c.turn.new.events.values in
    let moves = c.turn.ensures.moves in
    let sound : IsSound n = subst IsSound (c.netlist.ensures ∙ c.core.ensures) c.sound.ensures in
    let size = sym moves.are_changes.size ∙ (c.nearest_undone.ensures.size ∙ ap (λ (m : Netlist). length (signals m)) moves.netlist) in
    let trail_is = moves.trail ∙ ap (λ (ts : List (Change ℕ)). ts ++ moves.changes) c.requires.trail in
    let first = subst (λ (cs : List (Change ℕ)). IsFirstShown keys most_key new j cs key) trail_is c.nearest_undone.ensures.first in
    turned_spotted n sound c.args.events.now.values j c.requires.low c.args.head (1 * 2 ^ j % 2 ^ 64) (one_bit j c.requires.low) new c.turn.ensures.settles c.args.timing.now.chains.now keys
    c.requires.timing.are_keys moves.changes size moves.are_changes key first
