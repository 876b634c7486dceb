use Rattle.std.proofs.Common.{◌≡◌, ◌++◌, ◌∙◌, List, ℕ, ap, sym, subst, length, arith}
use Rattle.netlist.specs.Conditions.{IsSound}
use Rattle.statement.specs.Netlists.{Netlist, signals}
use Rattle.events.specs.declared.trails.Change.{Change}
use Rattle.detections.proofs.SeenPoints.{seen_under}
use Rattle.detections.proofs.seeing.seen_of.Goals as goal

pub returns-clause-seen : goal.returns-clause-seen
returns-clause-seen c =
    let n = c.args.events.now.netlist in
    let sound : IsSound c.args.events.now.netlist = subst IsSound (c.netlist.ensures ∙ c.core.ensures) c.sound.ensures in
    let size : length c.args.events.now.values ≡ length (signals c.args.events.now.netlist) =
    sym c.turn.ensures.moves.are_changes.size ∙ (c.values.ensures.standing.size ∙ ap (λ (m : Netlist). length (signals m)) c.turn.ensures.moves.netlist) in
    let trail_is : c.trail.result.now ≡ c.turn.ensures.moves.changes =
    c.trail.ensures.trail ∙ (c.turn.ensures.moves.trail ∙ ap (λ (ts : List (Change ℕ)). ts ++ c.turn.ensures.moves.changes) c.requires.trail) in
    let count : c.len-count.result ≡ length c.args.points.now.seen.items = (let a = c.len-count.ensures in let b = c.args.points.now.seen.ok.0 in omega arith) in
    seen_under n sound c.args.events.now.values c.turn.new.events.values c.turn.ensures.moves.changes c.turn.ensures.moves.are_changes size
    c.args.points.now.seen.items c.args.points.now.first.items c.args.points.now.numbers.items c.requires.points c.args.signal c.all_shown-seen.result c.turn.ensures.settles
    c.values.result.now c.deref.result.now c.len-count.result c.trail.result.now c.values.ensures.values trail_is c.deref.ensures.value count c.all_shown-seen.ensures
