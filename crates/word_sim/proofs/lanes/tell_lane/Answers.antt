use Rattle.std.proofs.Common.{◌≡◌, ℕ, ◌<◌, List, length, map, sym, ◌∙◌, ap, subst, arith}
use Rattle.std.specs.List.{All}
use Rattle.statement.specs.Netlists.{Netlist, signals}
use Rattle.events.specs.declared.trails.Change.{Change}
use Rattle.regions.specs.declared.fours.Four.{Four}
use Rattle.regions.specs.declared.turned.TurnedWords.{TurnedWords}
use Rattle.word_sim.specs.inner.Groups.{CanTellAll}
use Rattle.regions.specs.Side.{lane_of}
use Rattle.word_sim.specs.inner.Differences.{in_lane}
use Rattle.word_sim.proofs.ToldFaults.{shows_all}
use Rattle.word_sim.proofs.lanes.tell_lane.Goals as goal

pub list_lane-requires-clause-within : goal.list_lane-requires-clause-within
list_lane-requires-clause-within c =
    subst (λ (vs : List Four). All (λ (d : Change Four). d.signal < length vs) c.trail.result.now) (sym c.values.ensures.values)
    (subst (λ (cs : List (Change Four)). All (λ (d : Change Four). d.signal < length c.args.wide.now.values) cs) (sym c.trail.ensures.trail) c.trail.ensures.standing.within)

pub list_lane-requires-clause-size : goal.list_lane-requires-clause-size
list_lane-requires-clause-size c =
    ap (λ (xs : List ℕ). length xs) c.deref.ensures.value ∙ (c.requires.turned.pass.points.first_is.size ∙ (ap (λ (m : Netlist). length (signals m)) (sym c.requires.netlist) ∙ sym c.values.ensures.standing.size ∙ ap (λ (vs : List Four). length vs) (sym c.values.ensures.values)))

pub tell_chain-requires-clause-turned : goal.tell_chain-requires-clause-turned
tell_chain-requires-clause-turned c =
    let count : c.len-count.result ≡ length c.args.pass.now.points.now.seen.items = (let a = c.len-count.ensures in let b = c.args.pass.now.points.now.seen.ok.0 in omega arith) in
    let lane = c.args.lane in
    shows_all c.args.events.now.netlist c.args.pass.now c.of-own.result
    (map (lane_of lane) c.args.wide.now.values) (map (lane_of lane) c.values.result.now) (map (in_lane lane) c.args.wide.now.trail) (map (in_lane lane) c.trail.result.now)
    c.deref.result.now c.len-count.result c.deref-2.result.now
    (subst (λ (w : TurnedWords). CanTellAll c.args.events.now.netlist c.args.pass.now w (map (lane_of lane) c.args.wide.now.values) (map (in_lane lane) c.args.wide.now.trail)) (sym c.of-own.ensures) c.requires.turned)
    c.deref.ensures.value count (ap (map (lane_of lane)) c.values.ensures.values) (ap (map (in_lane lane)) c.trail.ensures.trail) (c.deref-2.ensures.value ∙ c.in-Ok.ensures)
