use Rattle.std.proofs.Common.{◌≡◌, ◌<◌, ◌≤◌, ℕ, List, length, map, ap, sym, subst, ◌∙◌, arith}
use Rattle.std.specs.List.{All}
use Rattle.std.proofs.lemmas.List.{length-map}
use Rattle.statement.specs.Netlists.{Definition, Netlist, cells}
use Rattle.lane_play.specs.declared.packing.Machine.{Machine}
use Rattle.lane_play.proofs.ApartLemmas.{leg_sized, open_within, team_lines, team_ready}
use Rattle.lane_play.proofs.PackLemmas.{lines_length}
use Rattle.lane_play.proofs.legs.play_side_by_side.Goals as goal

pub lines_of-requires : goal.lines_of-requires
lines_of-requires g c =
    let t = c.requires.team in
    let faults = c.args.leg.now.faults.now in
    let within : c.args.team.now.end ≤ length faults = (let w = t.within.1 in let e = c.requires.before.size in omega (arith, w, e)) in
    subst (λ (ps : List ℕ). All (λ p. p < length faults) ps) (sym c.as_slice-places.ensures.value)
    (open_within c.args.machines.now c.args.start c.args.team.now.end (length faults) c.args.team.now.places.items within t.opens)

pub pack-requires-clause-few : goal.pack-requires-clause-few
pack-requires-clause-few g c =
    let few = c.requires.team.few in
    let same = ap length c.as_slice-places.ensures.value in
    omega (arith, few, same)

pub pack-requires-clause-there : goal.pack-requires-clause-there
pack-requires-clause-there g c =
    let t = c.requires.team in
    subst (λ (ps : List ℕ). All (λ p. p < length c.args.machines.now) ps) (sym c.as_slice-places.ensures.value)
    (open_within c.args.machines.now c.args.start c.args.team.now.end (length c.args.machines.now) c.args.team.now.places.items t.within.1 t.opens)

pub pack-requires-clause-sized : goal.pack-requires-clause-sized
pack-requires-clause-sized g c =
    let leg = c.args.leg.now in
    let n : Netlist = leg.core.now in
    let size : length c.cells-cells.result.now ≡ length (cells n) =
    ap length c.cells-cells.ensures ∙ (ap (λ (m : Netlist). length (map (λ (d : Definition). d.id) (cells m))) c.netlist.ensures ∙ length-map (cells n) (λ (d : Definition). d.id)) in
    subst (λ k. All (λ (m : Machine). length m.state.items ≡ k) c.args.machines.now) (sym size)
    (leg_sized (g.J.Judge.says leg.judge.now) leg.faults.now n leg.played.now leg.bursts.now c.args.start c.args.machines.now c.requires.before)

pub play_lines-requires-clause-machines : goal.play_lines-requires-clause-machines
play_lines-requires-clause-machines g c =
    let few = c.requires.team.few in
    let lines = ap length c.deref.ensures.value in
    let places = ap length c.as_slice-places.ensures.value in
    let same = lines_length c.args.leg.now.faults.now c.as_slice-places.result.now c.in_ok-lines.lines.items c.in_ok-lines.ensures in
    omega (arith, few, lines, places, same)

pub play_lines-requires-clause-size : goal.play_lines-requires-clause-size
play_lines-requires-clause-size g c =
    let n : Netlist = c.args.leg.now.core.now in
    c.in_ok-packed.ensures.size
    ∙ (ap length c.cells-cells.ensures ∙ (ap (λ (m : Netlist). length (map (λ (d : Definition). d.id) (cells m))) c.netlist.ensures ∙ length-map (cells n) (λ (d : Definition). d.id)))

pub play_lines-requires-clause-begun : goal.play_lines-requires-clause-begun
play_lines-requires-clause-begun g c =
    let leg = c.args.leg.now in
    let n : Netlist = leg.core.now in
    let size : length c.cells-cells.result.now ≡ length (cells n) =
    ap length c.cells-cells.ensures ∙ (ap (λ (m : Netlist). length (map (λ (d : Definition). d.id) (cells m))) c.netlist.ensures ∙ length-map (cells n) (λ (d : Definition). d.id)) in
    team_ready (g.J.Judge.says leg.judge.now) leg.faults.now n leg.played.now leg.bursts.now c.args.start c.args.team.now.end c.args.machines.now c.args.team.now.places.items c.as_slice-places.result.now
    c.in_ok-lines.lines.items c.deref.result.now c.in_ok-packed.packed.items (length c.cells-cells.result.now) c.requires.team c.as_slice-places.ensures.value c.deref.ensures.value c.in_ok-lines.ensures c.in_ok-packed.ensures
    size c.requires.before

pub returns : goal.returns
returns g c = record {
  lines = c.deref.result.now;
  are_lines = team_lines c.args.leg.now.faults.now c.args.team.now.places.items c.as_slice-places.result.now c.in_ok-lines.lines.items c.deref.result.now c.as_slice-places.ensures.value c.deref.ensures.value
      c.in_ok-lines.ensures;
  played = c.in_ok-heard.ensures;
}
