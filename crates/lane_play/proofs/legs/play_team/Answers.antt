use Rattle.std.proofs.Common.{◌≤◌, length, ap, ◌∙◌, arith}
use Rattle.lane_play.proofs.ApartLemmas.{leg_more, open_within, team_filed}
use Rattle.lane_play.proofs.PackLemmas.{lines_length}
use Rattle.lane_play.proofs.legs.play_team.Goals as goal

pub file_team-requires-clause-few : goal.file_team-requires-clause-few
file_team-requires-clause-few g c = c.requires.team.few

pub file_team-requires-clause-same : goal.file_team-requires-clause-same
file_team-requires-clause-same g c =
    let p = c.in_ok-heard.ensures in
    ap length c.deref-2.ensures.value ∙ (p.played.size ∙ lines_length c.args.leg.now.faults.now c.args.team.now.places.items p.lines p.are_lines)

pub file_team-requires-clause-within : goal.file_team-requires-clause-within
file_team-requires-clause-within g c =
    let t = c.requires.team in
    open_within c.args.machines.now c.args.start c.args.team.now.end (length c.args.machines.now) c.args.team.now.places.items t.within.1 t.opens

pub returns : goal.returns
returns g c =
    let leg = c.args.leg.now in
    let t = c.requires.team in
    let p = c.in_ok-heard.ensures in
    let places = c.args.team.now.places.items in
    let state = c.in_ok-heard.state.items in
    let found = c.in_ok-heard.heard.found.items in
    let old = c.args.machines.now in
    let new = c.file_team.new.machines in
    let low : c.args.start ≤ c.args.team.now.end = (let w = t.within.0 in omega (arith, w)) in
    leg_more (g.J.Judge.says leg.judge.now) leg.faults.now leg.core.now leg.played.now leg.bursts.now c.args.start c.args.team.now.end old new places p.lines state found low t.opens p.are_lines
    (team_filed places state c.deref.result.now found c.deref-2.result.now old new c.deref.ensures.value c.deref-2.ensures.value c.in_ok-file_team.ensures) p.played c.requires.before
