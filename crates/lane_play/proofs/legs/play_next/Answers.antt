use Rattle.std.proofs.Common.{◌≡◌, ◌≤◌, length, sym, ◌∙◌, arith}
use Rattle.lane_play.proofs.ApartLemmas.{is_zero, leg_skips}
use Rattle.lane_play.proofs.legs.play_next.Goals as goal

pub returns-then-is_empty-clause-end : goal.returns-then-is_empty-clause-end
returns-then-is_empty-clause-end g c = c.in_ok-team.ensures.within

pub returns-then-is_empty-clause-after : goal.returns-then-is_empty-clause-after
returns-then-is_empty-clause-after g c =
    let leg = c.args.leg.now in
    let t = c.in_ok-team.ensures in
    let team = c.in_ok-team.team in
    let none : length team.places.items ≡ 0 = sym team.places.ok.0 ∙ is_zero team.places.len c.is_empty.result c.is_empty.ensures c.if-is_empty.true in
    let low : c.args.start ≤ team.end = (let w = t.within.0 in omega (arith, w)) in
    leg_skips (g.J.Judge.says leg.judge.now) leg.faults.now leg.core.now leg.played.now leg.bursts.now c.args.start team.end c.args.machines.now team.places.items low t.opens none c.requires.before

pub returns-clause-end : goal.returns-clause-end
returns-clause-end g c =
    let within = c.in_ok-team.ensures.within in
    let before = c.requires.before.size in
    let after = c.in_ok-play_team.ensures.size in
    (within.0, (let high = within.1 in omega (arith, high, before, after)))
