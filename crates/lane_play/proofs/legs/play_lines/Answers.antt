use Rattle.std.proofs.Common.{◌++◌, List, Option, sym, subst, arith}
use Rattle.statement.specs.declared.lines.Fault.{Fault}
use Rattle.statement.specs.Netlists.{Netlist}
use Rattle.scan_play.specs.declared.played.Played.{Played}
use Rattle.scan_play.specs.Bursts.{all_cycles}
use Rattle.lane_play.specs.inner.Steps.{ArePlayed}
use Rattle.lane_play.proofs.legs.play_lines.Goals as goal

pub cycles_in-first-requires : goal.cycles_in-first-requires
cycles_in-first-requires g c = let few = c.args.leg.now.few in omega arith

pub play_from-requires-clause-fits : goal.play_from-requires-clause-fits
play_from-requires-clause-fits g c = c.args.leg.now.fits

pub play_from-requires-clause-few : goal.play_from-requires-clause-few
play_from-requires-clause-few g c =
    let few = c.args.leg.now.few in
    let first = c.cycles_in-first.ensures in
    omega arith

pub returns : goal.returns
returns g c =
    let leg = c.args.leg.now in
    let says = g.J.Judge.says leg.judge.now in
    let n : Netlist = leg.core.now in
    let lines = c.args.lines.now in
    let played = all_cycles leg.played.now in
    let r = c.in_ok-heard.heard in
    let none = c.in_ok-verdicts.ensures in
    let begun = subst (λ (fs : List Fault). ArePlayed says fs n played c.args.state.items c.in_ok-verdicts.verdicts.found.items) (sym c.in_ok-rule.ensures.faults)
    (subst (λ (xs : List (Option Played)). ArePlayed says lines n played c.args.state.items xs) (sym none) c.requires.begun) in
    subst (λ (fs : List Fault). ArePlayed says fs n (played ++ all_cycles leg.bursts.now) r.1.items r.0.found.items) c.in_ok-rule.ensures.faults
    (c.in_ok-heard.ensures played (sym c.cycles_in-first.ensures) begun)
