use Rattle.std.proofs.Common.{◌≡◌, ◌+◌, ◌-◌, [], List, Option, length, map, take, drop, ap, sym, subst, ◌∙◌, arith}
use Rattle.std.specs.List.{All}
use Rattle.std.proofs.lemmas.List.{take_all}
use Rattle.statement.specs.Netlists.{Netlist}
use Rattle.statement.specs.Runs.{Cycle}
use Rattle.netlist.specs.Conditions.{IsSound}
use Rattle.scan_play.specs.declared.cycles.Burst.{Burst}
use Rattle.scan_play.specs.declared.played.Played.{Played}
use Rattle.scan_play.specs.Cycles.{IsCycleOf}
use Rattle.lane_play.specs.declared.packing.Machine.{Machine}
use Rattle.lane_play.specs.Judged.{AreJudged}
use Rattle.lane_play.specs.inner.Apart.{AreInLeg}
use Rattle.lane_play.proofs.ApartLemmas.{leg_ends, leg_few, leg_fits, leg_judged, leg_taken, take_left}
use Rattle.lane_play.proofs.legs.play_lanes.Goals as goal

pub invariant_of-leg-clause-fits : goal.invariant_of-leg-clause-fits
invariant_of-leg-clause-fits g c =
    let more = c.leg_length.ensures in
    leg_fits c.args.core.now c.bursts-bursts.result.now c.loop-from.from (c.loop-from.from + c.leg_length.result) c.args.vectors.now (omega arith) c.bursts-bursts.ensures c.requires.fits

pub invariant_of-leg-clause-few : goal.invariant_of-leg-clause-few
invariant_of-leg-clause-few g c =
    let more = c.leg_length.ensures in
    let few = c.requires.few in
    let parts = leg_few c.bursts-bursts.result.now c.loop-from.from (c.loop-from.from + c.leg_length.result) c.args.vectors.now (omega arith) c.bursts-bursts.ensures in
    omega (arith, parts, few)

pub loop-from-preserved : goal.loop-from-preserved
loop-from-preserved g c =
    let says = g.J.Judge.says c.args.judge.now in
    let faults = c.args.faults.now in
    let n : Netlist = c.args.core.now in
    let bursts : List Burst = c.bursts-bursts.result.now in
    let from = c.loop-from.from in
    let to = c.loop-from.from + c.leg_length.result in
    let old = c.loop-from.machines in
    let new : List Machine = c.play_leg.new.machines in
    let more = c.leg_length.ensures in
    let within = c.loop-from.invariant.within in
    let rest : List Machine = drop (length new) old.items in
    let size : old.len ≡ length new = old.ok.0 ∙ (c.loop-from.invariant.apart.size ∙ sym c.in_ok-play_leg.ensures.size) in
    let played = leg_ends says faults n (take from bursts) (take (to - from) (drop from bursts)) (take to bursts) new (leg_taken bursts from to (omega arith)) c.in_ok-play_leg.ensures in
    record {
      within = (let most = more.1 in omega (arith, most, within));
      apart = subst (λ (ms : List Machine). AreInLeg says faults n (take to bursts) [] 0 ms) (sym (take_left new rest old.len size)) played;
    }

pub returns : goal.returns
returns g c =
    let says = g.J.Judge.says c.args.judge.now in
    let faults = c.args.faults.now in
    let n : Netlist = c.args.core.now in
    let bursts : List Burst = c.bursts-bursts.result.now in
    let machines : List Machine = c.loop-from.machines.items in
    let apart = subst (λ (bs : List Burst). AreInLeg says faults n bs [] 0 machines) (take_all c.loop-from.from bursts c.loop-from-test.false) c.loop-from.invariant.apart in
    let fits = subst (λ (cs : List Cycle). All (IsCycleOf n) cs) c.bursts-bursts.ensures c.requires.fits in
    let said = c.in_ok-said_of.ensures ∙ ap (λ (ms : List Machine). map (λ (m : Machine). m.said) ms) c.deref.ensures.value in
    subst (λ (xs : List (Option Played)). AreJudged says n faults c.args.vectors.now xs) (sym said)
    (subst (λ (cs : List Cycle). AreJudged says n faults cs (map (λ (m : Machine). m.said) machines)) (sym c.bursts-bursts.ensures)
    (leg_judged says faults n bursts machines (subst IsSound c.netlist.ensures c.sound.ensures) fits apart))
