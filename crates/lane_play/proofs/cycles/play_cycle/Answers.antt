use Rattle.std.proofs.Common.{◌+◌, length, List, sym, ◌∙◌, ap, subst, arith}
use Rattle.std.specs.List.{All}
use Rattle.std.proofs.lemmas.List.{length-map}
use Rattle.statement.specs.declared.kinds.Tri.{Tri}
use Rattle.statement.specs.Netlists.{Netlist, signals}
use Rattle.netlist.specs.Netlist.{IsGateAt}
use Rattle.netlist.specs.Conditions.{IsSound}
use Rattle.scan_play.specs.Bursts.{cycle_of}
use Rattle.lane_play.specs.declared.packed.Lanes.{Lanes}
use Rattle.lane_play.specs.inner.Lanes.{always}
use Rattle.lane_play.specs.inner.Shifts.{AreEnough}
use Rattle.lane_play.specs.inner.Steps.{KeepsOn}
use Rattle.lane_play.proofs.ShiftLemmas.{cycle_steps, enough_gates, enough_size, still_enough}
use Rattle.lane_play.proofs.cycles.play_cycle.Goals as goal

pub drive_sources-requires-clause-inputs : goal.drive_sources-requires-clause-inputs
drive_sources-requires-clause-inputs g c =
    ap length (c.deref.ensures.value ∙ c.in_ok-read_drive.ensures) ∙ (length-map (cycle_of c.args.passage.now.burst.now c.args.t).drive always
    ∙ (c.requires.fits.drive ∙ ap (λ (m : Netlist). length m.inputs) (sym c.netlist-netlist.ensures)))

pub drive_sources-requires-clause-size : goal.drive_sources-requires-clause-size
drive_sources-requires-clause-size g c =
    let p = c.args.passage.now in
    enough_size c.args.play.now.rule.faults.now c.args.play.now.core.now p.burst.now p.steps.now c.args.bench.now.values.items c.requires.enough
    ∙ ap (λ (m : Netlist). length (signals m)) (sym c.netlist-netlist.ensures)

pub evaluate_all-requires-clause-gates : goal.evaluate_all-requires-clause-gates
evaluate_all-requires-clause-gates g c =
    let p = c.args.passage.now in
    subst (λ (m : Netlist). All (IsGateAt m) p.steps.now) (sym c.netlist-netlist.ensures)
    (enough_gates c.args.play.now.rule.faults.now c.args.play.now.core.now p.burst.now p.steps.now c.args.bench.now.values.items c.requires.enough)

pub evaluate_all-requires-clause-size : goal.evaluate_all-requires-clause-size
evaluate_all-requires-clause-size g c =
    let p = c.args.passage.now in
    c.drive_sources.ensures.size
    ∙ (enough_size c.args.play.now.rule.faults.now c.args.play.now.core.now p.burst.now p.steps.now c.args.bench.now.values.items c.requires.enough
    ∙ ap (λ (m : Netlist). length (signals m)) (sym c.netlist-netlist.ensures))

pub overflow_add-number : goal.overflow_add-number
overflow_add-number g c =
    let few = c.args.passage.now.few in
    let within = c.requires.within in
    omega arith

pub end_cycle-requires-clause-bench : goal.end_cycle-requires-clause-bench
end_cycle-requires-clause-bench g c =
    let p = c.args.passage.now in (
      c.requires.size,
      c.evaluate_all.ensures.size
          ∙ (c.drive_sources.ensures.size ∙ enough_size c.args.play.now.rule.faults.now c.args.play.now.core.now p.burst.now p.steps.now c.args.bench.now.values.items c.requires.enough),
    )

pub end_cycle-requires-clause-strobes : goal.end_cycle-requires-clause-strobes
end_cycle-requires-clause-strobes g c = ap length c.in_ok-read_strobe.ensures ∙ c.requires.fits.strobe

pub returns-clause-enough : goal.returns-clause-enough
returns-clause-enough g c =
    let p = c.args.passage.now in
    let faults = c.args.play.now.rule.faults.now in
    let n : Netlist = c.args.play.now.core.now in
    subst (λ (vs : List Lanes). AreEnough faults n p.burst.now p.steps.now vs) (sym c.in_ok-heard.ensures.values)
    (still_enough faults c.args.play.now.rule.few n c.netlist-netlist.result.now p.burst.now c.args.t p.steps.now c.args.bench.now.values.items c.drive_sources.new.values.items c.evaluate_all.new.values.items
    c.args.bench.now.state.items c.deref.result.now c.deref-2.result.now c.netlist-netlist.ensures (subst IsSound c.netlist-netlist.ensures c.sound.ensures) c.requires.enough c.requires.fits.drive c.requires.size
    (c.deref.ensures.value ∙ c.in_ok-read_drive.ensures) c.deref-2.ensures.value c.drive_sources.ensures c.evaluate_all.ensures.made c.evaluate_all.ensures.size)

pub returns-clause-played : goal.returns-clause-played
returns-clause-played g c =
    let p = c.args.passage.now in
    let faults = c.args.play.now.rule.faults.now in
    let n : Netlist = c.args.play.now.core.now in
    let number = p.first + c.args.t in
    let e = c.in_ok-heard.ensures.ended in
    let kept = g.W.Watch.kept c.args.play.now.judge.now in
    record {
      row = e.0;
      heard = subst (λ (ss : List Tri). KeepsOn (kept c.args.watch) (kept c.in_ok-heard.heard) number ss e.0) c.in_ok-read_strobe.ensures e.1;
      steps = cycle_steps faults c.args.play.now.rule.few n c.netlist-netlist.result.now p.burst.now c.args.t p.steps.now c.args.bench.now.values.items c.drive_sources.new.values.items c.evaluate_all.new.values.items
          c.args.bench.now.state.items c.deref.result.now c.deref-2.result.now c.netlist-netlist.ensures (subst IsSound c.netlist-netlist.ensures c.sound.ensures) c.requires.enough c.requires.fits.drive c.requires.size
          (c.deref.ensures.value ∙ c.in_ok-read_drive.ensures) c.deref-2.ensures.value c.drive_sources.ensures c.evaluate_all.ensures.made c.evaluate_all.ensures.size number c.end_cycle.new.bench.state.items e.0 e.2;
    }
