use Rattle.std.proofs.Common.{◌*◌, length, List, take, drop, refl, sym, ◌∙◌, ap, subst}
use Rattle.std.specs.List.{All}
use Rattle.statement.specs.declared.kinds.Tri.{Tri}
use Rattle.statement.specs.declared.kinds.Tri.TheVariants.{X}
use Rattle.statement.specs.Netlists.{Netlist}
use Rattle.netlist.specs.Netlist.{IsGateAt}
use Rattle.netlist.specs.Conditions.{IsSound}
use Rattle.netlist.specs.Settled.{at}
use Rattle.statement.specs.Values.{outs}
use Rattle.tri.specs.Settled.{tris}
use Rattle.scan_play.specs.inner.Plans.{IsPlanned}
use Rattle.scan_play.proofs.PlanLemmas.{shift_step, shift_planned}
use Rattle.scan_play.proofs.playing.play_shift.Goals as goal

pub evaluate_all-requires-clause-gates : goal.evaluate_all-requires-clause-gates
evaluate_all-requires-clause-gates g c =
    subst (λ (m : Netlist). All (IsGateAt m) c.args.steps.now) (sym c.netlist-netlist.ensures) c.requires.planned.has.path.are_gates

pub end_cycle-requires-clause-room : goal.end_cycle-requires-clause-room
end_cycle-requires-clause-room g c = c.in_ok-evaluate_all.ensures.size ∙ (c.drive_sources.ensures.size ∙ c.requires.planned.size)

pub end_cycle-requires-clause-strobes : goal.end_cycle-requires-clause-strobes
end_cycle-requires-clause-strobes g c = ap length c.in_ok-read_strobe.ensures ∙ c.requires.fits.strobe

pub returns-clause-planned : goal.returns-clause-planned
returns-clause-planned g c =
    let b = c.args.burst.now in
    subst (λ (vs : List Tri). IsPlanned c.args.rule.now.fault c.args.core.now b.drive.items b.strobe.items c.args.steps.now vs) (sym c.in_ok-found.ensures.values)
    (shift_planned (g.J.Judge.says c.args.judge.now) (g.met.J.Judge.open c.args.judge.now) c.args.rule.now.fault c.args.core.now c.netlist-netlist.result.now b.drive.items b.strobe.items c.args.steps.now
    c.args.bench.now.values.items c.drive_sources.new.values.items c.evaluate_all.new.values.items
    (take b.width (drop (c.args.t * b.width) b.ins.items)) (take b.width (drop (c.args.t * b.width) b.outs.items)) c.args.bench.now.state.items
    c.deref.result.now c.deref-2.result.now c.netlist-netlist.ensures (subst IsSound c.netlist-netlist.ensures c.sound.ensures) c.requires.planned c.requires.fits.drive c.requires.size
    (c.deref.ensures.value ∙ c.in_ok-read_drive.ensures) c.deref-2.ensures.value c.drive_sources.ensures c.in_ok-evaluate_all.ensures.made)

pub returns-clause-played : goal.returns-clause-played
returns-clause-played g c =
    let b = c.args.burst.now in
    let n : Netlist = c.args.core.now in
    let v2 = c.evaluate_all.new.values.items in
    let ended = c.in_ok-found.ensures.ended in
    shift_step (g.J.Judge.says c.args.judge.now) (g.met.J.Judge.open c.args.judge.now) c.args.rule.now.fault n c.netlist-netlist.result.now b.drive.items b.strobe.items c.args.steps.now
    c.args.bench.now.values.items c.drive_sources.new.values.items v2
    (take b.width (drop (c.args.t * b.width) b.ins.items)) (take b.width (drop (c.args.t * b.width) b.outs.items)) c.args.bench.now.state.items
    c.deref.result.now c.deref-2.result.now c.netlist-netlist.ensures (subst IsSound c.netlist-netlist.ensures c.sound.ensures) c.requires.planned c.requires.fits.drive c.requires.size
    (c.deref.ensures.value ∙ c.in_ok-read_drive.ensures) c.deref-2.ensures.value c.drive_sources.ensures c.in_ok-evaluate_all.ensures.made
    b.pulse c.args.number v2 (outs (tris c.args.rule.now.fault) n (at v2 X)) _ c.end_cycle.new.bench.state.items c.in_ok-found.found
    refl refl c.in_ok-read_strobe.ensures ended.said ended.ticked
