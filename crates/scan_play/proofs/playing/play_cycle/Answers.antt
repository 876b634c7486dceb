use Rattle.std.proofs.Common.{length, List, refl, ◌∙◌, ap, subst}
use Rattle.statement.specs.declared.kinds.Tri.{Tri}
use Rattle.statement.specs.declared.kinds.Tri.TheVariants.{X}
use Rattle.statement.specs.Netlists.{Netlist}
use Rattle.netlist.specs.Conditions.{IsSound}
use Rattle.statement.specs.Values.{Settles, outs}
use Rattle.netlist.specs.Settled.{at}
use Rattle.tri.specs.Settled.{tris}
use Rattle.scan_play.specs.Bursts.{cycle_of}
use Rattle.scan_play.proofs.PlaySteps.{step_from}
use Rattle.scan_play.proofs.playing.play_cycle.Goals as goal

pub end_cycle-requires-clause-strobes : goal.end_cycle-requires-clause-strobes
end_cycle-requires-clause-strobes g c = ap length c.in_ok-read_strobe.ensures ∙ c.requires.fits.strobe

pub returns-clause-room : goal.returns-clause-room
returns-clause-room g c = ap length c.in_ok-found.ensures.values ∙ c.in_ok-settle_into.ensures.size

pub returns-clause-played : goal.returns-clause-played
returns-clause-played g c =
    let rule = tris c.args.rule.now.fault in
    let n : Netlist = c.args.core.now in
    let values = at c.settle_into.new.values.items X in
    step_from (g.J.Judge.says c.args.judge.now) c.args.rule.now.fault n (cycle_of c.args.burst.now c.args.t) c.args.number c.args.bench.now.state.items c.end_cycle.new.bench.state.items
    c.deref.result.now _ (outs rule n values) values c.in_ok-found.found
    (subst IsSound c.netlist.ensures c.sound.ensures) (c.deref.ensures.value ∙ c.in_ok-read_drive.ensures) c.in_ok-read_strobe.ensures c.requires.size
    (subst (λ (s : List Tri). Settles rule n c.deref.result.now s values) c.deref-2.ensures.value (c.in_ok-settle_into.ensures.settled X))
    refl c.in_ok-found.ensures.ended.ticked c.in_ok-found.ensures.ended.said
