use Rattle.std.proofs.Common.{◌<◌, length, ap, ◌∙◌, subst, arith}
use Rattle.netlist.specs.Conditions.{IsSound}
use Rattle.statement.specs.Netlists.{Netlist, signals}
use Rattle.netlist.proofs.Placed.{signals_length}
use Rattle.refutation.specs.declared.pairs.Pairs.{Pairs}
use Rattle.refutation.specs.Pairs.{meet, same}
use Rattle.refutation_check.specs.inner.Starting.{own}
use Rattle.refutation_check.proofs.StartLemmas.{idle_more}
use Rattle.refutation_check.proofs.starting.idle.Goals as goal

pub loop-x-preserved : goal.loop-x-preserved
loop-x-preserved c =
    let n = c.args.core.now in
    let inputs = ap length (c.inputs-inputs.ensures ∙ ap (λ (m : Netlist). m.inputs) c.netlist-2.ensures) in
    let defined = ap length (c.definitions.ensures ∙ ap (λ (m : Netlist). m.definitions) c.netlist-3.ensures) in
    let all = signals_length n in
    let low : c.loop-x.x < length (signals n) = let a = c.loop-x-test.true in omega arith in
    idle_more n (subst IsSound c.netlist.ensures c.sound.ensures) (own c.args.holds.now) c.loop-x.x c.loop-x.told.items c.push.new.self.items c.meet-pairs.result low c.loop-x.invariant
    (c.meet-pairs.ensures ∙ (ap (λ (p : Pairs). meet p c.held.result) c.same.ensures ∙ ap (meet same) c.held.ensures)) c.in_ok-push.ensures.items
