use Rattle.std.proofs.Common.{◌≡◌, length, cond, List, sym, ◌∙◌, ap, subst, arith}
use Rattle.std.proofs.lemmas.List.{length-map}
use Rattle.statement.specs.declared.kinds.Tri.{Tri}
use Rattle.statement.specs.declared.kinds.Tri.TheVariants.{X}
use Rattle.statement.specs.Netlists.{Netlist}
use Rattle.netlist.specs.Conditions.{IsSound}
use Rattle.netlist.specs.Settled.{at}
use Rattle.statement.specs.Values.{outs, next}
use Rattle.tri.specs.Settled.{tris}
use Rattle.scan_play.specs.Judging.{judged_in}
use Rattle.scan_play.proofs.PlaySteps.{few_outputs}
use Rattle.scan_play.proofs.playing.end_cycle.Goals as goal

pub judged_in-found-requires-clause-same : goal.judged_in-found-requires-clause-same
judged_in-found-requires-clause-same g c =
    ap length c.deref-2.ensures.value
    ∙ (c.requires.strobes ∙ sym (ap length (c.deref-3.ensures.value ∙ c.in_ok-outs_into.ensures X) ∙ length-map c.args.core.now.outputs _))

pub judged_in-found-requires-clause-few : goal.judged_in-found-requires-clause-few
judged_in-found-requires-clause-few g c =
    let size : length c.deref-2.result.now ≡ length c.args.core.now.outputs = ap length c.deref-2.ensures.value ∙ c.requires.strobes in
    let few = few_outputs c.args.core.now (subst IsSound c.netlist.ensures c.sound.ensures) in
    omega arith

pub returns-clause-ended : goal.returns-clause-ended
returns-clause-ended g c =
    let rule = tris c.args.rule.now.fault in
    let n : Netlist = c.args.core.now in
    let strobe : List Tri = c.args.bench.now.strobe.items in
    let state : List Tri = c.args.bench.now.state.items in
    let said = judged_in (g.J.Judge.says c.args.judge.now) c.args.number 0 in
    record {
      said = c.judged_in-found.ensures ∙ (ap (λ (s : List Tri). said s c.deref-3.result.now) c.deref-2.ensures.value
          ∙ ap (said strobe) (c.deref-3.ensures.value ∙ (c.in_ok-outs_into.ensures X ∙ ap (λ (vs : List Tri). outs rule n (at vs X)) c.deref.ensures.value)));
      ticked = c.in_ok-tick.ensures X ∙ ap (λ (vs : List Tri). cond c.args.pulse (next rule n (at vs X)) state) c.deref-4.ensures.value;
    }
