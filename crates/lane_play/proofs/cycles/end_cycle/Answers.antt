use Rattle.std.proofs.Common.{◌≡◌, length, cond, List, sym, ◌∙◌, ap, subst, arith}
use Rattle.std.proofs.lemmas.List.{length-map}
use Rattle.statement.specs.declared.kinds.Tri.{Tri}
use Rattle.statement.specs.Netlists.{Netlist}
use Rattle.netlist.specs.Conditions.{IsSound}
use Rattle.netlist.specs.Settled.{at}
use Rattle.statement.specs.Values.{outs, next}
use Rattle.scan_play.proofs.PlaySteps.{few_outputs}
use Rattle.lane_play.specs.declared.packed.Lanes.{Lanes}
use Rattle.lane_play.specs.inner.Lanes.{lanes_rule, unknown}
use Rattle.lane_play.specs.inner.Steps.{KeepsOn}
use Rattle.lane_play.proofs.PlayedLemmas.{size_kept}
use Rattle.lane_play.proofs.cycles.end_cycle.Goals as goal

pub hear-requires-clause-same : goal.hear-requires-clause-same
hear-requires-clause-same g c =
    ap length c.deref-2.ensures.value
    ∙ (c.requires.strobes ∙ sym (ap length (c.deref-3.ensures.value ∙ c.in_ok-outs_into.ensures unknown) ∙ length-map c.args.play.now.core.now.outputs _))

pub hear-requires-clause-few : goal.hear-requires-clause-few
hear-requires-clause-few g c =
    let size : length c.deref-2.result.now ≡ length c.args.play.now.core.now.outputs = ap length c.deref-2.ensures.value ∙ c.requires.strobes in
    let few = few_outputs c.args.play.now.core.now (subst IsSound c.netlist.ensures c.sound.ensures) in
    omega arith

pub returns-clause-size : goal.returns-clause-size
returns-clause-size g c =
    size_kept c.args.play.now.rule.faults.now c.args.play.now.core.now c.args.pulse c.args.bench.now.state.items c.tick.new.state.items (at c.deref-4.result.now unknown)
    (subst IsSound c.netlist.ensures c.sound.ensures) c.requires.bench.0 (c.in_ok-tick.ensures unknown)

pub returns-clause-ended : goal.returns-clause-ended
returns-clause-ended g c =
    let rule = lanes_rule c.args.play.now.rule.faults.now in
    let n : Netlist = c.args.play.now.core.now in
    let state : List Lanes = c.args.bench.now.state.items in
    let kept = g.W.Watch.kept c.args.play.now.judge.now in (
      c.deref-3.result.now,
      subst (λ (ss : List Tri). KeepsOn (kept c.args.watch) (kept c.in_ok-heard.heard) c.args.number ss c.deref-3.result.now) c.deref-2.ensures.value c.in_ok-heard.ensures,
      record {
        shows = c.deref-3.ensures.value ∙ (c.in_ok-outs_into.ensures unknown ∙ ap (λ (vs : List Lanes). outs rule n (at vs unknown)) c.deref.ensures.value);
        ticked = c.in_ok-tick.ensures unknown ∙ ap (λ (vs : List Lanes). cond c.args.pulse (next rule n (at vs unknown)) state) c.deref-4.ensures.value;
      },
    )
