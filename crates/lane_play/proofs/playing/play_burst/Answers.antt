use Rattle.std.proofs.Common.{List, ℕ, IfOk, inl, inr, sym, subst}
use Rattle.scan_play.specs.Bursts.{cycles_of}
use Rattle.lane_play.specs.declared.packed.Lanes.{Lanes}
use Rattle.lane_play.specs.inner.Shifts.{ArePlanned}
use Rattle.lane_play.specs.inner.Steps.{KeepsBehind}
use Rattle.lane_play.proofs.playing.play_burst.Goals as goal

pub play_cycles-requires-clause-enough : goal.play_cycles-requires-clause-enough
play_cycles-requires-clause-enough g c =
    let b = c.args.burst.now in
    inr (subst (λ (ss : List ℕ). ArePlanned c.args.play.now.rule.faults.now c.args.play.now.core.now b.drive.items b.strobe.items ss c.is_planned.new.bench.values.items) (sym c.as_slice-steps.ensures.value)
    (c.in_ok-planned.ensures.planned c.if-planned.true))

pub returns-then-planned-clause-played : goal.returns-then-planned-clause-played
returns-then-planned-clause-played g c =
    let kept = g.W.Watch.kept c.args.play.now.judge.now in
    subst (λ (s : List Lanes). IfOk c.play_cycles.result (λ w. KeepsBehind (kept c.args.watch) (kept w) c.args.play.now.rule.faults.now c.args.play.now.core.now c.args.first (cycles_of c.args.burst.now) s
    c.play_cycles.new.bench.state.items)) c.in_ok-planned.ensures.state c.play_cycles.ensures.played

pub play_cycles-requires-else-planned-clause-enough : goal.play_cycles-requires-else-planned-clause-enough
play_cycles-requires-else-planned-clause-enough g c = inl (c.order-steps.ensures, c.in_ok-planned.ensures.size)

pub returns-else-planned-clause-played : goal.returns-else-planned-clause-played
returns-else-planned-clause-played g c =
    let kept = g.W.Watch.kept c.args.play.now.judge.now in
    subst (λ (s : List Lanes). IfOk c.play_cycles-else-planned.result (λ w. KeepsBehind (kept c.args.watch) (kept w) c.args.play.now.rule.faults.now c.args.play.now.core.now c.args.first (cycles_of c.args.burst.now) s
    c.play_cycles-else-planned.new.bench.state.items)) c.in_ok-planned.ensures.state c.play_cycles-else-planned.ensures.played
