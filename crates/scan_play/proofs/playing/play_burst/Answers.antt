use Rattle.std.proofs.Common.{List, IfOk, subst, arith}
use Rattle.statement.specs.declared.kinds.Tri.{Tri}
use Rattle.scan_play.specs.Bursts.{cycles_of}
use Rattle.scan_play.specs.inner.Steps.{PlaysOn}
use Rattle.scan_play.proofs.PlanLemmas.{narrow}
use Rattle.scan_play.proofs.playing.play_burst.Goals as goal

pub plan_burst-requires-clause-narrow : goal.plan_burst-requires-clause-narrow
plan_burst-requires-clause-narrow g c = narrow c.args.core.now c.args.burst.now c.requires.fits (let f = c.if-burst-lt-LONG.false in omega arith)

pub returns-then-planned-clause-played : goal.returns-then-planned-clause-played
returns-then-planned-clause-played g c =
    subst (λ (s : List Tri). IfOk c.play_shifts.result (λ found. PlaysOn (g.J.Judge.says c.args.judge.now) c.args.rule.now.fault c.args.core.now (cycles_of c.args.burst.now) c.args.first s c.play_shifts.new.bench.state.items found))
    c.in_ok-planned.ensures.state c.play_shifts.ensures.played

pub returns-clause-played : goal.returns-clause-played
returns-clause-played g c =
    subst (λ (s : List Tri). IfOk c.play_cycles-2.result (λ found. PlaysOn (g.J.Judge.says c.args.judge.now) c.args.rule.now.fault c.args.core.now (cycles_of c.args.burst.now) c.args.first s c.play_cycles-2.new.bench.state.items found))
    c.in_ok-planned.ensures.state c.play_cycles-2.ensures.played
