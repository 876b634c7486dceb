use Rattle.std.proofs.Common.{arith}
use Rattle.scan_play.proofs.PlanLemmas.{narrow}
use Rattle.lane_play.proofs.planning.is_planned.Goals as goal

pub plan_burst-requires-clause-narrow : goal.plan_burst-requires-clause-narrow
plan_burst-requires-clause-narrow c = narrow c.args.core.now c.args.burst.now c.requires.fits (let f = c.if-burst-lt-LONG.false in omega arith)
