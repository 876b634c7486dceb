use Rattle.std.proofs.lemmas.Result.{IfOk-weaker}
use Rattle.slow_check.specs.inner.Checking.{IsHeldAnswer, IsScanAnswer}
use Rattle.slow_check.proofs.CheckLemmas.{held_by, no_hold}
use Rattle.slow_check.proofs.checking.with_scan.Goals as goal

pub returns-in-Ok-Some : goal.returns-in-Ok-Some
returns-in-Ok-Some c =
    let s = c.args.said.now in
    let holds = c.in-Ok-Some.holds in
    IfOk-weaker c.with_holds-answer.result (IsHeldAnswer s holds) (IsScanAnswer s) (held_by s holds (rw c.in-Ok-Some.field-0-is at c.in-Ok-Some.ensures)) c.with_holds-answer.ensures

pub returns-in-Ok-None : goal.returns-in-Ok-None
returns-in-Ok-None c = no_hold c.args.said.now (rw c.in-Ok-None.field-0-is at c.in-Ok-None.ensures)
