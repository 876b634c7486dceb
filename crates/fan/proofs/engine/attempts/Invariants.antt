use Rattle.fan.specs.inner.Searching.{IsReady}
use Rattle.fan.proofs.engine.attempts.Given as goal

abbrev pub invariant-loop-number : goal.invariant-loop-number
invariant-loop-number l = IsReady l.roled.case l.labels l.wants
