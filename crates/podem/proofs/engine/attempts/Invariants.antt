use Rattle.podem.specs.inner.Searching.{IsReady}
use Rattle.podem.proofs.engine.attempts.Given as goal

abbrev pub invariant-loop-round : goal.invariant-loop-round
invariant-loop-round l = IsReady l.case l.labels
