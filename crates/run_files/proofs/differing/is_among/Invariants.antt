use Rattle.std.proofs.Common.{◌≢◌, ℕ, ◌<◌, get_or}
use Rattle.statement.specs.Patterns.{Pattern}
use Rattle.run_files.proofs.differing.is_among.Given as goal

abbrev pub invariant-loop-other : goal.invariant-loop-other
invariant-loop-other l = (k : ℕ) (d : Pattern) → k < l.other-index → get_or l.patterns k d ≢ l.pattern
