use Rattle.std.proofs.Common.{ℕ, ◌<◌}
use Rattle.statement.specs.Patterns.{Obeys}
use Rattle.scan_play.specs.Bursts.{cycle_of}
use Rattle.known_tests.proofs.obeying.cycles_obey.Given as goal

abbrev pub invariant-loop-t : goal.invariant-loop-t
invariant-loop-t l = (k : ℕ) → k < l.t → Obeys l.held (cycle_of l.burst k).drive
