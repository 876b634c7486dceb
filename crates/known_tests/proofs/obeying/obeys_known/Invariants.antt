use Rattle.std.proofs.Common.{take}
use Rattle.std.specs.List.{All}
use Rattle.statement.specs.Patterns.{Obeys}
use Rattle.statement.specs.Runs.{Cycle}
use Rattle.scan_play.specs.Bursts.{all_cycles}
use Rattle.known_tests.proofs.obeying.obeys_known.Given as goal

abbrev pub invariant-loop-burst : goal.invariant-loop-burst
invariant-loop-burst l = All (λ (cycle : Cycle). Obeys l.held cycle.drive) (all_cycles (take l.burst-index l.burst-items))
