use Rattle.std.proofs.Common.{◌≡◌, ◌++◌, ℕ, List, Option, length, drop}
use Rattle.std.specs.List.{AllZip}
use Rattle.statement.specs.declared.lines.Point.{Point}
use Rattle.word_sim.specs.Hits.{LastDetected}
use Rattle.worker.specs.inner.Telling.{AreLeft}
use Rattle.worker.proofs.telling.gathered.Given as goal

abbrev pub invariant-loop-fault : goal.invariant-loop-fault
invariant-loop-fault l = record {
  size : length l.nexts.items ≡ length l.parts;
  left : AreLeft l.core l.patterns l.deal.numbers.items (drop l.fault-index l.faults) l.parts l.nexts.items;
  goes : (ys : List (Option (ℕ × Point))) → AllZip (LastDetected l.core l.patterns) (drop l.fault-index l.faults) ys → AllZip (LastDetected l.core l.patterns) l.faults (l.told.items ++ ys);
}
