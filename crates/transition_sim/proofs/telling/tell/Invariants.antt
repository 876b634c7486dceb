use Rattle.std.proofs.Common.{◌≤◌, length}
use Rattle.transition_sim.specs.inner.Launches.{AreFramesFrom}
use Rattle.transition_sim.specs.inner.Tasks.{IsFrame}
use Rattle.transition_sim.proofs.telling.tell.Given as goal

abbrev pub invariant-loop-end : goal.invariant-loop-end
invariant-loop-end l = record {
  within : l.end ≤ length l.task.patterns.now;
  first : IsFrame l.task.core.now l.first;
  second : IsFrame l.task.core.now l.second;
  told : AreFramesFrom l.task.core.now l.task.patterns.now l.end l.task.faults.now l.told.items;
}

abbrev pub decreases-loop-end : goal.decreases-loop-end
decreases-loop-end l = l.end
