use Rattle.std.proofs.Common.{vec_len}
use Rattle.decisions.specs.Climbing.{IsAtEnd}
use Rattle.decisions.proofs.Climbs.{HaveEnded}
use Rattle.decisions.proofs.climbing.climb.Given as goal

abbrev pub invariant-loop-labels : goal.invariant-loop-labels
invariant-loop-labels l = record {
  end : IsAtEnd l.initial.labels.fault l.initial.labels.netlist l.initial.labels.holds l.labels l.stack.items;
  ended : HaveEnded l.initial.stack.items l.initial.done.items l.stack.items l.done.items;
}

abbrev pub decreases-loop-labels : goal.decreases-loop-labels
decreases-loop-labels l = vec_len l.stack
