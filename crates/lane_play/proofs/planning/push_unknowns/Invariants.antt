use Rattle.std.proofs.Common.{◌≡◌, ◌++◌, replicate}
use Rattle.lane_play.specs.inner.Lanes.{unknown}
use Rattle.lane_play.proofs.planning.push_unknowns.Given as goal

abbrev pub invariant-loop-done : goal.invariant-loop-done
invariant-loop-done l = l.values.items ≡ l.initial.values.items ++ replicate l._done unknown
