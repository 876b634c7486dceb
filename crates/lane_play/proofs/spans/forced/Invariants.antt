use Rattle.std.proofs.Common.{◌≡◌, ◌≤◌, drop}
use Rattle.lane_play.specs.inner.Lanes.{forced_from}
use Rattle.lane_play.proofs.spans.forced.Given as goal

-- the machines so far have made it this
abbrev pub invariant-loop-k : goal.invariant-loop-k
invariant-loop-k l = (l.k ≤ l.fn.span.to) × (forced_from 0 l.faults l.line l.initial.made ≡ forced_from l.k (drop l.k l.faults) l.line l.made)
