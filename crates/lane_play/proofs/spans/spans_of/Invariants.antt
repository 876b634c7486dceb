use Rattle.std.proofs.Common.{◌≡◌, length}
use Rattle.lane_play.specs.inner.Spans.{AreSpans}
use Rattle.lane_play.proofs.spans.spans_of.Given as goal

abbrev pub invariant-loop-k : goal.invariant-loop-k
invariant-loop-k l = (length l.spans.items ≡ l.count) × AreSpans l.faults l.k l.spans.items
