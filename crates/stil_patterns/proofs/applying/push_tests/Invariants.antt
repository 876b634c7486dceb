use Rattle.std.proofs.Common.{◌≤◌, ◌-◌, take, length}
use Rattle.stil_patterns.specs.inner.Added.{AreBegun}
use Rattle.stil_patterns.proofs.applying.push_tests.Given as goal

abbrev pub invariant-loop-start : goal.invariant-loop-start
invariant-loop-start l = record {
  within : l.start ≤ length l.patterns;
  begun : AreBegun l.core l.chains (take l.start l.patterns) l.items l.held.items;
}

abbrev pub decreases-loop-start : goal.decreases-loop-start
decreases-loop-start l = length l.patterns - l.start
