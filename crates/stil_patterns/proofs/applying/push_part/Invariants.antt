use Rattle.std.proofs.Common.{◌≤◌, take}
use Rattle.stil_patterns.specs.inner.Added.{AreBegun}
use Rattle.stil_patterns.proofs.applying.push_part.Given as goal

abbrev pub invariant-loop-k : goal.invariant-loop-k
invariant-loop-k l = record {
  from : l.start ≤ l.k;
  begun : AreBegun l.core l.chains (take l.k l.patterns) l.items l.held.items;
}
