use Rattle.std.proofs.Common.{◌≡◌, ◌≤◌, ◌++◌, drop, length}
use Rattle.fewer_patterns.specs.inner.Joined.{joined}
use Rattle.fewer_patterns.proofs.fronts.joined.Given as goal

abbrev pub invariant-loop-k : goal.invariant-loop-k
invariant-loop-k l =
    (l.next.front ≤ length l.front)
    × (l.next.never ≤ length l.never)
    × (l.told.items ++ joined l.fn.start l.fn.less (drop l.k l.last) (drop l.next.front l.front) (drop l.next.never l.never) ≡ joined l.fn.start l.fn.less l.last l.front l.never)
