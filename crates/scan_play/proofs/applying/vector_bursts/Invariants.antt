use Rattle.std.proofs.Common.{take}
use Rattle.scan_play.specs.Bursts.{all_cycles}
use Rattle.scan_play.specs.inner.Applied.{IsBegun}
use Rattle.scan_play.proofs.applying.vector_bursts.Given as goal

abbrev pub invariant-loop-pattern : goal.invariant-loop-pattern
invariant-loop-pattern l = IsBegun l.core l.holds l.chains (take l.pattern-index l.patterns) (all_cycles l.bursts.items) l.held.items
