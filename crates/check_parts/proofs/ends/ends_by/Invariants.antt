use Rattle.std.proofs.Common.{take}
use Rattle.std.specs.List.{AllZip}
use Rattle.check_parts.specs.Ends.{IsEnds}
use Rattle.check_parts.specs.inner.Lookups.{AreCheckersOf}
use Rattle.check_parts.proofs.ends.ends_by.Given as goal

abbrev pub invariant-loop-k : goal.invariant-loop-k
invariant-loop-k l =
    AllZip (IsEnds l.lookup.core.now l.lookup.holds.now l.lookup.evidence.now) (take l.k l.faults) l.all.items × AreCheckersOf l.lookup l.checkers
