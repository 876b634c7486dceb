use Rattle.std.proofs.Common.{◌≡◌, map, take}
use Rattle.fewer_patterns.specs.inner.Enough.{is_told}
use Rattle.fewer_patterns.proofs.fronts.told_marks.Given as goal

abbrev pub invariant-loop-one : goal.invariant-loop-one
invariant-loop-one l = l.marks.items ≡ map is_told (take l.one-index l.last)
