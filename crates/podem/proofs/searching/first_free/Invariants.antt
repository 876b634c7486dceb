use Rattle.std.proofs.Common.{take}
use Rattle.std.specs.List.{All}
use Rattle.podem.specs.inner.Searching.{IsKnownAt}
use Rattle.podem.proofs.searching.first_free.Given as goal

abbrev pub invariant-loop-id : goal.invariant-loop-id
invariant-loop-id l = All (IsKnownAt l.labels) (take l.id-index l.ids)
