use Rattle.std.proofs.Common.{◌≡◌, map, take}
use Rattle.podem.specs.Sources.{value_of}
use Rattle.podem.proofs.searching.source_values.Given as goal

abbrev pub invariant-loop-id : goal.invariant-loop-id
invariant-loop-id l = l.values.items ≡ map (value_of l.case.holds.now l.labels.path) (take l.id-index l.ids)
