use Rattle.std.proofs.Common.{◌≡◌, vec_len}
use Rattle.scan_insert.specs.inner.Places.{HasPlaces}
use Rattle.scan_insert.proofs.place_table.place_table.Given as goal

abbrev pub invariant-loop-k : goal.invariant-loop-k
invariant-loop-k l = record { size : vec_len l.places ≡ l.span; told : HasPlaces l.least l.places.items l.cells l.k }
