use Rattle.std.proofs.Common.{◌≡◌, ◌++◌, map, take}
use Rattle.chain_test.specs.inner.Places.{place_of}
use Rattle.chain_test.proofs.wrong.push_places.Given as goal

abbrev pub invariant-loop-one : goal.invariant-loop-one
invariant-loop-one l = l.all.items ≡ l.initial.all.items ++ map place_of (take l.one-index l.said)
