use Rattle.std.proofs.Common.{◌≡◌, take, map, Bor, List, ℕ}
use Rattle.std.specs.Prelude.{◌≢◌}
use Rattle.std.specs.List.{AllPairs}
use Rattle.stil_write.proofs.checking.are_distinct.Given as goal

abbrev pub invariant-loop-place : goal.invariant-loop-place
invariant-loop-place l = (map (λ (x : Bor (List ℕ)). x.now) l.seen.keys ≡ take l.place l.texts) × AllPairs (λ x y. x ≢ y) (take l.place l.texts)
