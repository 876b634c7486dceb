use Rattle.std.proofs.Common.{◌≡◌, ◌<◌, ℕ, Bool, Some, slice_get}
use Rattle.stil_patterns.proofs.obeying.are_met.Given as goal

abbrev pub invariant-loop-k : goal.invariant-loop-k
invariant-loop-k l = (j : ℕ) (b : Bool) → j < l.k → slice_get l.holds j ≡ Some (Some b) → slice_get l.inputs j ≡ Some b
