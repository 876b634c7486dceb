use Rattle.std.proofs.Common.{◌≡◌, ◌<◌, ℕ, vec_len}
use Rattle.std.specs.List.{slice_index}
use Rattle.fault_collapse.proofs.joining.alone.Given as goal

abbrev pub invariant-loop-i : goal.invariant-loop-i
invariant-loop-i l = record {
  size : vec_len l.parents ≡ l.i;
  each : (k : ℕ) → k < l.i → slice_index l.parents.items k ≡ k;
}
