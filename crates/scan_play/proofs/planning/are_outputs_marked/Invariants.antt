use Rattle.std.proofs.Common.{◌≡◌, ◌≢◌, ◌<◌, ℕ, true, Some, slice_get, get_or}
use Rattle.statement.specs.declared.kinds.Tri.TheVariants.{X}
use Rattle.scan_play.proofs.planning.are_outputs_marked.Given as goal

abbrev pub invariant-loop-k : goal.invariant-loop-k
invariant-loop-k l = (k : ℕ) → k < l.k → slice_get l.strobe k ≢ Some X → slice_get l.marks (get_or l.netlist.outputs k 0) ≡ Some true
