use Rattle.std.proofs.Common.{◌≡◌, length, take}
use Rattle.std.specs.List.{All}
use Rattle.refutation.specs.Refutations.{IsKept}
use Rattle.refutation_check.specs.inner.Sweeps.{IsGateTouched, Narrows}
use Rattle.refutation_check.specs.inner.Trails.{Grows}
use Rattle.refutation_check.proofs.sweeps.look_at_pins.Given as goal

abbrev pub invariant-loop-k : goal.invariant-loop-k
invariant-loop-k l = record {
  grows : Grows l.fn.sets l.sets;
  narrows : Narrows l.netlist l.fault l.fn.sets l.sets;
  quiet : (IsGateTouched l.netlist l.sets (length l.fn.sets.trail) l.gate → ⊥) → (l.sets ≡ l.fn.sets) × All (IsKept l.netlist l.fault l.fn.sets.told l.gate) (take l.k l.pins);
}
