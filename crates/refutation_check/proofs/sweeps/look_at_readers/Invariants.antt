use Rattle.refutation_check.specs.inner.Sweeps.{AreLooked}
use Rattle.refutation_check.specs.inner.Trails.{Grows}
use Rattle.refutation_check.proofs.Looks.{Firsts}
use Rattle.refutation_check.proofs.sweeps.look_at_readers.Given as goal

abbrev pub invariant-loop-k : goal.invariant-loop-k
invariant-loop-k l = record {
  grows : Grows l.fn.sets l.sets;
  looked : AreLooked l.netlist l.fault l.fn.sets (Firsts l.netlist l.fault l.lines l.k) l.sets;
}
