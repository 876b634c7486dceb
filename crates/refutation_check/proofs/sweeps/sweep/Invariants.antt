use Rattle.std.proofs.Common.{◌-◌}
use Rattle.refutation_check.specs.inner.Sweeps.{IsCalm, Narrows, room}
use Rattle.refutation_check.specs.inner.Trails.{Grows}
use Rattle.refutation_check.proofs.sweeps.sweep.Given as goal

abbrev pub invariant-loop-next : goal.invariant-loop-next
invariant-loop-next l = record {
  grows : Grows l.fn.sets l.sets;
  narrows : Narrows l.netlist l.fault l.fn.sets l.sets;
  calm : IsCalm l.netlist l.fault l.sets l.next;
}

abbrev pub decreases-loop-next : goal.decreases-loop-next
decreases-loop-next l = room l.sets - l.next
