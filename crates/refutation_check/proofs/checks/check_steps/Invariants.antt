use Rattle.std.proofs.Common.{◌≡◌, ◌<◌, ℕ, take, length}
use Rattle.std.specs.List.{All}
use Rattle.statement.specs.Netlists.{signals}
use Rattle.refutation.specs.Refutations.{HoldsAt, clauses, knowing}
use Rattle.refutation_check.specs.inner.Bases.{AreSetsFor}
use Rattle.refutation_check.specs.inner.Reasons.{AreWithin}
use Rattle.refutation_check.specs.inner.Trails.{Grows}
use Rattle.refutation_check.proofs.checks.check_steps.Given as goal

abbrev pub invariant-loop-k : goal.invariant-loop-k
invariant-loop-k l = record {
  grows : Grows l.fn.sets l.sets;
  sets : AreSetsFor l.netlist l.fault l.from l.sets;
  known : l.sets.told ≡ knowing l.fn.sets.told (clauses (take l.k l.steps));
  each : (j : ℕ) → j < l.k → HoldsAt l.netlist l.fault l.fn.sets.told l.steps j;
  within : All (AreWithin (length (signals l.netlist))) (clauses (take l.k l.steps));
}
