use Rattle.std.proofs.Common.{◌↔◌, drop}
use Rattle.refutation.specs.Refutations.{Leads, clauses}
use Rattle.refutation_check.specs.inner.Bases.{IsBasisOf}
use Rattle.refutation_check.specs.inner.Trails.{Grows}
use Rattle.refutation_check.proofs.checks.leads.Given as goal

abbrev pub invariant-loop-k : goal.invariant-loop-k
invariant-loop-k l = record {
  grows : Grows l.fn.sets l.sets;
  basis : IsBasisOf l.sets l.basis;
  rest : Leads l.basis.netlist.now l.basis.fault.now (clauses l.basis.lemmas.now) l.sets.told (drop l.k l.moves) l.step.last
      ↔ Leads l.basis.netlist.now l.basis.fault.now (clauses l.basis.lemmas.now) l.fn.sets.told l.moves l.step.last;
}
