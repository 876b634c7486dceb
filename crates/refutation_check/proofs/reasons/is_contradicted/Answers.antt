use Rattle.std.proofs.Common.{◌≡◌, ◌↔◌, true, IfOk, sym, subst}
use Rattle.refutation.specs.declared.steps.Reason.{Reason}
use Rattle.refutation.specs.Refutations.{IsContradicted, clauses}
use Rattle.refutation_check.proofs.reasons.is_contradicted.Goals as goal

pub returns-in-Way-clause-so : goal.returns-in-Way-clause-so
returns-in-Way-clause-so c =
    subst (λ (r : Reason). IfOk c.is_no_way.result (λ b. (b ≡ true) ↔ IsContradicted c.args.basis.now.netlist.now c.args.basis.now.fault.now (clauses c.args.basis.now.lemmas.now) c.args.sets.now.told r)) (sym c.in-Way.is)
    c.is_no_way.ensures.so

pub returns-in-Gates-clause-so : goal.returns-in-Gates-clause-so
returns-in-Gates-clause-so c =
    subst (λ (r : Reason). IfOk c.leaves_nothing.result (λ b. (b ≡ true) ↔ IsContradicted c.args.basis.now.netlist.now c.args.basis.now.fault.now (clauses c.args.basis.now.lemmas.now) c.args.sets.now.told r)) (sym c.in-Gates.is)
    c.leaves_nothing.ensures.so
