use Rattle.std.proofs.Common.{sym, subst}
use Rattle.refutation.specs.declared.steps.Move.{Move}
use Rattle.refutation.specs.Refutations.{IsSwept, LeavesNothing, clauses}
use Rattle.refutation_check.specs.declared.checks.Played.TheVariants.{On}
use Rattle.refutation_check.specs.inner.Checks.{IsPlayed}
use Rattle.refutation_check.proofs.CheckLemmas.{at_true, played_sweep}
use Rattle.refutation_check.proofs.checks.play.Goals as goal

pub returns-then-some-clause-so : goal.returns-then-some-clause-so
returns-then-some-clause-so c =
    let n = c.args.basis.now.netlist.now in
    let f = c.args.basis.now.fault.now in
    let lemmas = clauses c.args.basis.now.lemmas.now in
    let told = c.args.sets.now.told in
    let new = c.sweep.new.sets.told in
    subst (λ (m : Move). IsPlayed n f lemmas told m new On) (sym c.in-Sweep.is)
    (played_sweep n f lemmas told new (at_true c.in_ok-some-in-Sweep.some (IsSwept n f told new) (LeavesNothing n f told) c.in_ok-some-in-Sweep.ensures.so c.if-some.true))
