use Rattle.std.proofs.Common.{◌≡◌, length}
use Rattle.refutation.specs.Refutations.{clauses, denying}
use Rattle.refutation_check.specs.inner.Reasons.{AreWithin}
use Rattle.refutation_check.proofs.BaseLemmas.{basis_stays}
use Rattle.refutation_check.proofs.TrailLemmas.{grows_then}
use Rattle.refutation_check.proofs.CheckLemmas.{at_true, at_false, not_within, step_follows}
use Rattle.refutation_check.proofs.checks.follows.Goals as goal

pub leads-requires : goal.leads-requires
leads-requires c = basis_stays c.args.basis.now c.args.sets.now c.deny.new.sets c.in_ok-within.ensures.grows c.requires

pub returns-then-not-within-clause-so : goal.returns-then-not-within-clause-so
returns-then-not-within-clause-so c =
    let b = c.args.basis.now in
    let s = c.requires.sets in
    let told = c.args.sets.now.told in
    let clause = c.clause.result.now in
    not_within b.netlist.now s.sound b.fault.now (clauses b.lemmas.now) told c.args.step.now clause s.size c.clause.ensures
    (at_false c.in_ok-within.within (AreWithin (length told) clause × (c.deny.new.sets.told ≡ denying told clause)) (¬ AreWithin (length told) clause) c.in_ok-within.ensures.so c.if-not-within.true)

pub returns-clause-grows : goal.returns-clause-grows
returns-clause-grows c = grows_then c.args.sets.now c.deny.new.sets c.leads.new.sets c.in_ok-within.ensures.grows c.leads.ensures.grows

pub returns-clause-so : goal.returns-clause-so
returns-clause-so c =
    let b = c.args.basis.now in
    let s = c.requires.sets in
    let told = c.args.sets.now.told in
    let clause = c.clause.result.now in
    step_follows b.netlist.now s.sound b.fault.now (clauses b.lemmas.now) told c.deny.new.sets.told c.args.step.now clause c.leads.result s.size c.clause.ensures
    (at_true c.in_ok-within.within (AreWithin (length told) clause × (c.deny.new.sets.told ≡ denying told clause)) (¬ AreWithin (length told) clause) c.in_ok-within.ensures.so c.if-not-within.false)
    c.leads.ensures.so
