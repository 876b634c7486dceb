use Rattle.std.proofs.Common.{refl, sym}
use Rattle.refutation_check.proofs.BaseLemmas.{basis_stays}
use Rattle.refutation_check.proofs.CheckLemmas.{grows_to}
use Rattle.refutation_check.proofs.TrailLemmas.{grows_then}
use Rattle.refutation_check.proofs.checks.is_opposite_never.Goals as goal

pub is_contradicted-requires : goal.is_contradicted-requires
is_contradicted-requires c = basis_stays c.args.basis.now c.args.sets.now c.narrow.new.self c.in_ok-narrow.ensures.grows c.requires.basis

pub returns-in_err-never-clause-grows : goal.returns-in_err-never-clause-grows
returns-in_err-never-clause-grows c = grows_then c.args.sets.now c.narrow.new.self c.is_contradicted.new.sets c.in_ok-narrow.ensures.grows c.in_err-never.ensures.grows

pub returns-clause-grows : goal.returns-clause-grows
returns-clause-grows c =
    grows_to c.args.sets.now c.args.sets.now c.undo.new.self refl
    (c.undo.ensures c.args.sets.now (sym c.depth-depth.ensures)
    (grows_then c.args.sets.now c.narrow.new.self c.is_contradicted.new.sets c.in_ok-narrow.ensures.grows c.in_ok-never.ensures.grows))
