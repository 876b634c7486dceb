use Rattle.std.proofs.Common.{refl, sym}
use Rattle.refutation_check.proofs.CheckLemmas.{grows_to, nothing_left}
use Rattle.refutation_check.proofs.sweeps.leaves_nothing.Goals as goal

pub returns-clause-grows : goal.returns-clause-grows
returns-clause-grows c = grows_to c.args.sets.now c.args.sets.now c.undo.new.self refl (c.undo.ensures c.args.sets.now (sym c.depth-depth.ensures) c.in_ok-some.ensures.grows)

pub returns-clause-so : goal.returns-clause-so
returns-clause-so c =
    nothing_left c.args.netlist.now c.args.fault.now c.args.sets.now.told c.sweep.new.sets.told c.in_ok-some.some c.in_ok-some.ensures.so
