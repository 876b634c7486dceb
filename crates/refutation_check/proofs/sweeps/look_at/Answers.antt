use Rattle.refutation_check.proofs.LookSteps.{looked_at_if}
use Rattle.refutation_check.proofs.TrailLemmas.{grows_then}
use Rattle.refutation_check.proofs.sweeps.look_at.Goals as goal

pub returns-clause-grows : goal.returns-clause-grows
returns-clause-grows c = grows_then c.args.sets.now c.kept_pairs.new.sets c.restrict.new.self c.in_ok-kept.ensures.grows c.restrict.ensures.grows

pub returns-clause-so : goal.returns-clause-so
returns-clause-so c =
    looked_at_if c.args.netlist.now c.args.fault.now c.restrict.result c.args.sets.now c.kept_pairs.new.sets c.restrict.new.self c.args.gate c.args.id c.in_ok-kept.kept c.requires.gate
    c.requires.beside c.in_ok-kept.ensures.back c.in_ok-kept.ensures.so c.restrict.ensures.so
