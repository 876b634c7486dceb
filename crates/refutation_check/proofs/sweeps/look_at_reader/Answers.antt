use Rattle.refutation_check.proofs.LookSteps.{no_reader, reader_if}
use Rattle.refutation_check.proofs.sweeps.look_at_reader.Goals as goal

pub returns-in_default-clause-so : goal.returns-in_default-clause-so
returns-in_default-clause-so c = no_reader c.args.netlist.now c.args.fault.now c.args.sets.now c.args.line.now c.in_default.ensures

pub returns-clause-so : goal.returns-clause-so
returns-clause-so c =
    reader_if c.args.netlist.now c.args.fault.now c.look.result c.args.sets.now c.look.new.sets c.args.line.now c.in-Some.gate c.in-Some.ensures.1.0 c.in-Some.ensures.1.1 c.look.ensures.so
