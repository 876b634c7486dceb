use Rattle.refutation_check.proofs.MarkLemmas.{entry_pin}
use Rattle.refutation_check.proofs.cones.entry.Goals as goal

pub returns-in-Pin : goal.returns-in-Pin
returns-in-Pin c = entry_pin c.args.netlist.now c.requires.sound c.args.line.now c.in-Pin.field-0 c.in-Pin.field-1 c.in-Pin.is c.gate_of.result c.gate_of.ensures
