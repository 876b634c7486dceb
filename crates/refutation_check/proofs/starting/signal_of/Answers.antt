use Rattle.refutation_check.proofs.StartLemmas.{out_within, pin_place}
use Rattle.refutation_check.proofs.starting.signal_of.Goals as goal

pub returns-in-Out-clause-within : goal.returns-in-Out-clause-within
returns-in-Out-clause-within c = out_within c.args.netlist.now c.requires.sound c.args.line.now c.in-Out.x c.in-Out.is c.requires.line

pub returns-in-Pin-clause-within : goal.returns-in-Pin-clause-within
returns-in-Pin-clause-within c = (pin_place c.args.netlist.now c.requires.sound c.args.line.now c.in-Pin.z c.in-Pin.field-1 c.in-Pin.is c.requires.line).1
