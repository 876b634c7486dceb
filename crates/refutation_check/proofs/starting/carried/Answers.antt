use Rattle.refutation_check.proofs.StartLemmas.{stem_within, out_within, pin_place, pin_bound, pin_carried, pin_within}
use Rattle.refutation_check.proofs.starting.carried.Goals as goal

pub definition-requires-clause-defined : goal.definition-requires-clause-defined
definition-requires-clause-defined c = (pin_place c.args.netlist.now c.requires.sound c.args.line.now c.in-Pin.z c.in-Pin.k c.in-Pin.is c.requires.line).0

pub definition-requires-clause-within : goal.definition-requires-clause-within
definition-requires-clause-within c = (pin_place c.args.netlist.now c.requires.sound c.args.line.now c.in-Pin.z c.in-Pin.k c.in-Pin.is c.requires.line).1

pub bounds-pins-k : goal.bounds-pins-k
bounds-pins-k c =
    pin_bound c.args.netlist.now c.requires.sound c.args.line.now c.in-Pin.z c.in-Pin.k c.in-Pin.is c.requires.line c.definition.result.now c.pins.result.now c.definition.ensures.member
    c.definition.ensures.same c.pins.ensures

pub returns-in-Stem-clause-within : goal.returns-in-Stem-clause-within
returns-in-Stem-clause-within c = stem_within c.args.netlist.now c.requires.sound c.args.line.now c.in-Stem.x c.in-Stem.is c.requires.line

pub returns-in-Out-clause-within : goal.returns-in-Out-clause-within
returns-in-Out-clause-within c = out_within c.args.netlist.now c.requires.sound c.args.line.now c.in-Out.x c.in-Out.is c.requires.line

pub returns-in-Pin-clause-is : goal.returns-in-Pin-clause-is
returns-in-Pin-clause-is c =
    pin_carried c.args.netlist.now c.requires.sound c.args.line.now c.in-Pin.z c.in-Pin.k c.in-Pin.is c.requires.line c.definition.result.now c.pins.result.now c.definition.ensures.member
    c.definition.ensures.same c.pins.ensures c.index-pins-k.result c.index-pins-k.is

pub returns-in-Pin-clause-within : goal.returns-in-Pin-clause-within
returns-in-Pin-clause-within c =
    pin_within c.args.netlist.now c.requires.sound c.args.line.now c.in-Pin.z c.in-Pin.k c.in-Pin.is c.requires.line c.definition.result.now c.pins.result.now c.definition.ensures.member
    c.definition.ensures.same c.pins.ensures c.index-pins-k.result c.index-pins-k.is
