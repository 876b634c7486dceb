use Rattle.unknown_inputs.proofs.Making.{known_below, unknown_below}
use Rattle.unknown_inputs.proofs.parts.opened_parts.Goals as goal

pub opened_names-requires-clause-known : goal.opened_names-requires-clause-known
opened_names-requires-clause-known c = known_below c.args.netlist.now c.requires.sound c.args.unknown.now c.args.known.now c.requires.known

pub opened_names-requires-clause-others : goal.opened_names-requires-clause-others
opened_names-requires-clause-others c = unknown_below c.args.netlist.now c.requires.sound c.args.unknown.now c.args.others.now c.requires.others
