use Rattle.std.proofs.Common.{subst, sym}
use Rattle.netlist.specs.Conditions.{IsSound}
use Rattle.unknown_inputs.proofs.Soundness.{opened_sound}
use Rattle.unknown_inputs.proofs.opening.open.Goals as goal

pub netlist_of-requires : goal.netlist_of-requires
netlist_of-requires c = subst IsSound (sym c.in_ok-parts.ensures.parts) (opened_sound c.args.netlist.now c.args.unknown.now c.sound.ensures c.requires)
