use Rattle.std.proofs.Common.{sym, subst}
use Rattle.netlist.specs.Conditions.{IsSound}
use Rattle.transition_frames.proofs.Soundness.{frames_sound}
use Rattle.transition_frames.proofs.unrolling.framed.Goals as goal

pub netlist_of-requires : goal.netlist_of-requires
netlist_of-requires c =
    subst IsSound (sym c.in-Ok.ensures) (frames_sound c.args.netlist.now c.sound.ensures c.requires.design c.args.fault.now c.requires.line)
