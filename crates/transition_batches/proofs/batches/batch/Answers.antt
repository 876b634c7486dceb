use Rattle.std.proofs.Common.{sym, subst}
use Rattle.netlist.specs.Conditions.{IsSound, IsWellFormed, whole}
use Rattle.net_gen.proofs.SoundLemmas.{memory_alone}
use Rattle.transition_batches.proofs.Formed.{batch_formed}
use Rattle.transition_batches.proofs.batches.batch.Goals as goal

pub new-requires : goal.new-requires
new-requires c =
    subst IsWellFormed (sym c.in_ok-parts.ensures) (batch_formed c.args.netlist.now c.sound.ensures c.args.faults.now c.requires.lines c.requires.design.small c.requires.few)

-- A sound netlist is refused for want of memory alone.
pub returns-in_default : goal.returns-in_default
returns-in_default c sound =
    memory_alone (whole c.in_ok-parts.parts) (subst IsSound (sym c.in_ok-parts.ensures) sound) c.in-Err.refusal c.in-Err.ensures c.in_default.not-NoMemory
