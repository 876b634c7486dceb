use Rattle.netlist.specs.Conditions.{whole}
use Rattle.net_gen.proofs.SoundLemmas.{sound_along, memory_alone}
use Rattle.net_gen.proofs.samples.generate.Goals as goal

pub new-requires-2 : goal.new-requires-2
new-requires-2 c = (sound_along c.args.gates _ (whole c.in_ok-parts.parts) c.requires.least c.requires.most c.in_ok-parts.ensures).formed

pub unreachable-requires : goal.unreachable-requires
unreachable-requires c =
    memory_alone (whole c.in_ok-parts.parts) (sound_along c.args.gates _ (whole c.in_ok-parts.parts) c.requires.least c.requires.most c.in_ok-parts.ensures)
    c.in-Err.refusal c.in-Err.ensures c.in_default.not-NoMemory
