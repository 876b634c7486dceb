use Rattle.std.proofs.Common.{subst}
use Rattle.netlist.specs.Conditions.{IsSound}
use Rattle.stil_write.specs.Parts.{file_of}
use Rattle.transition_files.proofs.FileLemmas.{launch_is_file}
use Rattle.transition_files.proofs.launch_files.stil2_of.Goals as goal

pub new-requires : goal.new-requires
new-requires c =
    launch_is_file c.args.core.now c.args.holds.now c.args.chains.now c.args.patterns.now (file_of c.in_ok-parts.parts) (subst IsSound c.netlist.ensures c.sound.ensures)
    c.requires.design c.requires.chains c.requires.patterns c.in_ok-parts.ensures
