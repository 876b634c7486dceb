use Rattle.stil_write.specs.Parts.{file_of}
use Rattle.transition_files.proofs.AddLemmas.{filed}
use Rattle.transition_files.proofs.launch_files.parts2_of.Goals as goal

pub returns : goal.returns
returns c =
    filed c.args.core.now c.args.holds.now c.args.chains.now c.args.patterns.now c.in-Ok.items (file_of c.in_ok-parts.parts)
    c.requires.holds c.in-Ok.ensures c.in_ok-parts.ensures
