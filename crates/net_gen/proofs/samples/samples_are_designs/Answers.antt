use Rattle.net_gen.proofs.SoundLemmas.{sample_design}
use Rattle.net_gen.proofs.samples.samples_are_designs.Goals as goal

pub returns : goal.returns
returns c = sample_design
