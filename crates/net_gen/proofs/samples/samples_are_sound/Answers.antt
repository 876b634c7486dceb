use Rattle.net_gen.proofs.SoundLemmas.{sample_sound}
use Rattle.net_gen.proofs.samples.samples_are_sound.Goals as goal

pub returns : goal.returns
returns c g words least most = sample_sound g words least most
