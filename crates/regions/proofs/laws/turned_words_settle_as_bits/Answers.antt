use Rattle.regions.proofs.TurnedBits.{turned_as_bits}
use Rattle.regions.proofs.laws.turned_words_settle_as_bits.Goals as goal

pub returns : goal.returns
returns c h mask n inputs state a j low s = turned_as_bits j h mask low n inputs state a s
