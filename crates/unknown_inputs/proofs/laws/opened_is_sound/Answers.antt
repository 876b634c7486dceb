use Rattle.unknown_inputs.proofs.Soundness.{opened_is_sound}
use Rattle.unknown_inputs.proofs.laws.opened_is_sound.Goals as goal

pub returns : goal.returns
returns c n unknown sound some = opened_is_sound n unknown sound some
