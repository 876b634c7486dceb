use Rattle.unknown_inputs.proofs.Soundness.{keeps_names}
use Rattle.unknown_inputs.proofs.laws.opened_keeps_names.Goals as goal

pub returns : goal.returns
returns c n unknown sound = keeps_names n unknown sound
