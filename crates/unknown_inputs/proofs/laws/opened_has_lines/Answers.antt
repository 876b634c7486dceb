use Rattle.unknown_inputs.proofs.Soundness.{opened_has_lines}
use Rattle.unknown_inputs.proofs.laws.opened_has_lines.Goals as goal

pub returns : goal.returns
returns c n unknown line sound valid = opened_has_lines n unknown line sound valid
