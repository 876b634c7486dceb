use Rattle.unknown_inputs.proofs.Tells.{opened_tells_the_truth}
use Rattle.unknown_inputs.proofs.laws.opened_tells_the_truth.Goals as goal

pub returns : goal.returns
returns c n unknown f cycles sound valid fit = opened_tells_the_truth n unknown f cycles sound valid fit
