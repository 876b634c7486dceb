use Rattle.unknown_inputs.proofs.Above.{opened_allows}
use Rattle.unknown_inputs.proofs.laws.opened_allows.Goals as goal

pub returns : goal.returns
returns c n unknown f cycles wholes shown state bits sound valid filled p q = opened_allows n unknown f cycles wholes shown state bits sound valid filled p q
