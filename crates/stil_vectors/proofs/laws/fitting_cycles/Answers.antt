use Rattle.stil_vectors.proofs.WidthLemmas.{fitting_cycles}
use Rattle.stil_vectors.proofs.laws.fitting_cycles.Goals as goal

pub returns : goal.returns
returns c = fitting_cycles
