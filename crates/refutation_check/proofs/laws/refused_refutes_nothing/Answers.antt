use Rattle.refutation_check.proofs.Refusals.{refutes_nothing}
use Rattle.refutation_check.proofs.laws.refused_refutes_nothing.Goals as goal

pub returns : goal.returns
returns c f n holds steps fault other w r = refutes_nothing f n holds steps fault other w r
