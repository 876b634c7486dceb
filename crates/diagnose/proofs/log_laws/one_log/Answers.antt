use Rattle.diagnose.proofs.EndLemmas.{one_log}
use Rattle.diagnose.proofs.log_laws.one_log.Goals as goal

pub returns : goal.returns
returns c = one_log
