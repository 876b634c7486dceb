use Rattle.refutation.proofs.Sweeping.{swept_once, something_left}
use Rattle.refutation.proofs.laws.one_sweep.Goals as goal

pub returns : goal.returns
returns c f n told swept w = (something_left n f told swept w, (λ other v. swept_once n f told other swept v w))
