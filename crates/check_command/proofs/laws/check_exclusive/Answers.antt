use Rattle.check_command.proofs.Exclusive.{check_exclusive}
use Rattle.check_command.proofs.laws.check_exclusive.Goals as goal

pub returns : goal.returns
returns c = check_exclusive c.answers_agree.ensures c.slow_answers_agree.ensures
