use Rattle.check_command.proofs.Passing.{slow_checked}
use Rattle.check_command.proofs.laws.good_slow_files_checked.Goals as goal

pub returns : goal.returns
returns c files contents sound design good d due = slow_checked c.good_slow_files_pass.ensures files contents sound design good d due
