use Rattle.check_command.proofs.Passing.{checked}
use Rattle.check_command.proofs.laws.good_files_checked.Goals as goal

pub returns : goal.returns
returns c files contents sound good d due = checked c.good_files_pass.ensures files contents sound good d due
