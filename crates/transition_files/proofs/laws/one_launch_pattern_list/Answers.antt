use Rattle.transition_files.proofs.LaunchBack.{one_launch_list}
use Rattle.transition_files.proofs.laws.one_launch_pattern_list.Goals as goal

pub returns : goal.returns
returns c = one_launch_list
