use Rattle.good_files.proofs.Passed.{passed}
use Rattle.good_files.proofs.laws.checked_is_good.Goals as goal

pub returns : goal.returns
returns c = passed c.good_files_tell_the_truth.ensures
