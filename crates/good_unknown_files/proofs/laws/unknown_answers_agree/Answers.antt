use Rattle.good_unknown_files.proofs.Agreeing.{agree}
use Rattle.good_unknown_files.proofs.laws.unknown_answers_agree.Goals as goal

pub returns : goal.returns
returns c files a b is also = agree files c.good_unknown_files_pass.ensures a b is also
