use Rattle.good_files.proofs.Agreeing.{agree}
use Rattle.good_files.proofs.laws.answers_agree.Goals as goal

pub returns : goal.returns
returns c files a b is also = agree files c.good_files_pass.ensures a b is also
