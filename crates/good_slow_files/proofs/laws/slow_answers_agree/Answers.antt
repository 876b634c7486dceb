use Rattle.good_slow_files.proofs.Agreeing.{agree}
use Rattle.good_slow_files.proofs.laws.slow_answers_agree.Goals as goal

pub returns : goal.returns
returns c files a b is also = agree files c.good_slow_files_pass.ensures a b is also
