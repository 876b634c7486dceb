use Rattle.stil_patterns.proofs.FileLemmas.{files_fit}
use Rattle.stil_patterns.proofs.laws.files_fit.Goals as goal

pub returns : goal.returns
returns c = files_fit
