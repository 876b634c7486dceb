use Rattle.stil_vectors.proofs.TestLemmas.{test_vectors}
use Rattle.stil_vectors.proofs.laws.test_vectors.Goals as goal

pub returns : goal.returns
returns c = test_vectors
