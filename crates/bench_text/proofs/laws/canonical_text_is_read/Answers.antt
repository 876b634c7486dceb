use Rattle.bench_text.proofs.RoundTrip.{read-again}
use Rattle.bench_text.proofs.laws.canonical_text_is_read.Goals as goal

pub returns : goal.returns
returns c = read-again
