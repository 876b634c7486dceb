use Rattle.bench_text.proofs.TextLemmas.{first-place}
use Rattle.bench_text.proofs.lines.line_end.Goals as goal

pub returns : goal.returns
returns c = first-place _ _ c.memchr.ensures
