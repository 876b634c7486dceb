use Rattle.bench_text.proofs.TextLemmas.{cut_at, all_at}
use Rattle.bench_text.proofs.lines.first_line.Goals as goal

pub returns-in-Some-clause-line : goal.returns-in-Some-clause-line
returns-in-Some-clause-line c = cut_at _ _ _ _ _ c.in-Some.ensures c.split_at.ensures.front c.split_at.ensures.back c.split_at-in-Some.ensures.back

pub returns-in-None-clause-line : goal.returns-in-None-clause-line
returns-in-None-clause-line c = all_at _ _ _ c.in-None.ensures c.requires c.split_at-in-None.ensures.front c.split_at-in-None.ensures.back
