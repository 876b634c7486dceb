use Rattle.std.proofs.Common.{length}
use Rattle.bench_text.specs.inner.LinesRead.{IsPartRead}
use Rattle.bench_text.proofs.lines.read_lines.Given as goal

abbrev pub invariant-lines : goal.invariant-lines
invariant-lines l = IsPartRead l.reading l.text l.rest l.draft

abbrev pub decreases-lines : goal.decreases-lines
decreases-lines l = length l.rest
