use Rattle.std.proofs.Common.{◌≡◌, ◌++◌, take}
use Rattle.report.specs.inner.Counts.{count_words, in_order, some_counts}
use Rattle.report.proofs.writing.push_counts.Given as goal

abbrev pub invariant-loop-k : goal.invariant-loop-k
invariant-loop-k l = l.out.items ≡ l.initial.out.items ++ some_counts count_words (take l.k (in_order l.fn.counts))
