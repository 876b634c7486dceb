use Rattle.std.proofs.Common.{◌≡◌, ◌++◌, length, take}
use Rattle.std.specs.List.{All}
use Rattle.report.specs.inner.Counts.{count_words, some_counts}
use Rattle.report.specs.Beginnings.{IsCount}
use Rattle.report.proofs.reading.numbers.Given as goal

abbrev pub invariant-loop-k : goal.invariant-loop-k
invariant-loop-k l = record {
  read : l.text ≡ some_counts count_words (take l.k l.numbers) ++ l.rest;
  size : length l.numbers ≡ 14;
  small : All IsCount (take l.k l.numbers);
}
