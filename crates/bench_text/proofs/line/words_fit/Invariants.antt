use Rattle.std.proofs.Common.{◌≡◌, length}
use Rattle.std.specs.List.{list_all}
use Rattle.bench_text.specs.Tokens.{tokens}
use Rattle.bench_text.specs.Refusals.{is_short}
use Rattle.bench_text.proofs.line.words_fit.Given as goal

abbrev pub invariant-words : goal.invariant-words
invariant-words l = list_all (is_short l.reading) (tokens l.rest) ≡ list_all (is_short l.reading) (tokens l.bytes)

abbrev pub decreases-words : goal.decreases-words
decreases-words l = length l.rest
