use Rattle.report.proofs.CountLemmas.{counts_found, no_numbers}
use Rattle.report.proofs.reading.counts.Goals as goal

pub returns-in_err-numbers : goal.returns-in_err-numbers
returns-in_err-numbers c = rw c.from_residual.ensures (no_numbers c.args.text.now c.in_err-numbers.ensures)

pub returns : goal.returns
returns c =
    counts_found c.args.text.now c.in_ok-numbers.numbers c.in_ok-numbers.behind_numbers.now c.in_ok-numbers.ensures c.some_count-unasked.result.0 c.some_count-unasked.result.1.now
    c.some_count-unasked.ensures c.of.result c.of.ensures
