use Rattle.report.proofs.CountLemmas.{asked_found, no_asked}
use Rattle.report.proofs.reading.asked_counts.Goals as goal

pub returns-in_err-numbers : goal.returns-in_err-numbers
returns-in_err-numbers c = rw c.from_residual.ensures (no_asked c.args.text.now c.in_err-numbers.ensures)

pub returns : goal.returns
returns c = asked_found c.args.text.now c.in_ok-numbers.numbers c.in_ok-numbers.rest.now c.in_ok-numbers.ensures c.of.result c.of.ensures
