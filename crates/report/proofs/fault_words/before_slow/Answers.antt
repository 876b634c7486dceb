use Rattle.report.proofs.FaultLemmas.{no_slow_blank, other_slow, slow_found}
use Rattle.report.proofs.fault_words.before_slow.Goals as goal

pub returns-in_err-front : goal.returns-in_err-front
returns-in_err-front c = rw c.from_residual.ensures (no_slow_blank c.args.text.now c.in_err-front.ensures)

pub returns-in_err-rest : goal.returns-in_err-rest
returns-in_err-rest c =
    rw c.from_residual-in_err-rest.ensures
    (other_slow c.args.text.now c.in_ok-front.front.now c.in_ok-front.after.now c.in_ok-front.ensures.0 c.in_ok-front.ensures.1 c.in_err-rest.ensures)

pub returns : goal.returns
returns c =
    slow_found c.args.text.now c.in_ok-front.front.now c.in_ok-front.after.now c.in_ok-rest.rest.now c.in_ok-front.ensures.0 c.in_ok-front.ensures.1 c.in_ok-rest.ensures
