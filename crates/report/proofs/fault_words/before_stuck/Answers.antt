use Rattle.report.proofs.FaultLemmas.{no_stuck_blank, other_stuck, stuck_found}
use Rattle.report.proofs.fault_words.before_stuck.Goals as goal

pub returns-in_err-word : goal.returns-in_err-word
returns-in_err-word c = rw c.from_residual.ensures (no_stuck_blank c.args.text.now c.in_err-word.ensures)

pub returns-in_err-front : goal.returns-in_err-front
returns-in_err-front c =
    rw c.from_residual-in_err-front.ensures
    (other_stuck c.args.text.now c.in_ok-word.word.now c.in_ok-word.rest.now c.in_ok-word.ensures.0 c.in_ok-word.ensures.1 c.in_err-front.ensures)

pub returns : goal.returns
returns c =
    stuck_found c.args.text.now c.in_ok-word.word.now c.in_ok-front.front.now c.in_ok-word.rest.now c.in_ok-word.ensures.0 c.in_ok-word.ensures.1 c.in_ok-front.ensures
