use Rattle.std.proofs.lemmas.Bool.{both_ways}
use Rattle.diagnose.proofs.FailureLemmas.{no_blank, no_name, no_number}
use Rattle.diagnose.proofs.lines.failure_in.Goals as goal

pub returns-in_err-digits : goal.returns-in_err-digits
returns-in_err-digits c = rw c.from_residual.ensures (no_blank c.args.line.now c.in_err-digits.ensures)

pub returns-in_err-cycle : goal.returns-in_err-cycle
returns-in_err-cycle c =
    rw c.from_residual-in_err-cycle.ensures
    (no_number c.args.line.now c.in_ok-digits.digits.now c.in_ok-digits.signal.now c.in_ok-digits.ensures.0 c.in_ok-digits.ensures.1 c.in_err-cycle.ensures.cases)

pub returns-else-is_word : goal.returns-else-is_word
returns-else-is_word c =
    no_name c.args.line.now c.in_ok-digits.digits.now c.in_ok-digits.signal.now c.in_ok-digits.ensures.0 c.in_ok-digits.ensures.1
    (λ v. both_ways c.is_word.result c.if-is_word.false (c.is_word.ensures.1 v))
