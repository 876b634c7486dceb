use Rattle.std.proofs.Common.{ap, arith, length}
use Rattle.std.proofs.lemmas.Bool.Decides.{nat_tests}
use Rattle.diagnose.proofs.EndLemmas.{more_behind, no_number_there}
use Rattle.diagnose.proofs.lines.last_line.Goals as goal

pub returns-in_err-end : goal.returns-in_err-end
returns-in_err-end c =
    rw c.from_residual-in_err-end.ensures
    (no_number_there c.args.text.now c.in_ok-words.words.now c.in_ok-words.ensures c.in_ok-digits.digits.now c.in_ok-digits.rest.now c.in_ok-digits.ensures.0 c.in_ok-digits.ensures.1
    c.in_err-end.ensures.cases)

pub returns-else-is_empty : goal.returns-else-is_empty
returns-else-is_empty c =
    more_behind c.args.text.now c.in_ok-words.words.now c.in_ok-words.ensures c.in_ok-digits.digits.now c.in_ok-digits.rest.now c.in_ok-digits.ensures.0 c.in_ok-digits.ensures.1
    (λ e. let none = ap length e in grind (arith, nat_tests))
