use Rattle.std.proofs.Common.{◌++◌, ◌∷◌, decimal}
use Rattle.std.proofs.lemmas.Bool.{both_ways}
use Rattle.report.proofs.OutcomeLemmas.{no_blank, no_second, other_cycle, other_pattern, other_pin}
use Rattle.report.proofs.fault_words.place_in.Goals as goal

pub returns-in_err-first : goal.returns-in_err-first
returns-in_err-first c = rw c.from_residual.ensures (λ p k pin i j v. no_blank c.args.text.now c.in_err-first.ensures p (decimal k ++ 32 ∷ pin) i)

pub returns-in_err-second : goal.returns-in_err-second
returns-in_err-second c =
    rw c.from_residual-in_err-second.ensures
    (no_second c.args.text.now c.in_ok-first.first.now c.in_ok-first.after.now c.in_ok-first.ensures.0 c.in_ok-first.ensures.1 c.in_err-second.ensures)

pub returns-in_err-pattern : goal.returns-in_err-pattern
returns-in_err-pattern c =
    rw c.from_residual-in_err-pattern.ensures
    (other_pattern c.args.text.now c.in_ok-first.first.now c.in_ok-first.after.now c.in_ok-first.ensures.0 c.in_ok-first.ensures.1
    c.in_ok-second.second.now c.in_ok-second.pin.now c.in_ok-second.ensures.0 c.in_ok-second.ensures.1 c.in_err-pattern.ensures.cases)

pub returns-in_err-cycle : goal.returns-in_err-cycle
returns-in_err-cycle c =
    rw c.from_residual-in_err-cycle.ensures
    (other_cycle c.args.text.now c.in_ok-first.first.now c.in_ok-first.after.now c.in_ok-first.ensures.0 c.in_ok-first.ensures.1
    c.in_ok-second.second.now c.in_ok-second.pin.now c.in_ok-second.ensures.0 c.in_ok-second.ensures.1 c.in_err-cycle.ensures.cases)

pub returns-else-is_word : goal.returns-else-is_word
returns-else-is_word c =
    other_pin c.args.text.now c.in_ok-first.first.now c.in_ok-first.after.now c.in_ok-first.ensures.0 c.in_ok-first.ensures.1
    c.in_ok-second.second.now c.in_ok-second.pin.now c.in_ok-second.ensures.0 c.in_ok-second.ensures.1
    (λ v. both_ways c.is_word.result c.if-is_word.false (c.is_word.ensures.1 v))
