use Rattle.std.proofs.Common.{arith}
use Rattle.std.proofs.lemmas.Bool.{both_ways}
use Rattle.std.proofs.lemmas.Bool.Decides.{nat_tests}
use Rattle.report.proofs.FaultLemmas.{no_pin_blank, no_pin_end, no_pin_place, other_pin_name, pin_found}
use Rattle.report.proofs.fault_words.behind_pin.Goals as goal

pub returns-in_err-name : goal.returns-in_err-name
returns-in_err-name c = rw c.from_residual.ensures (no_pin_blank c.args.model c.args.text.now c.in_err-name.ensures)

pub returns-then-not-is_word : goal.returns-then-not-is_word
returns-then-not-is_word c =
    other_pin_name c.args.model c.args.text.now c.in_ok-name.name.now c.in_ok-name.after.now c.in_ok-name.ensures.0 c.in_ok-name.ensures.1
    (λ w. both_ways c.is_word.result c.if-not-is_word.true (c.is_word.ensures.1 w))

pub returns-in_err-digits : goal.returns-in_err-digits
returns-in_err-digits c =
    rw c.from_residual-in_err-digits.ensures
    (no_pin_end c.args.model c.args.text.now c.in_ok-name.name.now c.in_ok-name.after.now c.in_ok-name.ensures.0 c.in_ok-name.ensures.1 c.in_err-digits.ensures)

pub returns-in_err-_place : goal.returns-in_err-_place
returns-in_err-_place c =
    rw c.from_residual-in_err-_place.ensures
    (no_pin_place c.args.model c.args.text.now c.in_ok-name.name.now c.in_ok-name.after.now c.in_ok-name.ensures.0 c.in_ok-name.ensures.1
    c.in_ok-digits.digits.now c.in_ok-digits.rest.now c.in_ok-digits.ensures c.in_err-_place.ensures.cases)

pub returns : goal.returns
returns c =
    pin_found c.args.model c.args.text.now c.in_ok-name.name.now c.in_ok-name.after.now c.in_ok-name.ensures.0 c.in_ok-name.ensures.1
    c.in_ok-digits.digits.now c.in_ok-digits.rest.now c.in_ok-_place._place (c.is_word.ensures.0 c.if-not-is_word.false) c.in_ok-digits.ensures
    c.in_ok-_place.ensures.within c.in_ok-_place.ensures.cases
