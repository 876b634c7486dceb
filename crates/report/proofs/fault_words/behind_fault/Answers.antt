use Rattle.report.proofs.ByteLemmas.{option_weaker}
use Rattle.report.proofs.FaultLemmas.{no_output, no_pin, no_stem}
use Rattle.report.specs.inner.Faults.{begins_output, begins_pin, begins_stem}
use Rattle.report.proofs.fault_words.behind_fault.Goals as goal

pub returns-in-Some : goal.returns-in-Some
returns-in-Some c =
    option_weaker c.behind_named.result (no_stem c.args.model c.args.line.now c.in-Some.text.now c.in-Some.ensures)
    (λ x h. begins_stem c.args.line.now c.in-Some.text.now x.now h c.in-Some.ensures) c.behind_named.ensures

pub returns-in-Some-behind : goal.returns-in-Some-behind
returns-in-Some-behind c =
    option_weaker c.behind_named-in-Some-behind.result (no_output c.args.model c.args.line.now c.in-Some-behind.text.now c.in-Some-behind.ensures)
    (λ x h. begins_output c.args.line.now c.in-Some-behind.text.now x.now h c.in-Some-behind.ensures) c.behind_named-in-Some-behind.ensures

pub returns-in-Some-behind-2 : goal.returns-in-Some-behind-2
returns-in-Some-behind-2 c =
    option_weaker c.behind_pin.result (no_pin c.args.model c.args.line.now c.in-Some-behind-2.text.now c.in-Some-behind-2.ensures)
    (λ x h. begins_pin c.args.line.now c.in-Some-behind-2.text.now x.now h c.in-Some-behind-2.ensures) c.behind_pin.ensures
