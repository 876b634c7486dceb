use Rattle.transition_report.proofs.SlowFaultTexts.{no_slow_blank, other_slow_word, slow_word_found}
use Rattle.transition_report.proofs.fault_reading.slow_at.Goals as goal

pub returns-in_default : goal.returns-in_default
returns-in_default c = no_slow_blank c.args.text.now c.in_default.ensures

pub returns-in_default-value_of : goal.returns-in_default-value_of
returns-in_default-value_of c =
    other_slow_word c.args.text.now c.in-Some.ensures.0 c.in-Some.parts.0.now c.in-Some.parts.1.now c.in-Some.ensures.1 c.in-Some.ensures.2 c.in_default-value_of.ensures

pub returns : goal.returns
returns c =
    slow_word_found c.args.text.now c.in-Some.ensures.0 c.in-Some.parts.0.now c.in-Some.parts.1.now c.in-Some-value_of.value c.in-Some.ensures.1 c.in-Some.ensures.2 c.in-Some-value_of.ensures
