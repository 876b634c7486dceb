use Rattle.std.proofs.Common.{◌≡◌, ◌++◌, ◌∙◌, codes}
use Rattle.transition_report.proofs.SlowFaultTexts.{line_found, no_line_found}
use Rattle.transition_report.proofs.fault_reading.line_named.Goals as goal

pub returns-in-Some : goal.returns-in-Some
returns-in-Some c =
    let text = c.args.text.now in
    let filled : c.as_slice.result.now ≡ text ++ codes "/0" =
    c.as_slice.ensures.value ∙ c.in_ok-spell.ensures in
    line_found c.args.names.now text c.as_slice.result.now filled c.in-Some.fault c.in-Some.ensures.0 c.in-Some.ensures.1

pub returns-in-None : goal.returns-in-None
returns-in-None c =
    let text = c.args.text.now in
    let filled : c.as_slice.result.now ≡ text ++ codes "/0" =
    c.as_slice.ensures.value ∙ c.in_ok-spell.ensures in
    no_line_found c.args.names.now text c.as_slice.result.now filled c.in-None.ensures
