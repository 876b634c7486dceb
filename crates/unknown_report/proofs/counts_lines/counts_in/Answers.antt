use Rattle.unknown_report.proofs.CountTexts.{behind_faults, counts_found, line_is, no_detected, no_redundant, no_undetected, no_unknown}
use Rattle.std.proofs.Common.{◌∙◌}
use Rattle.unknown_report.proofs.counts_lines.counts_in.Goals as goal

pub returns-in_default : goal.returns-in_default
returns-in_default c = λ k rest v e. c.in_default.ensures k.faults (behind_faults k rest) v.faults (e ∙ line_is k rest)

pub returns-in_default-numbered_in : goal.returns-in_default-numbered_in
returns-in_default-numbered_in c =
    no_detected c.args.text.now c.in-Some.behind_faults.now c.in-Some.faults c.in-Some.ensures c.in_default-numbered_in.ensures

pub returns-in_default-numbered_in-2 : goal.returns-in_default-numbered_in-2
returns-in_default-numbered_in-2 c =
    no_redundant c.args.text.now c.in-Some.behind_faults.now c.in-Some.faults c.in-Some.ensures
    c.in-Some-numbered_in.behind_detected.now c.in-Some-numbered_in.detected c.in-Some-numbered_in.ensures c.in_default-numbered_in-2.ensures

pub returns-in_default-numbered_in-3 : goal.returns-in_default-numbered_in-3
returns-in_default-numbered_in-3 c =
    no_undetected c.args.text.now c.in-Some.behind_faults.now c.in-Some.faults c.in-Some.ensures
    c.in-Some-numbered_in.behind_detected.now c.in-Some-numbered_in.detected c.in-Some-numbered_in.ensures
    c.in-Some-numbered_in-2.behind_redundant.now c.in-Some-numbered_in-2.redundant c.in-Some-numbered_in-2.ensures c.in_default-numbered_in-3.ensures

pub returns-in_default-numbered_in-4 : goal.returns-in_default-numbered_in-4
returns-in_default-numbered_in-4 c =
    no_unknown c.args.text.now c.in-Some.behind_faults.now c.in-Some.faults c.in-Some.ensures
    c.in-Some-numbered_in.behind_detected.now c.in-Some-numbered_in.detected c.in-Some-numbered_in.ensures
    c.in-Some-numbered_in-2.behind_redundant.now c.in-Some-numbered_in-2.redundant c.in-Some-numbered_in-2.ensures
    c.in-Some-numbered_in-3.behind_undetected.now c.in-Some-numbered_in-3.undetected c.in-Some-numbered_in-3.ensures c.in_default-numbered_in-4.ensures

pub returns : goal.returns
returns c =
    counts_found c.args.text.now c.in-Some.behind_faults.now c.in-Some.faults c.in-Some.ensures
    c.in-Some-numbered_in.behind_detected.now c.in-Some-numbered_in.detected c.in-Some-numbered_in.ensures
    c.in-Some-numbered_in-2.behind_redundant.now c.in-Some-numbered_in-2.redundant c.in-Some-numbered_in-2.ensures
    c.in-Some-numbered_in-3.behind_undetected.now c.in-Some-numbered_in-3.undetected c.in-Some-numbered_in-3.ensures
    c.in-Some-numbered_in-4.rest.now c.in-Some-numbered_in-4.unknown c.in-Some-numbered_in-4.ensures
