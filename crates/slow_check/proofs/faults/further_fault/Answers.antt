use Rattle.std.proofs.Common.{ap, arith, length, ◌∙◌}
use Rattle.statement.specs.Reports.{Line}
use Rattle.slow_check.specs.inner.Trials.{slow_test_of}
use Rattle.slow_check.proofs.FaultLemmas.{all_lines, further_line}
use Rattle.slow_check.proofs.faults.further_fault.Goals as goal

pub returns-then-count-len : goal.returns-then-count-len
returns-then-count-len c =
    let w = c.args.walk.now in
    let faults = ap length c.requires.ready.faults in
    let count = c.len-count.ensures in
    let all = c.len.ensures in
    let past = c.if-count-len.true in
    all_lines (slow_test_of w.trial.now) w.lines.now c.requires.below (omega arith)

pub returns : goal.returns
returns c =
    let w = c.args.walk.now in
    let line : Line = record { fault = c.get.result.fault.now; outcome = c.get.result.outcome; pin = c.get.result.pin.now } in
    further_line (slow_test_of w.trial.now) w.lines.now line c.len-count.result c.in_ok-from_slice.field-0.items c.requires.below
    (c.len-count.ensures ∙ ap length c.requires.ready.faults) c.get.ensures c.in_ok-from_slice.ensures.items
