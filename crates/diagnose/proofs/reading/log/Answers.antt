use Rattle.std.proofs.Common.{◌++◌}
use Rattle.std.specs.List.{flat_map}
use Rattle.std.proofs.lemmas.Bool.Decides.{not_from_Decides}
use Rattle.diagnose.specs.Texts.{end_line, failing_line}
use Rattle.diagnose.proofs.EndLemmas.{log_parts, logged_before}
use Rattle.diagnose.proofs.reading.log.Goals as goal

pub returns-in_default : goal.returns-in_default
returns-in_default c log of = c.in_default.ensures (flat_map failing_line log.failures ++ end_line log.end) of.1

pub returns-in_default-end : goal.returns-in_default-end
returns-in_default-end c log of =
    let f = c.in_ok-failures.ensures in
    let parts = log_parts c.args.bytes.now c.in-Some.text.now c.in_ok-failures.rest.now c.in_ok-failures.failures log c.in-Some.ensures f.0 f.1 f.2 of in
    c.in_default-end.ensures log.end of.0.end parts.1

pub returns-else-are_before : goal.returns-else-are_before
returns-else-are_before c log of =
    let f = c.in_ok-failures.ensures in
    let parts = log_parts c.args.bytes.now c.in-Some.text.now c.in_ok-failures.rest.now c.in_ok-failures.failures log c.in-Some.ensures f.0 f.1 f.2 of in
    not_from_Decides c.are_before.result c.are_before.ensures c.if-are_before.false
    (logged_before c.in-Some-end.end c.in_ok-failures.failures c.in_ok-failures.rest.now log c.in-Some-end.ensures.0 c.in-Some-end.ensures.1 parts of.0)
