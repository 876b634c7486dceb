use Rattle.std.proofs.Common.{◌∙◌, sym}
use Rattle.slow_check.specs.inner.Trials.{slow_test_of}
use Rattle.slow_check.proofs.TruthLemmas.{by_open, never_by, not_aborted}
use Rattle.slow_check.proofs.truth.is_aborted.Goals as goal

pub returns-then-is_some : goal.returns-then-is_some
returns-then-is_some c =
    not_aborted (slow_test_of c.args.walk.now.trial.now) c.args.fault.now c.args.last.now (sym c.is_some.ensures ∙ c.if-is_some.true) c.requires.last

pub returns : goal.returns
returns c =
    let t = slow_test_of c.args.walk.now.trial.now in
    by_open t c.args.fault.now (never_by t c.args.fault.now c.args.last.now (sym c.is_some.ensures ∙ c.if-is_some.false) c.requires.last) c.in_ok-ends.ends c.in_ok-ends.ensures c.is_left_open.result c.is_left_open.ensures
