use Rattle.std.proofs.Common.{List, ap, length, subst, ◌∙◌}
use Rattle.statement.specs.Reports.{Line}
use Rattle.good_slow_files.specs.GoodSlowFiles.{AreTrueSlowFaults}
use Rattle.run_report.proofs.ClassLemmas.{some_fault}
use Rattle.slow_check.specs.inner.Trials.{slow_test_of}
use Rattle.slow_check.proofs.checking.verdict_of.Goals as goal

pub has_totals-requires-clause-faults : goal.has_totals-requires-clause-faults
has_totals-requires-clause-faults c = c.len-count.ensures ∙ ap length c.requires.ready.faults

pub has_totals-requires-clause-some : goal.has_totals-requires-clause-some
has_totals-requires-clause-some c = some_fault c.args.walk.now.trial.now.netlist.now c.requires.ready.trial.sound

pub returns : goal.returns
returns c =
    let t = slow_test_of c.args.walk.now.trial.now in
    let faults = rw c.in_default.is at c.in_ok-text.ensures in
    let totals = rw c.if-not-has_totals.false at c.has_totals.ensures in
    (subst (λ (ls : List Line). AreTrueSlowFaults t ls) c.requires.lines faults, totals, c.len-count.ensures ∙ ap length c.requires.ready.faults)
