use Rattle.std.proofs.Common.{arith}
use Rattle.slow_check.specs.inner.Trials.{slow_test_of}
use Rattle.slow_check.proofs.TotalLemmas.{by_counts, no_shares}
use Rattle.slow_check.proofs.totals.has_totals.Goals as goal

pub returns-then-not-has_shares : goal.returns-then-not-has_shares
returns-then-not-has_shares c = no_shares (slow_test_of c.args.trial.now) c.args.faults c.args.said.now c.requires.faults c.if-not-has_shares.ensures

pub returns : goal.returns
returns c =
    by_counts (slow_test_of c.args.trial.now) c.args.faults c.args.said.now c.requires.faults (omega arith, omega arith) c.if-not-has_shares.ensures c.has_counts.result c.has_counts.ensures
