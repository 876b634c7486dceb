use Rattle.std.proofs.Common.{MatchBool, subst, sym}
use Rattle.statement.specs.declared.outcomes.Outcome.{Outcome}
use Rattle.good_slow_files.specs.GoodSlowFiles.{IsTrueOfSlow}
use Rattle.slow_check.specs.inner.Trials.{slow_test_of}
use Rattle.slow_check.proofs.TruthLemmas.{by_sight, last_inside}
use Rattle.slow_check.proofs.truth.is_true_of.Goals as goal

pub is_seen_so-requires-clause-inside : goal.is_seen_so-requires-clause-inside
is_seen_so-requires-clause-inside c =
    let t = c.args.walk.now.trial.now in
    last_inside t.netlist.now c.requires.ready.trial.sound t.patterns.now c.args.fault.now c.args.last.now c.requires.last

pub returns-in-Detected : goal.returns-in-Detected
returns-in-Detected c =
    let t = slow_test_of c.args.walk.now.trial.now in
    let f = c.args.fault.now in
    let pin = c.args.line.pin.now in
    subst (λ (o : Outcome). MatchBool c.is_seen_so.result (IsTrueOfSlow t f o pin) (¬ IsTrueOfSlow t f o pin)) (sym c.in-Detected.is)
    (by_sight t f c.is_seen_so.result c.args.last.now c.requires.last c.in-Detected.place c.in-Detected.cycle pin c.is_seen_so.ensures)
