use Rattle.statement.specs.Reports.{Line}
use Rattle.statement.specs.Faults.{universe_of}
use Rattle.fault_universe.proofs.Elements.{contains_at}
use Rattle.slow_check.specs.inner.Trials.{slow_test_of}
use Rattle.slow_check.proofs.WalkLemmas.{all_say, last_at, lasts_long, member_at, unnamed}
use Rattle.slow_check.proofs.walking.is_true_at.Goals as goal

pub names-requires : goal.names-requires
names-requires c =
    let w = c.args.walk.now in
    let f = c.fault-fault.result in
    c.faults_have_signals.ensures w.trial.now.netlist.now c.args.place f c.requires.ready.trial.sound (member_at w c.requires.ready c.args.place f c.fault-fault.ensures)

pub bounds-walk-place : goal.bounds-walk-place
bounds-walk-place c = lasts_long c.args.walk.now c.requires.ready c.args.place c.requires.within

pub is_true_of-requires-clause-member : goal.is_true_of-requires-clause-member
is_true_of-requires-clause-member c =
    contains_at (universe_of c.args.walk.now.trial.now.netlist.now) c.args.place c.fault-fault.result (member_at c.args.walk.now c.requires.ready c.args.place c.fault-fault.result c.fault-fault.ensures)

pub is_true_of-requires-clause-last : goal.is_true_of-requires-clause-last
is_true_of-requires-clause-last c = last_at c.args.walk.now c.requires.ready c.args.place c.fault-fault.result _ c.fault-fault.ensures

pub returns-then-not-branch : goal.returns-then-not-branch
returns-then-not-branch c =
    let w = c.args.walk.now in
    let f = c.fault-fault.result in
    let line : Line = record { fault = c.get-line.result.fault.now; outcome = c.get-line.result.outcome; pin = c.get-line.result.pin.now } in
    unnamed (slow_test_of w.trial.now) w.lines.now c.args.place f line (member_at w c.requires.ready c.args.place f c.fault-fault.ensures) c.get-line.ensures
    (rw c.if-not-branch.true at c.in_ok-names.ensures)

pub returns : goal.returns
returns c =
    let w = c.args.walk.now in
    let f = c.fault-fault.result in
    let line : Line = record { fault = c.get-line.result.fault.now; outcome = c.get-line.result.outcome; pin = c.get-line.result.pin.now } in
    all_say (slow_test_of w.trial.now) w.lines.now c.args.place f line (member_at w c.requires.ready c.args.place f c.fault-fault.ensures) c.get-line.ensures
    c.is_true_of.result (rw c.if-not-branch.false at c.in_ok-names.ensures) c.is_true_of.ensures
