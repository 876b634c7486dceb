use Rattle.refutation.specs.Refutations.{HoldsAt, StepHolds, clauses}
use Rattle.refutation_check.specs.inner.Checks.{IsTaken}
use Rattle.refutation_check.proofs.TrailLemmas.{grows_then}
use Rattle.refutation_check.proofs.BaseLemmas.{sets_stay}
use Rattle.refutation_check.proofs.CheckLemmas.{at_true, at_false, known_more, within_all_more, holds_at, not_at, each_more}
use Rattle.refutation_check.proofs.checks.check_steps.Goals as goal
use Rattle.std.proofs.Common.{take}

pub returns-in_default-clause-grows : goal.returns-in_default-clause-grows
returns-in_default-clause-grows c = grows_then c.args.sets.now c.loop-k.sets c.take_step.new.sets c.loop-k.invariant.grows c.in_default.ensures.grows

pub returns-then-not-holds-clause-grows : goal.returns-then-not-holds-clause-grows
returns-then-not-holds-clause-grows c = grows_then c.args.sets.now c.loop-k.sets c.take_step.new.sets c.loop-k.invariant.grows c.in-Ok.ensures.grows

pub returns-then-not-holds-clause-answer : goal.returns-then-not-holds-clause-answer
returns-then-not-holds-clause-answer c =
    let n = c.args.netlist.now in
    let f = c.args.fault.now in
    let steps = c.args.steps.now in
    let k = c.loop-k.k in
    let step = c.index-steps-k.result in
    let lemmas = clauses (take k steps) in
    let old = c.loop-k.sets.told in
    let new = c.take_step.new.sets.told in
    let bad = at_false c.in-Ok.holds (IsTaken n f lemmas step old new) (¬ StepHolds n f lemmas old step) c.in-Ok.ensures.so c.if-not-holds.true in
    record {
      within = c.loop-k-test.true;
      before = c.loop-k.invariant.each;
      bad = not_at n f steps k step c.loop-k-test.true c.index-steps-k.is c.args.sets.now.told old new bad c.loop-k.invariant.known;
    }

pub loop-k-preserved : goal.loop-k-preserved
loop-k-preserved c =
    let n = c.args.netlist.now in
    let f = c.args.fault.now in
    let steps = c.args.steps.now in
    let k = c.loop-k.k in
    let step = c.index-steps-k.result in
    let lemmas = clauses (take k steps) in
    let told0 = c.args.sets.now.told in
    let old = c.loop-k.sets.told in
    let new = c.take_step.new.sets.told in
    let v = c.loop-k.invariant in
    let low = c.loop-k-test.true in
    let is = c.index-steps-k.is in
    let taken = at_true c.in-Ok.holds (IsTaken n f lemmas step old new) (¬ StepHolds n f lemmas old step) c.in-Ok.ensures.so c.if-not-holds.false in
    record {
      grows = grows_then c.args.sets.now c.loop-k.sets c.take_step.new.sets v.grows c.in-Ok.ensures.grows;
      sets = sets_stay n f c.args.from c.loop-k.sets c.take_step.new.sets c.in-Ok.ensures.grows v.sets;
      known = known_more n f steps k step low is told0 old new taken v.known;
      each = each_more (λ j. HoldsAt n f told0 steps j) k v.each (holds_at n f steps k step low is told0 old new taken v.known);
      within = within_all_more n f steps k step low is told0 old new v.sets.sound taken v.within;
    }
