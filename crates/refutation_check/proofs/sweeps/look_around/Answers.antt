use Rattle.std.proofs.Common.{ap, ◌∙◌}
use Rattle.refutation.specs.Refutations.{Told, told_of, LeavesNothing}
use Rattle.refutation_check.specs.inner.Sweeps.{IsMakerLooked}
use Rattle.refutation_check.proofs.CheckLemmas.{at_true, at_false}
use Rattle.refutation_check.proofs.LookSteps.{around_if, left_empty, left_some}
use Rattle.refutation_check.proofs.TrailLemmas.{grows_then}
use Rattle.refutation_check.proofs.sweeps.look_around.Goals as goal

pub returns-then-not-has_some-clause-so : goal.returns-then-not-has_some-clause-so
returns-then-not-has_some-clause-so c =
    left_empty c.args.netlist.now c.args.fault.now c.requires.sound c.args.sets.now.told c.args.id c.told_at.result c.has_some.result c.requires.size c.requires.within
    (c.told_at.ensures ∙ ap (λ (t : Told). told_of t c.args.id) c.told.ensures) c.has_some.ensures c.if-not-has_some.true

pub returns-then-not-made-clause-so : goal.returns-then-not-made-clause-so
returns-then-not-made-clause-so c =
    let n = c.args.netlist.now in
    let f = c.args.fault.now in
    let old = c.args.sets.now in
    at_false c.in_ok-made.made (IsMakerLooked n f old c.args.id c.look_at_maker.new.sets) (LeavesNothing n f old.told) c.in_ok-made.ensures.so c.if-not-made.true

pub returns-clause-grows : goal.returns-clause-grows
returns-clause-grows c = grows_then c.args.sets.now c.look_at_maker.new.sets c.look_at_readers.new.sets c.in_ok-made.ensures.grows c.look_at_readers.ensures.grows

pub returns-clause-so : goal.returns-clause-so
returns-clause-so c =
    let n = c.args.netlist.now in
    let f = c.args.fault.now in
    let old = c.args.sets.now in
    let mid = c.look_at_maker.new.sets in
    around_if n f old mid c.look_at_readers.new.sets c.args.id c.in_ok-made.ensures.grows c.look_at_readers.ensures.grows
    (left_some n f old.told c.args.id c.told_at.result c.has_some.result (c.told_at.ensures ∙ ap (λ (t : Told). told_of t c.args.id) c.told.ensures) c.has_some.ensures c.if-not-has_some.false)
    (at_true c.in_ok-made.made (IsMakerLooked n f old c.args.id mid) (LeavesNothing n f old.told) c.in_ok-made.ensures.so c.if-not-made.false) c.look_at_readers.result c.look_at_readers.ensures.so
