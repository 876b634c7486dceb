use Rattle.std.proofs.Common.{◌≡◌, true, List, ℕ, Some, slice_get, subst, arith}
use Rattle.std.proofs.lemmas.List.{take_all}
use Rattle.scan_play.specs.inner.Plans.{AreMarked}
use Rattle.scan_play.proofs.PlanMarks.{all_more}
use Rattle.scan_play.proofs.planning.are_marked.Goals as goal

pub loop-x-preserved : goal.loop-x-preserved
loop-x-preserved c =
    all_more (λ x. slice_get c.args.marks.now x ≡ Some true) c.args.ids.now c.loop-x.x-index c.x-item.result c.loop-x-test.true c.x-item.is c.loop-x.invariant
    (c.is_marked.ensures c.if-not-is_marked.false)

pub returns : goal.returns
returns c e =
    subst (λ (xs : List ℕ). AreMarked c.args.marks.now xs) (take_all c.loop-x.x-index c.args.ids.now (let f = c.loop-x-test.false in omega arith)) c.loop-x.invariant
