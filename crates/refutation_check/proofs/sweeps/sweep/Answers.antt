use Rattle.std.proofs.Common.{◌<◌, length, ◌∙◌, arith}
use Rattle.refutation.specs.Refutations.{LeavesNothing}
use Rattle.refutation_check.specs.inner.Sweeps.{IsLookedAround}
use Rattle.refutation_check.proofs.CheckLemmas.{at_true, at_false}
use Rattle.refutation_check.proofs.LookLemmas.{calm_more, narrows_then, swept_at_end}
use Rattle.refutation_check.proofs.Looks.{nothing_before}
use Rattle.refutation_check.proofs.TrailLemmas.{grows_then}
use Rattle.refutation_check.proofs.sweeps.sweep.Goals as goal

pub returns-in_err-some-clause-grows : goal.returns-in_err-some-clause-grows
returns-in_err-some-clause-grows c = grows_then c.args.sets.now c.loop-next.sets c.look_around.new.sets c.loop-next.invariant.grows c.in_err-some.ensures.grows

pub returns-then-not-some-clause-grows : goal.returns-then-not-some-clause-grows
returns-then-not-some-clause-grows c = grows_then c.args.sets.now c.loop-next.sets c.look_around.new.sets c.loop-next.invariant.grows c.in_ok-some.ensures.grows

pub returns-then-not-some-clause-so : goal.returns-then-not-some-clause-so
returns-then-not-some-clause-so c =
    let n = c.args.netlist.now in
    let f = c.args.fault.now in
    let now = c.loop-next.sets in
    nothing_before n f c.args.sets.now.told now.told c.loop-next.invariant.narrows.keeps
    (at_false c.in_ok-some.some (IsLookedAround n f now c.changed-id.result c.look_around.new.sets) (LeavesNothing n f now.told) c.in_ok-some.ensures.so c.if-not-some.true)

pub loop-next-preserved : goal.loop-next-preserved
loop-next-preserved c =
    let n = c.args.netlist.now in
    let f = c.args.fault.now in
    let old = c.args.sets.now in
    let now = c.loop-next.sets in
    let new = c.look_around.new.sets in
    let id = c.changed-id.result in
    let low : c.loop-next.next < length c.loop-next.sets.trail = let a = c.loop-next-test.true in let b = c.depth.ensures in omega arith in
    let look = at_true c.in_ok-some.some (IsLookedAround n f now id new) (LeavesNothing n f now.told) c.in_ok-some.ensures.so c.if-not-some.false in
    record {
      grows = grows_then old now new c.loop-next.invariant.grows c.in_ok-some.ensures.grows;
      narrows = narrows_then n f old now new c.loop-next.invariant.narrows look.0.narrows;
      calm = calm_more n f c.requires.sound now new c.loop-next.next id low c.changed-id.ensures.is c.in_ok-some.ensures.grows look.0 look.1 c.loop-next.invariant.calm;
    }

pub returns-clause-so : goal.returns-clause-so
returns-clause-so c =
    let now = c.loop-next.sets in
    swept_at_end c.args.netlist.now c.args.fault.now c.requires.sound c.args.sets.now.told now c.loop-next.next (c.loop-next.invariant.grows.size ∙ c.requires.size)
    (let a = c.loop-next-test.false in let b = c.depth.ensures in omega arith) c.loop-next.invariant.calm c.loop-next.invariant.narrows.within c.loop-next.invariant.narrows.keeps
