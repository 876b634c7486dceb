use Rattle.std.proofs.Common.{below_more, arith}
use Rattle.std.proofs.lemmas.Grind.{common_steps}
use Rattle.cubes.proofs.MergeLemmas.{contradicts_at}
use Rattle.cubes.proofs.merging.first_clear.Goals as goal

pub loop-place-preserved : goal.loop-place-preserved
loop-place-preserved c =
    below_more _ _ c.loop-place.invariant
    (contradicts_at c.args.results.now c.loop-place.place c.index-results-place.result c.args.cube.now
    c.index-results-place.is c.loop-place-test.true (c.contradicts.ensures.0 c.if-not-contradicts.false))

pub returns-then-not-contradicts : goal.returns-then-not-contradicts
returns-then-not-contradicts c = grind (arith, common_steps)
