use Rattle.std.proofs.Common.{[], ◌∷◌, length-append, arith}
use Rattle.std.proofs.lemmas.List.Elements.{All-push}
use Rattle.cubes.specs.Cubes.{IsPatternOf}
use Rattle.run_files.specs.inner.Batches.{AreOfCube}
use Rattle.run_files.proofs.drawing.drawn_batch.Goals as goal

pub loop-drawn-preserved : goal.loop-drawn-preserved
loop-drawn-preserved g c =
    let old = c.loop-drawn.patterns.items in
    let one = c.in_ok-pattern.pattern in
    let all = length-append old (one ∷ []) in
    rw c.in_ok-push.ensures.items (record {
      count = omega (arith, all, c.loop-drawn.invariant.count);
      obey = λ n holds is. All-push (IsPatternOf n holds) old one (c.loop-drawn.invariant.obey n holds is) (c.in_ok-pattern.ensures.fits n holds is);
    })

pub returns : goal.returns
unfolding AreOfCube
returns g c = (omega (arith, c.loop-drawn.invariant.count, c.loop-drawn-test.false), c.loop-drawn.invariant.obey)
