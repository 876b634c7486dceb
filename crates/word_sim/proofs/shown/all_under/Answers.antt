use Rattle.std.proofs.Common.{refl}
use Rattle.std.proofs.lemmas.List.{get_or_default}
use Rattle.word_sim.specs.inner.Differences.{shows_under}
use Rattle.word_sim.proofs.Found.{all_more}
use Rattle.word_sim.proofs.shown.all_under.Goals as goal

pub loop-k-preserved : goal.loop-k-preserved
loop-k-preserved c =
    all_more c.args.shown.now c.loop-k.k _ c.loop-k-test.true (get_or_default c.args.shown.now c.loop-k.k _ _ c.loop-k-test.true) shows_under
    c.loop-k.all _ c.loop-k.invariant (λ j l. refl)
