use Rattle.std.proofs.lemmas.List.{get_or_default}
use Rattle.word_sim.specs.declared.shown.Shown.{Shown}
use Rattle.word_sim.specs.inner.Differences.{shows_under}
use Rattle.word_sim.proofs.Found.{least_more}
use Rattle.word_sim.proofs.shown.first_under.Goals as goal

pub loop-k-preserved : goal.loop-k-preserved
loop-k-preserved c =
    least_more c.args.shown.now c.loop-k.k _ c.loop-k-test.true (get_or_default c.args.shown.now c.loop-k.k _ _ c.loop-k-test.true) (shows_under c.args.j) (shows_under c.args.j) (λ (s : Shown). s.point) c.args.count
    (λ s p. p) c.loop-k.least c.lesser-least.result c.loop-k.invariant (λ low bit. bit) c.lesser-least.ensures
