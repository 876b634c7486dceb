use Rattle.std.proofs.Common.{◌∷◌, ℕ, Option, drop, sym, subst}
use Rattle.statement.specs.declared.lines.Point.{Point}
use Rattle.word_sim.specs.Hits.{AreHits}
use Rattle.word_sim.specs.inner.Found.{IsTold, untold}
use Rattle.word_sim.proofs.Untold.{known_here}
use Rattle.word_sim.proofs.last_detected.told_by.Goals as goal

pub returns-in-Some : goal.returns-in-Some
returns-in-Some c n part f faults told are = known_here n part c.args.start c.args.k f faults told c.args.known _ (drop c.args.next c.args.hits.now) c.in-Some.is are

pub returns-in-None : goal.returns-in-None
returns-in-None c n part f faults told are =
    let both = c.next_hit.ensures n part f faults told
    (subst (λ (o : Option (ℕ × Point)). AreHits n part (untold c.args.k (f ∷ faults) (o ∷ told)) (drop c.args.next c.args.hits.now)) c.in-None.is are) in
    (subst (λ (o : Option (ℕ × Point)). IsTold n part c.args.start f o c.next_hit.result.0) (sym c.in-None.is) both.0, both.1)
