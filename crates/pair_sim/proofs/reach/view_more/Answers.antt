use Rattle.std.proofs.Common.{◌≡◌, ◌++◌, ◌∷◌, [], ◌||◌, ℕ, Bool, sym, ◌∙◌, ap, subst, cond, ltb, ◌&&◌, get_or}
use Rattle.netlist.specs.Settled.{at}
use Rattle.tri.specs.declared.labels.Label.{Label}
use Rattle.tri.specs.Paths.{has_effect}
use Rattle.pair_sim.specs.inner.Levels.{blank}
use Rattle.pair_sim.specs.inner.Reach.{AreViewed}
use Rattle.pair_sim.proofs.Reaching.{viewed_more}
use Rattle.pair_sim.proofs.reach.view_more.Goals as goal

pub returns : goal.returns
returns c first count values ids x place label view =
    let least = c.args.view.least in
    let differs = c.args.view.differs in
    let least_is : c.lesser.result ≡ cond (has_effect (at values blank x) && ltb (get_or first x 0) least) (get_or first x 0) least =
    c.lesser.ensures ∙ (ap (λ (l : Label). cond (has_effect l && ltb c.args.place least) c.args.place least) (sym label)
    ∙ ap (λ p. cond (has_effect (at values blank x) && ltb p least) p least) (sym place)) in
    let differs_is : c.either.result ≡ (differs || (at values blank x).may_differ) = c.either.ensures ∙ ap (λ (l : Label). differs || l.may_differ) (sym label) in
    subst (λ b. AreViewed first count values (ids ++ x ∷ []) c.lesser.result b) (sym differs_is) (viewed_more first count values ids x least c.lesser.result differs view least_is)
