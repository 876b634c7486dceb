use Rattle.pair_sim.proofs.Sights.{effect_stays, effect_here, no_effect_more, differs_more, differs_here}
use Rattle.std.proofs.Common.{sym, ◌∙◌, subst}
use Rattle.pair_sim.proofs.points.see.Goals as goal
use Rattle.pair_sim.specs.inner.Points.{IsSight}

pub returns-in-Effect : goal.returns-in-Effect
returns-in-Effect c labels size h = effect_stays labels c.args.label.now c.in-Effect.first (subst (IsSight labels) c.in-Effect.is h)

pub returns-then-has_effect : goal.returns-then-has_effect
returns-then-has_effect c labels size h = effect_here labels c.args.label.now c.args.k size (subst (IsSight labels) c.in-Differs.is h).0 (sym c.has_effect.ensures ∙ c.if-has_effect.true)

pub returns-else-has_effect : goal.returns-else-has_effect
returns-else-has_effect c labels size h = (no_effect_more labels c.args.label.now (subst (IsSight labels) c.in-Differs.is h).0 (sym c.has_effect.ensures ∙ c.if-has_effect.false), differs_more labels c.args.label.now (subst (IsSight labels) c.in-Differs.is h).1)

pub returns-then-label : goal.returns-then-label
returns-then-label c labels size h =
    let w = subst (IsSight labels) c.in-Same.is h in
    (no_effect_more labels c.args.label.now w.0 (sym c.has_effect-in-Same.ensures ∙ c.if-has_effect-2.false), differs_here labels c.args.label.now c.if-label.true)
