use Rattle.std.proofs.Common.{◌≡◌, sym, ap, ◌∙◌, subst}
use Rattle.std.proofs.lemmas.Bool.{both_ways}
use Rattle.refutation.specs.declared.pairs.Pairs.{Pairs}
use Rattle.refutation.specs.Pairs.{meet}
use Rattle.refutation.specs.Refutations.{Told, told_of}
use Rattle.refutation_check.proofs.LookLemmas.{restricted_same}
use Rattle.refutation_check.proofs.LookSteps.{restricted_put}
use Rattle.refutation_check.proofs.TrailLemmas.{grows_by}
use Rattle.refutation_check.proofs.sets.Sets.restrict.Goals as goal

pub returns-then-is_within-clause-so : goal.returns-then-is_within-clause-so
returns-then-is_within-clause-so c =
    restricted_same c.args.self.now c.args.id c.args.set c.requires
    (subst (λ (s : Pairs). meet s c.args.set ≡ s) (c.told_at-own.ensures ∙ ap (λ (t : Told). told_of t c.args.id) c.told.ensures) (c.is_within.ensures.0 c.if-is_within.true))

pub returns-clause-grows : goal.returns-clause-grows
returns-clause-grows c = grows_by c.put.result c.args.self.now c.put.new.self c.args.id c.meet.result c.put.ensures.ok c.put.ensures.err

pub returns-clause-so : goal.returns-clause-so
returns-clause-so c =
    restricted_put c.put.result c.args.self.now c.put.new.self c.args.id c.args.set c.told_at-own.result c.meet.result c.requires
    (c.told_at-own.ensures ∙ ap (λ (t : Told). told_of t c.args.id) c.told.ensures) c.meet.ensures
    (λ e. both_ways c.is_within.result c.if-is_within.false (c.is_within.ensures.1 (sym c.meet.ensures ∙ e))) c.put.ensures.ok
