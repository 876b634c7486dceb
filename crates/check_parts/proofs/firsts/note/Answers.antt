use Rattle.std.proofs.Common.{ℕ, Option, Some, refl, ap, ◌∙◌}
use Rattle.check_parts.specs.Firsts.{noted, stays}
use Rattle.check_parts.proofs.FirstLemmas.{read_at}
use Rattle.check_parts.proofs.firsts.note.Goals as goal

pub returns-in-Some : goal.returns-in-Some
returns-in-Some c =
    stays c.in-Some.field-0
    (read_at c.args.places.now.items c.args.spot c.index.result.now c.requires c.index.ensures ∙ ap (λ (o : Option ℕ). Some o) c.in-Some.is)
    refl

pub returns-in-None : goal.returns-in-None
returns-in-None c =
    noted
    (read_at c.args.places.now.items c.args.spot c.index.result.now c.requires c.index.ensures ∙ ap (λ (o : Option ℕ). Some o) c.in-None.is)
    refl
