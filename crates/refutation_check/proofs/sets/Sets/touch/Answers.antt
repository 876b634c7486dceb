use Rattle.std.proofs.Common.{ap, ◌∙◌}
use Rattle.refutation.specs.Refutations.{Told, told_of}
use Rattle.refutation_check.proofs.Touches.{told_by, touched_put}
use Rattle.refutation_check.proofs.TrailLemmas.{grows_by}
use Rattle.refutation_check.proofs.sets.Sets.touch.Goals as goal

pub returns-clause-grows : goal.returns-clause-grows
returns-clause-grows c = grows_by c.put.result c.args.self.now c.put.new.self c.args.id c.told_at-own.result c.put.ensures.ok c.put.ensures.err

pub returns-clause-told : goal.returns-clause-told
returns-clause-told c =
    told_by c.put.result c.args.self.now c.put.new.self c.args.id c.told_at-own.result (c.told_at-own.ensures ∙ ap (λ (t : Told). told_of t c.args.id) c.told.ensures) c.put.ensures.ok
    c.put.ensures.err

pub returns-clause-touched : goal.returns-clause-touched
returns-clause-touched c = touched_put c.put.result c.args.self.now c.put.new.self c.args.id c.told_at-own.result c.put.ensures.ok
