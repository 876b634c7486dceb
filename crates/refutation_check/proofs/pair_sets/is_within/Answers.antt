use Rattle.std.proofs.Common.{ap, ◌∙◌}
use Rattle.refutation.specs.declared.pairs.Pairs.{Pairs}
use Rattle.refutation.specs.Pairs.{meet}
use Rattle.refutation_check.specs.inner.Images.{has_some}
use Rattle.refutation_check.proofs.SetLemmas.{within_if}
use Rattle.refutation_check.proofs.pair_sets.is_within.Goals as goal

pub returns : goal.returns
returns c =
    within_if c.args.one c.args.other c.has_some.result
    (c.has_some.ensures ∙ (ap (λ (s : Pairs). has_some s) c.meet.ensures ∙ ap (λ (s : Pairs). has_some (meet c.args.one s)) c.others.ensures))
