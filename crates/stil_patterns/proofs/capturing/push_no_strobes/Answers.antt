use Rattle.std.proofs.Common.{◌++◌, ◌∷◌, [], ◌∙◌, ap, replicate}
use Rattle.statement.specs.Benches.{Text}
use Rattle.statement.specs.declared.kinds.Tri.TheVariants.{X}
use Rattle.statement.specs.Tests.{char_of_value}
use Rattle.stil_patterns.proofs.AddLemmas.{unstrobed}
use Rattle.stil_patterns.proofs.capturing.push_no_strobes.Goals as goal

pub returns : goal.returns
returns c =
    c.in_ok-push.ensures.ok
    ∙ ap (λ (w : Text). c.args.room.now.words ++ w ∷ [])
    (c.deref.ensures.value ∙ (c.in_ok-push_unstrobed.ensures ∙ (ap (λ (w : Text). w ++ replicate c.args.outputs (char_of_value X)) c.clear.ensures.items ∙ unstrobed c.args.outputs)))
