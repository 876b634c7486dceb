use Rattle.std.proofs.Common.{◌++◌, ◌-◌, ◌∙◌, ap, length, refl}
use Rattle.statement.specs.Benches.{Text}
use Rattle.test_commands.specs.inner.ChainTrials.{counts_text}
use Rattle.test_commands.proofs.ChainTestLemmas.{counts_are}
use Rattle.test_commands.proofs.told_lines.begun.Goals as goal

pub returns : goal.returns
returns c =
    let told = c.args.told.now in
    let fails = c.fail_count-fails.result in
    c.in_ok-push_counts.ensures
    ∙ (ap (λ (t : Text). t ++ counts_text (length told) fails (length told - fails)) c.new-text.ensures.items
    ∙ counts_are told fails (length told - fails) c.fail_count-fails.ensures.value refl)
