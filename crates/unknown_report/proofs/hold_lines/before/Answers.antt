use Rattle.plain_text.proofs.Parts.{no_suffix, with_suffix}
use Rattle.report.proofs.ByteLemmas.{option_weaker}
use Rattle.unknown_report.proofs.hold_lines.before.Goals as goal

pub returns : goal.returns
returns c =
    option_weaker c.strip_suffix.result (no_suffix c.args.text.now c.args.word.now) (λ x h. with_suffix c.args.text.now c.args.word.now x.now h.0 h.1)
    c.strip_suffix.ensures.cases
