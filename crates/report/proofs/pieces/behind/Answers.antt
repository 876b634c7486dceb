use Rattle.plain_text.proofs.Parts.{no_prefix, with_prefix}
use Rattle.report.proofs.ByteLemmas.{option_weaker}
use Rattle.report.proofs.pieces.behind.Goals as goal

pub returns : goal.returns
returns c =
    option_weaker c.strip_prefix.result (no_prefix c.args.text.now c.args.word.now) (λ x h. with_prefix c.args.text.now c.args.word.now x.now h.0 h.1)
    c.strip_prefix.ensures.cases
