use Rattle.std.proofs.Common.{◌∙◌}
use Rattle.stil_patterns.proofs.SameLemmas.{same_files}
use Rattle.stil_patterns.proofs.patterns.are_same.Goals as goal

pub returns : goal.returns
returns c =
    same_files c.written_stands.ensures c.at_most_one.ensures c.args.file.now c.args.other.now c.as_slice.result.now c.as_slice-2.result.now c.eq.result c.sound.ensures c.sound-2.ensures
    (c.as_slice.ensures.value ∙ c.in_ok-text.ensures) (c.as_slice-2.ensures.value ∙ c.in_ok-other_text.ensures) c.eq.ensures
