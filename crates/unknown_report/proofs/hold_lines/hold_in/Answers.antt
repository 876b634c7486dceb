use Rattle.std.proofs.lemmas.Bool.{both_ways}
use Rattle.report.proofs.HoldLemmas.{other_name}
use Rattle.unknown_report.proofs.hold_lines.hold_in.Goals as goal

pub returns-else-is_word : goal.returns-else-is_word
returns-else-is_word c =
    other_name c.args.line.now c.in_ok-words.words.now c.in_ok-name.name.now c.in_ok-name.bit c.in_ok-words.ensures c.in_ok-name.ensures
    (λ v. both_ways c.is_word.result c.if-is_word.false (c.is_word.ensures.1 v))
