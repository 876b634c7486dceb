use Rattle.std.proofs.lemmas.Bool.{both_ways}
use Rattle.unknown_report.proofs.UnknownTexts.{no_end, no_name, no_unknown, unknown_found}
use Rattle.unknown_report.proofs.unknown_lines.unknown_in.Goals as goal

pub returns-in_default : goal.returns-in_default
returns-in_default c = no_unknown c.args.text.now c.in_default.ensures

pub returns-in_default-split_at : goal.returns-in_default-split_at
returns-in_default-split_at c = no_end c.args.text.now c.in-Some.after.now c.in-Some.ensures c.in_default-split_at.ensures

pub returns-then-is_word : goal.returns-then-is_word
returns-then-is_word c =
    unknown_found c.args.text.now c.in-Some.after.now c.in-Some.ensures c.in-Some-split_at.parts.0.now c.in-Some-split_at.parts.1.now c.in-Some-split_at.ensures
    (c.is_word.ensures.0 c.if-is_word.true)

pub returns-else-is_word : goal.returns-else-is_word
returns-else-is_word c =
    no_name c.args.text.now c.in-Some.after.now c.in-Some.ensures c.in-Some-split_at.parts.0.now c.in-Some-split_at.parts.1.now c.in-Some-split_at.ensures
    (λ v. both_ways c.is_word.result c.if-is_word.false (c.is_word.ensures.1 v))
