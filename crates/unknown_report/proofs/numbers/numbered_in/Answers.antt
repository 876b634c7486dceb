use Rattle.unknown_report.proofs.NumberTexts.{no_mark, no_number, no_word, number_found}
use Rattle.unknown_report.proofs.numbers.numbered_in.Goals as goal

pub returns-in_default : goal.returns-in_default
returns-in_default c = no_word c.args.mark c.requires c.args.word.now c.args.text.now c.in_default.ensures

pub returns-in_default-split_at : goal.returns-in_default-split_at
returns-in_default-split_at c = no_mark c.args.mark c.requires c.args.word.now c.args.text.now c.in-Some.after.now c.in-Some.ensures c.in_default-split_at.ensures

pub returns-in_default-number : goal.returns-in_default-number
returns-in_default-number c =
    no_number c.args.mark c.requires c.args.word.now c.args.text.now c.in-Some.after.now c.in-Some.ensures c.in-Some-split_at.parts.0.now c.in-Some-split_at.parts.1.now
    c.in-Some-split_at.ensures c.in_default-number.ensures.cases

pub returns : goal.returns
returns c =
    number_found c.args.mark c.requires c.args.word.now c.args.text.now c.in-Some.after.now c.in-Some.ensures c.in-Some-split_at.parts.0.now c.in-Some-split_at.parts.1.now
    c.in-Some-split_at.ensures c.in-Some-number.count c.in-Some-number.ensures.within c.in-Some-number.ensures.cases
