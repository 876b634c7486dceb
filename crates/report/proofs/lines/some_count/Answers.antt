use Rattle.std.proofs.Common.{◌<◌, arith}
use Rattle.report.proofs.NumberLemmas.{no_some, only_zero, some_found}
use Rattle.report.proofs.lines.some_count.Goals as goal

pub returns-in_default : goal.returns-in_default
returns-in_default c = no_some c.args.word.now c.args.text.now c.in_default.ensures

pub returns-then-number-eq0 : goal.returns-then-number-eq0
returns-then-number-eq0 c = only_zero c.args.word.now c.args.text.now c.in-Some.rest.now c.in-Some.number c.if-number-eq0.true c.in-Some.ensures

pub returns : goal.returns
returns c =
    let some : 0 < c.in-Some.number = let other = c.if-number-eq0.false in omega arith in
    some_found c.args.word.now c.args.text.now c.in-Some.rest.now c.in-Some.number some c.in-Some.ensures
