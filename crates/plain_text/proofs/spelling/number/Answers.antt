use Rattle.std.proofs.Common.{Ok, ◌∙◌, ◌≡◌}
use Rattle.plain_text.proofs.Numbers.{decimal_is_text, decimal_parses, other_decimal}
use Rattle.plain_text.proofs.spelling.number.Goals as goal

pub returns-in_default-clause-cases : goal.returns-in_default-clause-cases
returns-in_default-clause-cases c k l e = c.in_default.ensures.cases.0 (decimal_is_text k c.args.digits.now l e)

pub returns-in_default-parse-clause-cases : goal.returns-in_default-parse-clause-cases
returns-in_default-parse-clause-cases c k l e = c.in_default-parse.not-Ok k (decimal_parses k c.in-Ok.text.now c.args.digits.now c.parse.result l e c.in-Ok.ensures.cases.0 c.parse.ensures.value.0)

pub returns-else-eq-clause-cases : goal.returns-else-eq-clause-cases
returns-else-eq-clause-cases c k l e =
    let parsed : c.parse.result ≡ Ok k = decimal_parses k c.in-Ok.text.now c.args.digits.now c.parse.result l e c.in-Ok.ensures.cases.0 c.parse.ensures.value.0 in
    let same : c.in-Ok-parse.number ≡ k = cc in
    other_decimal k c.in-Ok-parse.number c.args.digits.now c.as_bytes.result.now c.eq.result e same (c.as_bytes.ensures.value ∙ c.format.ensures.text) c.eq.ensures c.if-eq.false
