use Rattle.std.proofs.Common.{◌∙◌, arith, sym}
use Rattle.command_line.proofs.NumberLemmas.{number_taken, number_refused}
use Rattle.command_line.proofs.values.number.Goals as goal

pub returns-in-Ok-clause-value : goal.returns-in-Ok-clause-value
returns-in-Ok-clause-value c =
    number_taken c.args.low c.args.high c.in-Ok.number c.args.text.now c.in-Ok.ensures.value.0
    (sym c.is_padded.ensures ∙ c.if-is_padded.false) (omega arith) (omega arith)

pub returns-in_default-3-clause-value : goal.returns-in_default-3-clause-value
returns-in_default-3-clause-value c =
    number_refused c.args.low c.args.high c.args.text.now c.in_default.ensures.value.0
    (sym c.is_padded.ensures ∙ c.if-is_padded.false) (omega arith)
