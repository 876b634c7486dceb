use Rattle.std.proofs.Common.{◌∙◌, ap, subst, sym}
use Rattle.stil_write.specs.Parts.{file_of}
use Rattle.stil_write.specs.StilFiles.{IsStilFile}
use Rattle.statement.specs.Stils.{StilFile}
use Rattle.stil_read.specs.Tokens.{tokens}
use Rattle.stil_read.specs.inner.Grammar.{IsSpelt}
use Rattle.stil_read.proofs.ReadLemmas.{differs, no_file, not_found, stands}
use Rattle.stil_read.proofs.reader.read_stil.Goals as goal

pub returns-in-Ok-None : goal.returns-in-Ok-None
returns-in-Ok-None c = not_found c.args.bytes.now (rw c.in-Ok-None.field-0-is at c.in-Ok-None.ensures)

pub returns-in-Ok-false : goal.returns-in-Ok-false
returns-in-Ok-false c =
    let spelt = rw c.in-Ok-Some.field-0-is at c.in-Ok-Some.ensures in
    let refused = rw c.in-Ok-false.field-0-test at c.in-Ok-false.ensures in
    no_file c.args.bytes.now (file_of c.in-Ok-Some.parts) spelt refused

pub returns-then-same_tokens : goal.returns-then-same_tokens
returns-then-same_tokens c =
    let taken = rw c.in-Ok-true.field-0-test at c.in-Ok-true.ensures in
    stands c.args.bytes.now c.as_slice.result.now c.new-file.result (subst IsStilFile (sym c.new-file.ensures) taken) (c.as_slice.ensures.value ∙ c.in-Ok.ensures) c.if-same_tokens.ensures

pub returns-else-same_tokens : goal.returns-else-same_tokens
returns-else-same_tokens c =
    let spelt = rw c.in-Ok-Some.field-0-is at c.in-Ok-Some.ensures in
    differs c.args.bytes.now c.as_slice.result.now c.new-file.result (subst (λ (f : StilFile). IsSpelt f (tokens c.args.bytes.now)) (sym c.new-file.ensures) spelt) (c.as_slice.ensures.value ∙ c.in-Ok.ensures)
    c.if-same_tokens.ensures
