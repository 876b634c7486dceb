use Rattle.std.proofs.Common.{sym, ◌∙◌, arith}
use Rattle.std.specs.Prelude.{IsTrue}
use Rattle.std.proofs.lemmas.List.Elements.{All-more}
use Rattle.stil_write.specs.StilFiles.{is_stil_name_byte}
use Rattle.stil_write.proofs.LoopLemmas.{all_at_end}
use Rattle.stil_write.proofs.FormLemmas.{some_if}
use Rattle.stil_write.proofs.checking.is_name.Goals as goal

pub loop-b-preserved : goal.loop-b-preserved
loop-b-preserved c =
    All-more (λ b. IsTrue (is_stil_name_byte b)) c.args.text.now c.loop-b.b-index 0 c.loop-b-test.true c.loop-b.invariant (sym c.is_name_byte.ensures ∙ c.if-not-is_name_byte.false)

pub returns : goal.returns
returns c = record {
  some = some_if c.args.text.now (sym c.if-is_empty.ensures);
  short = omega arith;
  bytes = all_at_end (λ b. IsTrue (is_stil_name_byte b)) c.args.text.now c.loop-b.b-index (omega arith) c.loop-b.invariant;
}
