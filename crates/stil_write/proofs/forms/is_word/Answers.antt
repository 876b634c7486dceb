use Rattle.std.proofs.Common.{sym, ◌∙◌, arith}
use Rattle.std.specs.Prelude.{IsTrue}
use Rattle.std.proofs.lemmas.List.Elements.{All-more}
use Rattle.stil_write.specs.StilFiles.{is_value}
use Rattle.stil_write.proofs.LoopLemmas.{all_at_end}
use Rattle.stil_write.proofs.forms.is_word.Goals as goal

pub loop-b-preserved : goal.loop-b-preserved
loop-b-preserved c =
    All-more (λ b. IsTrue (is_value c.args.form.values b)) c.args.word.now c.loop-b.b-index 0 c.loop-b-test.true c.loop-b.invariant (sym c.is_value.ensures ∙ c.if-not-is_value.false)

pub returns : goal.returns
returns c = (c.if-word-form.false, all_at_end (λ b. IsTrue (is_value c.args.form.values b)) c.args.word.now c.loop-b.b-index (omega arith) c.loop-b.invariant)
