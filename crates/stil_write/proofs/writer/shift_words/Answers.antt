use Rattle.std.proofs.Common.{ap, length, ◌∙◌, ◌++◌, ◌∷◌, [], replicate}
use Rattle.statement.specs.Benches.{Text}
use Rattle.stil_write.proofs.ShiftLemmas.{made}
use Rattle.stil_write.proofs.writer.shift_words.Goals as goal

pub returns : goal.returns
returns c =
    made c.args.file.now (length c.chains-chains.result.now) c.min.result c.deref.result.now c.new-words.result c.push.new.self c.push_words.new.words c.push_words-2.new.words c.push-2.new.self c.push_words-3.new.words
    (ap length c.chains-chains.ensures) c.min.ensures (c.deref.ensures.value ∙ c.in_ok-strobes.ensures.items_if_clones_equal (λ y h. h) ∙ ap (λ n. replicate n 88) (c.len.ensures ∙ ap length c.po.ensures)) c.new-words.ensures
    (c.in_ok-push.ensures.ok ∙ ap (λ (w : Text). c.new-words.result ++ w ∷ []) c.shift_word.ensures) c.in_ok-push_words.ensures c.in_ok-push_words-2.ensures c.in_ok-push-2.ensures.ok c.in_ok-push_words-3.ensures
