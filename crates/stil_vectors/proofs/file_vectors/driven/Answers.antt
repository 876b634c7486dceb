use Rattle.stil_write.specs.StilFiles.{item_at, words_of}
use Rattle.statement.specs.Tests.{driven_bit}
use Rattle.stil_vectors.proofs.CharLemmas.{together_more}
use Rattle.stil_vectors.proofs.file_vectors.driven.Goals as goal

pub loop-k-preserved : goal.loop-k-preserved
loop-k-preserved c =
    together_more driven_bit (words_of (item_at c.args.items.now c.args.place)) c.loop-k.k c.word.result.now c.loop-k.bits.items c.push_bits.new.bits.items c.word.ensures c.loop-k.invariant c.in_ok-push_bits.ensures
