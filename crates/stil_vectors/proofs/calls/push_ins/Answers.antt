use Rattle.std.proofs.Common.{◌<◌, false, length, arith, ◌∙◌}
use Rattle.statement.specs.Benches.{Text}
use Rattle.stil_write.specs.StilFiles.{item_at, words_of}
use Rattle.statement.specs.Tests.{driven_bit}
use Rattle.stil_vectors.proofs.CharLemmas.{all_at, chars_more}
use Rattle.stil_vectors.proofs.calls.push_ins.Goals as goal

pub bounds-word-t : goal.bounds-word-t
bounds-word-t c = all_at (λ (word : Text). c.args.t < length word) (words_of (item_at c.args.items.now c.args.place)) c.loop-chain.chain c.word-word.result.now c.requires.long c.word-word.ensures

pub loop-chain-preserved : goal.loop-chain-preserved
loop-chain-preserved c =
    let words = words_of (item_at c.args.items.now c.args.place) in
    chars_more driven_bit false words c.loop-chain.chain c.args.t c.word-word.result.now c.args.ins.now.items c.loop-chain.ins.items c.push.new.self.items c.bit_of.result c.word-word.ensures
    (all_at (λ (word : Text). c.args.t < length word) words c.loop-chain.chain c.word-word.result.now c.requires.long c.word-word.ensures) c.loop-chain.invariant c.bit_of.ensures c.in_ok-push.ensures.items
