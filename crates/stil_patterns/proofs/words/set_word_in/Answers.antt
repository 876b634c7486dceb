use Rattle.std.proofs.Common.{false, arith}
use Rattle.statement.specs.Tests.{word_in, char_of_bit}
use Rattle.stil_patterns.proofs.FileLemmas.{length-word_in}
use Rattle.stil_patterns.proofs.WordLemmas.{char_more, chars_end}
use Rattle.stil_patterns.proofs.words.set_word_in.Goals as goal

pub loop-t-preserved : goal.loop-t-preserved
loop-t-preserved c =
    let size = length-word_in c.args.m c.args.own.now c.requires in
    let test = c.loop-t-test.true in
    char_more char_of_bit false (word_in c.args.m c.args.own.now) c.loop-t.t c.loop-t.word.items c.push.new.self.items c.bit_in.result c.char_of_bit.result
    (omega (arith, size, test)) c.loop-t.invariant c.bit_in.ensures c.char_of_bit.ensures c.in_ok-push.ensures.items

pub returns : goal.returns
returns c =
    let size = length-word_in c.args.m c.args.own.now c.requires in
    let test = c.loop-t-test.false in
    chars_end char_of_bit (word_in c.args.m c.args.own.now) c.loop-t.t c.loop-t.word.items (omega (arith, size, test)) c.loop-t.invariant
