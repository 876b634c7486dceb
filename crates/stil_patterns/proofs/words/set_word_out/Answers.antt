use Rattle.std.proofs.Common.{arith}
use Rattle.statement.specs.declared.kinds.Tri.TheVariants.{X}
use Rattle.statement.specs.Tests.{word_out, char_of_value}
use Rattle.stil_patterns.proofs.FileLemmas.{length-word_out}
use Rattle.stil_patterns.proofs.WordLemmas.{char_more, chars_end}
use Rattle.stil_patterns.proofs.words.set_word_out.Goals as goal

pub loop-t-preserved : goal.loop-t-preserved
loop-t-preserved c =
    let size = length-word_out c.args.m c.args.own.now c.requires in
    let test = c.loop-t-test.true in
    char_more char_of_value X (word_out c.args.m c.args.own.now) c.loop-t.t c.loop-t.word.items c.push.new.self.items c.value_out.result c.char_of_value.result
    (omega (arith, size, test)) c.loop-t.invariant c.value_out.ensures c.char_of_value.ensures c.in_ok-push.ensures.items

pub returns : goal.returns
returns c =
    let size = length-word_out c.args.m c.args.own.now c.requires in
    let test = c.loop-t-test.false in
    chars_end char_of_value (word_out c.args.m c.args.own.now) c.loop-t.t c.loop-t.word.items (omega (arith, size, test)) c.loop-t.invariant
