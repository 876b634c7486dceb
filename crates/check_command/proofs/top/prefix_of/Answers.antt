use Rattle.check_command.proofs.Words.{no_word, second_word}
use Rattle.check_command.proofs.top.prefix_of.Goals as goal

pub returns-then-words-eq2 : goal.returns-then-words-eq2
returns-then-words-eq2 c = second_word c.args.words.now _ _ _ c.if-words-eq2.true c.index-words-1.is c.as_str.ensures.value

pub returns-else-words-eq2 : goal.returns-else-words-eq2
returns-else-words-eq2 c = no_word c.args.words.now c.if-words-eq2.false
