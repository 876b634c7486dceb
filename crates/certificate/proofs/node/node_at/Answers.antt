use Rattle.certificate.proofs.NodeWords.{other_word}
use Rattle.certificate.proofs.node.node_at.Goals as goal

pub returns-in_default-letter_of : goal.returns-in_default-letter_of
returns-in_default-letter_of c =
    let word = c.in-Some.ensures in
    other_word c.args.names.now c.args.text.now word.0 c.in-Some.word.0.now c.in-Some.word.1.now word.1 word.2 c.in_default-letter_of.ensures
