use Rattle.std.proofs.Common.{◌≡◌, ◌∷◌, ◌++◌, ◌∙◌, ap}
use Rattle.cell_order.specs.Orders.{words_of}
use Rattle.cell_order.specs.inner.Reads.{texts_in}
use Rattle.cell_order.proofs.LineLemmas.{word_cut, word_last}
use Rattle.cell_order.proofs.NameLemmas.{last_one, one_more}
use Rattle.cell_order.proofs.naming.push_words.Goals as goal

pub words-preserved : goal.words-preserved
words-preserved c =
    let cut : words_of c.words.rest.now ≡ c.in-Some.word.now ∷ words_of c.in-Some.more.now =
    ap words_of c.in-Some.ensures.1 ∙ word_cut c.in-Some.word.now c.in-Some.more.now c.in-Some.ensures.0 in
    one_more c.words.names.items c.push.new.self.items c.in-Some.word (words_of c.words.rest.now) (words_of c.in-Some.more.now) (texts_in c.args.names.now.items ++ words_of c.args.line.now)
    c.in_ok-push.ensures.items cut c.words.invariant

pub returns : goal.returns
returns c =
    last_one c.words.names.items c.push-2.new.self.items c.words.rest (words_of c.words.rest.now) (texts_in c.args.names.now.items ++ words_of c.args.line.now)
    c.in_ok-push-2.ensures.items (word_last c.words.rest.now (rw c.in_default.is at c.split_at.ensures)) c.words.invariant
