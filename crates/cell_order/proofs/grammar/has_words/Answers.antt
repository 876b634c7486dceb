use Rattle.std.proofs.Common.{◌≡◌, ◌∷◌, ◌∙◌, ap, sym}
use Rattle.cell_order.specs.Orders.{is_word, words_of}
use Rattle.cell_order.proofs.LineLemmas.{all_word, bad_word, one_word, word_cut}
use Rattle.cell_order.proofs.grammar.has_words.Goals as goal

pub returns-then-not-is_word : goal.returns-then-not-is_word
returns-then-not-is_word c =
    let cut : words_of c.words.rest.now ≡ c.in-Some.word.now ∷ words_of c.in-Some.more.now =
    ap words_of c.in-Some.ensures.1 ∙ word_cut c.in-Some.word.now c.in-Some.more.now c.in-Some.ensures.0 in
    sym (c.words.invariant ∙ bad_word is_word c.words.rest.now c.in-Some.word.now c.in-Some.more.now cut c.is_word.result c.is_word.ensures c.if-not-is_word.true)

pub words-preserved : goal.words-preserved
words-preserved c =
    let cut : words_of c.words.rest.now ≡ c.in-Some.word.now ∷ words_of c.in-Some.more.now =
    ap words_of c.in-Some.ensures.1 ∙ word_cut c.in-Some.word.now c.in-Some.more.now c.in-Some.ensures.0 in
    c.words.invariant ∙ all_word is_word c.words.rest.now c.in-Some.word.now c.in-Some.more.now cut c.is_word.result c.is_word.ensures c.if-not-is_word.false

pub returns : goal.returns
returns c = c.is_word-2.ensures ∙ (sym (one_word is_word c.words.rest.now (rw c.in_default.is at c.split_at.ensures)) ∙ sym c.words.invariant)
