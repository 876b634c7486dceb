use Rattle.std.proofs.Common.{arith, ◌∙◌, ◌≤◌, length}
use Rattle.std.proofs.lemmas.Option.{slice_get-get_or}
use Rattle.std.proofs.lemmas.Slice.Zip.{AllZip-long}
use Rattle.stil_write.specs.StilFiles.{IsWord, item_at, words_of}
use Rattle.stil_write.proofs.FormLemmas.{no_form, zip_at, zip_end, zip_more}
use Rattle.stil_write.proofs.forms.are_words.Goals as goal

pub returns-then-word_count-forms : goal.returns-then-word_count-forms
returns-then-word_count-forms c a =
    c.if-word_count-forms.true (c.word_count.ensures ∙ AllZip-long IsWord c.args.forms.now (words_of (item_at c.args.items.now c.args.place)) a)

pub returns-then-not-is_word : goal.returns-then-not-is_word
unfolding no_form
returns-then-not-is_word c a =
    c.if-not-is_word.ensures (zip_at IsWord c.args.forms.now (words_of (item_at c.args.items.now c.args.place)) c.loop-k.k _ c.word.result.now
    (slice_get-get_or c.args.forms.now c.loop-k.k no_form c.loop-k-test.true) c.word.ensures a)

pub loop-k-preserved : goal.loop-k-preserved
unfolding no_form
loop-k-preserved c =
    zip_more IsWord c.args.forms.now (words_of (item_at c.args.items.now c.args.place)) c.loop-k.k _ c.word.result.now
    (slice_get-get_or c.args.forms.now c.loop-k.k no_form c.loop-k-test.true) c.word.ensures c.loop-k.invariant c.if-not-is_word.ensures

pub returns : goal.returns
returns c =
    let few : length (words_of (item_at c.args.items.now c.args.place)) ≤ c.loop-k.k = omega arith in
    zip_end IsWord c.args.forms.now (words_of (item_at c.args.items.now c.args.place)) c.loop-k.k c.loop-k-test.false few c.loop-k.invariant
