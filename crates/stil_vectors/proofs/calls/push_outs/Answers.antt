use Rattle.std.proofs.Common.{◌≡◌, ◌<◌, ◌≤◌, ◌+◌, ◌-◌, ◌++◌, drop, take, map, length, arith, ◌∙◌, ap, subst, List}
use Rattle.std.proofs.lemmas.List.{length-drop, take_all}
use Rattle.statement.specs.Benches.{Text}
use Rattle.statement.specs.declared.kinds.Tri.TheVariants.{X}
use Rattle.statement.specs.Tests.{column, strobed_value}
use Rattle.stil_write.specs.StilFiles.{item_at, words_of}
use Rattle.stil_vectors.specs.FileVectors.{values_of}
use Rattle.stil_vectors.proofs.CharLemmas.{all_at, behind_at, chars_more}
use Rattle.stil_vectors.proofs.calls.push_outs.Goals as goal

pub bounds-word-t : goal.bounds-word-t
bounds-word-t c = all_at (λ (word : Text). c.args.t < length word) (words_of (item_at c.args.items.now c.args.place)) c.loop-k.k c.word-word.result.now c.requires.long c.word-word.ensures

pub loop-k-preserved : goal.loop-k-preserved
loop-k-preserved c =
    let words = words_of (item_at c.args.items.now c.args.place) in
    let n = c.args.chains in
    let l : n ≤ c.loop-k.k = c.loop-k.auto.k in
    let next : (c.loop-k.k - n) + 1 ≡ (c.loop-k.k + 1) - n = omega (arith, l) in
    let more = chars_more strobed_value X (drop n words) (c.loop-k.k - n) c.args.t c.word-word.result.now c.args.outs.now.items c.loop-k.outs.items c.push.new.self.items c.value_of.result
    (behind_at words n c.loop-k.k c.word-word.result.now l c.word-word.ensures)
    (all_at (λ (word : Text). c.args.t < length word) words c.loop-k.k c.word-word.result.now c.requires.long c.word-word.ensures) c.loop-k.invariant c.value_of.ensures c.in_ok-push.ensures.items in
    subst (λ i. c.push.new.self.items ≡ c.args.outs.now.items ++ column X (map values_of (take i (drop n words))) c.args.t) next more

pub returns : goal.returns
returns c =
    let words = words_of (item_at c.args.items.now c.args.place) in
    let n = c.args.chains in
    let d = length-drop n words in
    let w = c.requires.words in
    let few : length (drop n words) ≤ c.loop-k.k - n = omega (arith, d, w) in
    c.loop-k.invariant ∙ ap (λ (ws : List Text). c.args.outs.now.items ++ column X (map values_of ws) c.args.t) (take_all (c.loop-k.k - n) (drop n words) few)
