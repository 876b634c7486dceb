use Rattle.std.proofs.Common.{◌≡◌, ◌≤◌, ◌+◌, ◌-◌, drop, take, length, arith, ◌∙◌, ap, subst, List}
use Rattle.std.proofs.lemmas.List.{length-drop, take_all}
use Rattle.statement.specs.Benches.{Text}
use Rattle.stil_write.specs.StilFiles.{item_at, words_of}
use Rattle.stil_vectors.specs.FileVectors.{together, values_of}
use Rattle.statement.specs.Tests.{strobed_value}
use Rattle.stil_vectors.proofs.CharLemmas.{behind_at, together_more}
use Rattle.stil_vectors.proofs.file_vectors.strobed.Goals as goal

pub loop-k-preserved : goal.loop-k-preserved
loop-k-preserved c =
    let words = words_of (item_at c.args.items.now c.args.place) in
    let n = c.args.start in
    let l : n ≤ c.loop-k.k = c.loop-k.auto.k in
    let next : (c.loop-k.k - n) + 1 ≡ (c.loop-k.k + 1) - n = omega (arith, l) in
    let more = together_more strobed_value (drop n words) (c.loop-k.k - n) c.word.result.now c.loop-k.values.items c.push_values.new.values.items
    (behind_at words n c.loop-k.k c.word.result.now l c.word.ensures) c.loop-k.invariant c.in_ok-push_values.ensures in
    subst (λ i. c.push_values.new.values.items ≡ values_of (together (take i (drop n words)))) next more

pub returns : goal.returns
returns c =
    let words = words_of (item_at c.args.items.now c.args.place) in
    let n = c.args.start in
    let d = length-drop n words in
    let few : length (drop n words) ≤ c.loop-k.k - n = omega (arith, d) in
    c.loop-k.invariant ∙ ap (λ (ws : List Text). values_of (together ws)) (take_all (c.loop-k.k - n) (drop n words) few)
