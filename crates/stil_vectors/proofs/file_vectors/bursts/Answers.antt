use Rattle.std.proofs.Common.{◌<◌, ◌≤◌, length, arith, ap, ◌∙◌, List}
use Rattle.std.specs.List.{flat_map}
use Rattle.std.proofs.lemmas.List.{take_all}
use Rattle.statement.specs.Stils.{Item}
use Rattle.statement.specs.Tests.{cycles_of_item}
use Rattle.stil_vectors.proofs.VectorLemmas.{bursts_more}
use Rattle.stil_vectors.proofs.file_vectors.bursts.Goals as goal

pub item_burst-requires : goal.item_burst-requires
item_burst-requires c = let n = ap length c.items.ensures in omega (arith, n)

pub loop-place-preserved : goal.loop-place-preserved
loop-place-preserved c =
    let n = ap length c.items.ensures in
    let l : c.loop-place.place < length c.args.file.now.items = omega (arith, n) in
    bursts_more c.args.file.now c.args.file.now.items c.loop-place.place c.loop-place.bursts.items c.push.new.self.items c.in_ok-burst.burst l c.loop-place.invariant c.in_ok-burst.ensures c.in_ok-push.ensures.items

pub returns : goal.returns
returns c =
    let n = ap length c.items.ensures in
    let few : length c.args.file.now.items ≤ c.loop-place.place = omega (arith, n) in
    c.loop-place.invariant ∙ ap (λ (is : List Item). flat_map (cycles_of_item c.args.file.now) is) (take_all c.loop-place.place c.args.file.now.items few)
