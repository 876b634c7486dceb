use Rattle.std.proofs.Common.{◌≡◌, length, min, rules, arith}
use Rattle.std.proofs.lemmas.Slice.Zip.{zip_end}
use Rattle.std.specs.Iterator.Adapters.{zip_first, zip_second}
use Rattle.std.specs.Slice.Iter.{iter_rest}
use Rattle.list_core.proofs.WeightLemmas.{none_behind}
use Rattle.list_core.proofs.goals.detected_weight_of.Goals as goal

pub returns : goal.returns
returns c =
    let ws = c.args.weights.now in
    let vs = c.args.verdicts.now in
    let s = c.into_iter-class-iterator.result in
    let first : iter_rest (zip_first s) ≡ ws = search rules in
    let second : iter_rest (zip_second s) ≡ vs = search rules in
    let ended : length c.loop-class.yielded ≡ min (length ws) (length vs) =
    zip_end ws vs c.loop-class.yielded s c.loop-class.class-iterator c.next.new.self c.next.result first second c.loop-class.yielded_by c.in-None.is c.next.ensures.steps in
    omega (arith, none_behind ws vs (length c.loop-class.yielded) ended, c.loop-class.invariant.sum)
