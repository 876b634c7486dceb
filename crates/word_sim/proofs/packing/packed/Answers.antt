use Rattle.std.proofs.Common.{arith}
use Rattle.word_sim.proofs.PackedLemmas.{packed_all}
use Rattle.word_sim.proofs.packing.packed.Goals as goal

pub returns : goal.returns
returns c =
    let high = c.loop-place-test.false in
    let low = c.loop-place.auto.place-end in
    packed_all c.args.part c.args.patterns.now c.args.width c.loop-place.place c.loop-place.words.items c.requires.few c.loop-place.invariant.0 (omega arith) c.loop-place.invariant.1
