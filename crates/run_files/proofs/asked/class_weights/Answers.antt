use Rattle.std.proofs.Common.{◌<◌, length, arith}
use Rattle.std.proofs.lemmas.List.Elements.{All-get_or}
use Rattle.run_files.proofs.CountLemmas.{asked_early, weights_next}
use Rattle.run_files.proofs.asked.class_weights.Goals as goal

pub count_fault-requires-clause-fits : goal.count_fault-requires-clause-fits
count_fault-requires-clause-fits c =
    let i = c.loop-i.i in
    let classes = c.args.classes.now in
    let lt : i < length classes.numbers = omega (arith, c.requires.size.0, c.loop-i-test.true) in
    let class = c.class_of.result in
    let within : class < length classes.representatives =
    rw c.class_of.ensures (All-get_or (λ k. k < length classes.representatives) classes.numbers i 0 lt c.requires.within) in
    let few = asked_early classes.numbers c.args.faults.now i class in
    omega (arith, few, c.loop-i.invariant.each class within, c.loop-i-test.true, c.requires.size.1)

pub loop-i-preserved : goal.loop-i-preserved
loop-i-preserved c =
    let i = c.loop-i.i in
    let classes = c.args.classes.now in
    let lt : i < length classes.numbers = omega (arith, c.requires.size.0, c.loop-i-test.true) in
    record {
      size = omega (arith, c.count_fault.ensures.size, c.loop-i.invariant.size);
      each = λ class below.
          weights_next classes.numbers c.args.faults.now i c.class_of.result class _ _ lt c.loop-i-test.true c.class_of.ensures (c.loop-i.invariant.each class below)
          (c.count_fault.ensures.counted class);
    }
