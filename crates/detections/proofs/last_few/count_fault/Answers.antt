use Rattle.std.proofs.Common.{◌≡◌, ◌+◌, length, subst, arith}
use Rattle.detections.specs.inner.Counting.{CountsOn}
use Rattle.detections.proofs.Counts.{count_enough}
use Rattle.detections.proofs.Parts.{tells_places}
use Rattle.detections.proofs.last_few.count_fault.Goals as goal

pub returns-then-times-most-clause-counted : goal.returns-then-times-most-clause-counted
returns-then-times-most-clause-counted c patterns is =
    count_enough c.args.core.now patterns c.args.most c.args.fault.now c.args.start (c.args.start + length c.args.part.now) c.args.times c.args.needed.now.items (omega arith) c.if-times-most.true

pub returns-clause-counted : goal.returns-clause-counted
returns-clause-counted c patterns is =
    let e : c.args.start + 0 ≡ c.args.start = omega arith in
    subst (λ i. CountsOn c.args.core.now patterns c.args.most i (c.args.start + length c.args.part.now) c.args.fault.now c.args.times c.count_word.result c.args.needed.now.items c.count_word.new.needed.items) e
    (c.count_word.ensures.counts c.args.core.now patterns c.args.fault.now
    (tells_places c.args.core.now patterns c.args.part.now c.args.start is c.args.fault.now c.word-word.result c.word-word.ensures.told))
