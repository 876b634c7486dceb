use Rattle.std.proofs.Common.{◌^◌, ◌<◌, bit_and, refl, arith}
use Rattle.std.proofs.lemmas.Nat.{and_le_r}
use Rattle.word_sim.proofs.Found.{none_differing, some_differing}
use Rattle.word_sim.proofs.detecting.last_differing.Goals as goal

pub returns-then-seen-eq0 : goal.returns-then-seen-eq0
returns-then-seen-eq0 c = none_differing c.args.differ c.args.used c.args.number c.if-seen-eq0.true

pub returns : goal.returns
returns c =
    let below = and_le_r c.args.differ c.args.used in
    let fits = c.ranges.used in
    let small : bit_and c.args.differ c.args.used < 2 ^ 64 = omega arith in
    some_differing c.args.differ c.args.used c.args.number _ c.if-seen-eq0.false small refl
