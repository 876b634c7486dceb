use Rattle.std.proofs.Common.{◌^◌, ◌<◌, bit_and, refl, arith}
use Rattle.std.proofs.lemmas.Nat.{and_le_r}
use Rattle.word_sim.specs.declared.shown.Shown.{Shown}
use Rattle.word_sim.specs.inner.Differences.{shows_under}
use Rattle.word_sim.proofs.Found.{none_last, some_last}
use Rattle.word_sim.proofs.shown.last_among.Goals as goal

pub returns-then-under-eq0 : goal.returns-then-under-eq0
returns-then-under-eq0 c = none_last shows_under (λ (s : Shown). s.point) c.args.count c.args.shown.now c.args.all c.args.used c.requires.all c.if-under-eq0.true

pub returns : goal.returns
returns c =
    let below = and_le_r c.args.all c.args.used in
    let fits = c.ranges.used in
    let small : bit_and c.args.all c.args.used < 2 ^ 64 = omega arith in
    some_last shows_under (λ (s : Shown). s.point) c.args.count c.args.shown.now c.args.all c.args.used c.requires.all _ c.first_under.result
    c.if-under-eq0.false small refl c.first_under.ensures
