use Rattle.std.proofs.Common.{◌^◌, ◌<◌, ℕ, bit_and, get_or, refl, arith}
use Rattle.std.proofs.lemmas.Nat.{and_le_r}
use Rattle.events.specs.declared.trails.Change.{Change}
use Rattle.word_sim.specs.inner.Differences.{shows}
use Rattle.word_sim.proofs.Found.{none_last, some_last}
use Rattle.word_sim.proofs.detecting.last_shown.Goals as goal

pub returns-then-shown-eq0 : goal.returns-then-shown-eq0
returns-then-shown-eq0 c =
    none_last (shows c.args.first.now c.args.count c.args.values.now) (λ (d : Change ℕ). get_or c.args.first.now d.signal 0) c.args.count c.args.trail.now c.all_shown.result c.args.used c.all_shown.ensures c.if-shown-eq0.true

pub returns : goal.returns
returns c =
    let below = and_le_r c.all_shown.result c.args.used in
    let fits = c.ranges.used in
    let small : bit_and c.all_shown.result c.args.used < 2 ^ 64 = omega arith in
    some_last (shows c.args.first.now c.args.count c.args.values.now) (λ (d : Change ℕ). get_or c.args.first.now d.signal 0) c.args.count c.args.trail.now c.all_shown.result c.args.used c.all_shown.ensures
    _ c.first_shown.result c.if-shown-eq0.false small refl c.first_shown.ensures
