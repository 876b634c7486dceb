use Rattle.std.proofs.Common.{◌<◌, ◌≤◌, ◌+◌, ap, length, arith}
use Rattle.stil_vectors.proofs.PlayLemmas.{counted_over}
use Rattle.stil_vectors.proofs.playing.cycle_count.Goals as goal

pub returns-in-None : goal.returns-in-None
returns-in-None c =
    let f = c.args.file.now in
    let all = ap length c.items.ensures in
    let test = c.loop-place-test.true in
    let over = c.in-None.ensures in
    let within : c.loop-place.place < length f.items = omega (arith, all, test) in
    counted_over f c.loop-place.place c.loop-place.count c.cycles_at-more.result 18446744073709551616 within c.loop-place.invariant c.cycles_at-more.ensures (omega (arith, over))
