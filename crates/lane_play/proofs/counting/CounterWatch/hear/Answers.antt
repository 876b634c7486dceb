use Rattle.std.proofs.Common.{arith}
use Rattle.lane_play.specs.Counted.{on_one, on_other}
use Rattle.lane_play.proofs.CountedLemmas.{blind_one, blind_other, counts_keep}
use Rattle.lane_play.proofs.counting.CounterWatch.hear.Goals as goal

pub returns : goal.returns
returns g c = λ faults n before state after cycle at same steps h.
    let says = g.S.Judge.says c.args.judge.now in
    let side = g.S.Sides.side c.args.judge.now in
    let opens = g.met.S.Judge.open c.args.judge.now in
    let old = c.args.self.counts in
    let new = c.in_ok-counts.counts in
    let e = c.in_ok-counts.ensures in (
      counts_keep (on_one says side) (blind_one says side opens) c.args.number c.args.strobes.now c.args.shown.now old.one.items new.one.items (let z = e.one.size in let f = c.args.self.one in omega arith) e.one
          faults n before state after cycle at same steps h.0,
      counts_keep (on_other says side) (blind_other says side opens) c.args.number c.args.strobes.now c.args.shown.now old.other.items new.other.items (let z = e.other.size in let f = c.args.self.other in omega arith) e.other
          faults n before state after cycle at same steps h.1,
    )
