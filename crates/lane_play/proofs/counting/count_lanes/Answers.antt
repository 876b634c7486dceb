use Rattle.std.proofs.Common.{refl, subst}
use Rattle.netlist.specs.Conditions.{IsSound}
use Rattle.lane_play.specs.Counted.{on_one, on_other}
use Rattle.lane_play.proofs.CountedLemmas.{counted_all, counts_begin}
use Rattle.lane_play.proofs.counting.count_lanes.Goals as goal

pub play-requires-clause-begun : goal.play-requires-clause-begun
play-requires-clause-begun g c =
    let says = g.S.Judge.says c.args.sides.now in
    let side = g.S.Sides.side c.args.sides.now in
    let n = c.args.core.now in
    let m = c.requires.machines in (
      counts_begin (on_one says side) c.args.faults.now n _ c.in_ok-one.one.items m refl c.in_ok-one.ensures,
      counts_begin (on_other says side) c.args.faults.now n _ c.in_ok-other.other.items m refl c.in_ok-other.ensures,
    )

pub returns-clause-one : goal.returns-clause-one
returns-clause-one g c =
    let says = g.S.Judge.says c.args.sides.now in
    let side = g.S.Sides.side c.args.sides.now in
    let h = c.in_ok-counts.ensures in
    counted_all (on_one says side) c.args.faults.now c.args.core.now c.args.vectors.now h.0 c.in_ok-counts.field-0.counts.one.items (subst IsSound c.netlist.ensures c.sound.ensures) c.requires.fits h.1.0

pub returns-clause-other : goal.returns-clause-other
returns-clause-other g c =
    let says = g.S.Judge.says c.args.sides.now in
    let side = g.S.Sides.side c.args.sides.now in
    let h = c.in_ok-counts.ensures in
    counted_all (on_other says side) c.args.faults.now c.args.core.now c.args.vectors.now h.0 c.in_ok-counts.field-0.counts.other.items (subst IsSound c.netlist.ensures c.sound.ensures) c.requires.fits h.1.1
