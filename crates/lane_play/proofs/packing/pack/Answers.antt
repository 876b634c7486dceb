use Rattle.std.proofs.Common.{arith}
use Rattle.lane_play.proofs.PackLemmas.{pack_done, pack_more}
use Rattle.lane_play.proofs.packing.pack.Goals as goal

pub loop-cell-preserved : goal.loop-cell-preserved
loop-cell-preserved c =
    pack_more c.args.machines.now c.args.places.now c.args.cells c.loop-cell.cell c.loop-cell.packed.items c.push.new.self.items c.pack_cell.result c.loop-cell-test.true c.requires.sized c.in_ok-push.ensures.items
    c.pack_cell.ensures c.loop-cell.invariant

pub returns : goal.returns
returns c =
    pack_done c.args.machines.now c.args.places.now c.args.cells c.loop-cell.cell c.loop-cell.packed.items c.loop-cell-test.false (let l = c.loop-cell.auto in omega arith) c.requires.sized c.loop-cell.invariant
