use Rattle.lane_play.proofs.PackLemmas.{IsCellPacked}
use Rattle.lane_play.proofs.packing.pack_cell.Given as goal

abbrev pub invariant-loop-k : goal.invariant-loop-k
invariant-loop-k l = IsCellPacked l.machines l.places l.cell l.k l.packed
