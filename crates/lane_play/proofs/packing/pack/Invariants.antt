use Rattle.lane_play.proofs.PackLemmas.{ArePackedUpTo}
use Rattle.lane_play.proofs.packing.pack.Given as goal

abbrev pub invariant-loop-cell : goal.invariant-loop-cell
invariant-loop-cell l = ArePackedUpTo l.machines l.places l.cell l.packed.items
