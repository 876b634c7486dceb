use Rattle.pair_sim.proofs.Free.{free_undecided}
use Rattle.pair_sim.proofs.laws.free_is_undecided.Goals as goal

pub returns : goal.returns
returns c f n holds path x w = free_undecided f n holds path x w
