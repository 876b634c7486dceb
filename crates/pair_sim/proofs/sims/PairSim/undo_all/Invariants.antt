use Rattle.std.proofs.Common.{◌≡◌, length}
use Rattle.pair_sim.proofs.sims.PairSim.undo_all.Given as goal

abbrev pub invariant-loop-self : goal.invariant-loop-self
invariant-loop-self l = (l.self.netlist ≡ l.initial.self.netlist) × (l.self.fault ≡ l.initial.self.fault) × (l.self.holds ≡ l.initial.self.holds)

abbrev pub decreases-loop-self : goal.decreases-loop-self
decreases-loop-self l = length l.self.path
