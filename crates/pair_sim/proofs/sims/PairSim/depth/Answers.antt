use Rattle.std.proofs.Common.{ap, length, arith}
use Rattle.pair_sim.specs.Sims.{Sim}
use Rattle.pair_sim.proofs.Faulting.{depth_is}
use Rattle.pair_sim.proofs.sims.PairSim.depth.Goals as goal

pub returns : goal.returns
returns c =
    let a = c.len.ensures in
    let v = c.self.inside.levels.ok.0 in
    let d = depth_is c.self.inside.levels.items in
    let e = ap (λ (s : Sim). length s.path) c.self.view_is in
    omega arith
