-- What a search is about: a fault of a netlist under held inputs.
use Rattle.std.specs.Prelude.{[]}
use Rattle.netlist.specs.Conditions.{IsSound}
use Rattle.netlist.specs.Holds.{AreHoldsOf}
use Rattle.tri.specs.Paths.{Path}
use Rattle.pair_sim.specs.Sims.{Sim, sim}
use Rattle.decisions.specs.declared.cases.Case.{Case}

-- the netlist is one, and it is its inputs that are held
pub record IsCase (c : Case) : Type 0 where
  pub sound : IsSound c.core.now
  pub fit : AreHoldsOf c.core.now c.holds.now

-- the simulation of a case after these decisions, and before any
abbrev pub sim_of : Case → Path → Sim
sim_of c path = sim c.core.now c.fault c.holds.now path

abbrev pub start : Case → Sim
start c = sim_of c []
