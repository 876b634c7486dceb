use Rattle.std.proofs.Common.{sym, subst}
use Rattle.netlist.specs.Lines.{IsLineOf}
use Rattle.pair_sim.specs.Sims.{Sim}
use Rattle.podem.proofs.engine.room_of.Goals as goal

pub into_room-requires : goal.into_room-requires
into_room-requires c = subst (λ (s : Sim). IsLineOf s.netlist s.fault.line) (sym c.requires.kept) c.requires.line
