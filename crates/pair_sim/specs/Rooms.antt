-- What a simulation keeps beside its netlist and the held inputs.
use Rattle.std.specs.Prelude.{ℕ, Bool, List, Option}
use Rattle.statement.specs.declared.lines.Fault.{Fault}
use Rattle.statement.specs.Patterns.{Holds}
use Rattle.netlist.specs.Lines.{IsLineOf}
use Rattle.statement.specs.Netlists.{Netlist}
use Rattle.tri.specs.declared.labels.Label.{Label}
use Rattle.events.specs.Rooms.{Room as EventRoom, IsReusableRoom, standing_in}
use Rattle.pair_sim.specs.declared.levels.Level.{Level}
use Rattle.pair_sim.specs.inner.Reach.{IsReach}
use Rattle.pair_sim.specs.inner.Stored.{IsStored}

-- the fault of the last search, the rule of its labels, its decisions, the signals that changed, the labels themselves, and the observed points
-- with those that the fault may reach
pub record LabelRoom : Type 0 where
  pub fault : Fault
  pub stuck : Option Fault
  pub decided : List (Option Bool)
  pub levels : List Level
  pub names : List ℕ
  pub events : EventRoom Label
  pub level_room : ℕ
  pub name_room : ℕ
  pub seen : List ℕ
  pub first : List ℕ
  pub numbers : List ℕ
  pub known : Bool
  pub reached : List ℕ
  pub reach_room : ℕ

-- the room was left by labels of this netlist under these held inputs
pub record IsReusableLabelRoom (n : Netlist) (holds : Holds) (r : LabelRoom) : Type 0 where
  pub line : IsLineOf n r.fault.line
  pub serves : IsReusableRoom n r.events
  pub stored : IsStored r.fault holds r.stuck r.decided r.levels r.names (standing_in n r.events) r.level_room r.name_room
  pub reach : IsReach r.fault n holds r.seen r.first r.numbers r.known r.reached r.reach_room
