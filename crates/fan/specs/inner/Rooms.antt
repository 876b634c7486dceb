-- What is kept between two searches (private to this crate).
use Rattle.statement.specs.Netlists.{Netlist}
use Rattle.statement.specs.Patterns.{Holds}
use Rattle.pair_sim.specs.Rooms.{IsReusableLabelRoom}
use Rattle.head_lines.specs.Rooms.{IsReusableRoleRoom, IsReusableWantRoom}
use Rattle.fan.specs.declared.engine.FanRoom.{FanRoom}

-- the room serves searches of this netlist under these held inputs
abbrev pub IsReusableFanRoom : Netlist → Holds → FanRoom → Type 0
IsReusableFanRoom n holds r = IsReusableLabelRoom n holds r.labels × IsReusableRoleRoom n holds r.roles × IsReusableWantRoom n r.wants
