-- What a search leaves to the next one for another fault of the netlist.
use Rattle.statement.specs.Netlists.{Netlist}
use Rattle.statement.specs.Patterns.{Holds}
use Rattle.pair_sim.specs.Rooms.{IsReusableLabelRoom}
use Rattle.podem.specs.declared.engine.PodemRoom.{PodemRoom}

-- its labels are as those of a room of the simulation
abbrev pub IsReusablePodemRoom : Netlist → Holds → PodemRoom → Type 0
IsReusablePodemRoom n holds r = IsReusableLabelRoom n holds r.labels
