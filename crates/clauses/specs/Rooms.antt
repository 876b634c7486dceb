-- What a search leaves to the next one for another fault of the netlist.
use Rattle.statement.specs.Netlists.{Netlist}
use Rattle.statement.specs.Patterns.{Holds}
use Rattle.podem.specs.Rooms.{IsReusablePodemRoom}
use Rattle.refutation_check.specs.Rooms.{IsReusableCheckRoom}
use Rattle.clauses.specs.declared.engine.Judges.{Judges}
use Rattle.clauses.specs.declared.engine.ClauseRoom.{ClauseRoom}

-- PODEM and the check left theirs
pub record AreReusable (n : Netlist) (holds : Holds) (j : Judges) : Type 0 where
  pub podem : IsReusablePodemRoom n holds j.podem
  pub checks : IsReusableCheckRoom n holds j.checks

-- and what the search that learns clauses left may be anything
abbrev pub IsReusableClauseRoom : Netlist → Holds → ClauseRoom → Type 0
IsReusableClauseRoom n holds r = AreReusable n holds r.judges
