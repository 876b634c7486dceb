-- What a check keeps beside its netlist and the held inputs.
use Rattle.std.specs.Prelude.{ℕ, List}
use Rattle.statement.specs.Netlists.{Netlist}
use Rattle.statement.specs.Patterns.{Holds}
use Rattle.refutation_check.specs.inner.Marks.{Marked}
use Rattle.refutation_check.specs.inner.Starting.{IsIdle}
use Rattle.refutation_check.specs.inner.Trails.{Trailed}

-- the signals that are held or have no pins, what signals may have, and the marked ones
pub record MarkRoom : Type 0 where
  pub fixed : List ℕ
  pub sets : Trailed
  pub marked : Marked

-- the room was left by a check over this netlist under these held inputs
abbrev pub IsReusableCheckRoom : Netlist → Holds → MarkRoom → Type 0
IsReusableCheckRoom n holds r = IsIdle n holds r.fixed r.sets r.marked
