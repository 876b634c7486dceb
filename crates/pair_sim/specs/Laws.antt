-- What bounds a path, the contract of a function of its name.
use Rattle.std.specs.Prelude.{ℕ, ◌≡◌, None}
use Rattle.statement.specs.declared.lines.Fault.{Fault}
use Rattle.statement.specs.Patterns.{Holds}
use Rattle.statement.specs.Netlists.{Netlist}
use Rattle.tri.specs.Paths.{Path, decisions, IsUnknown}

-- A signal that is X isn't decided: so a path on which each decision was made on an X decides no signal twice.
abbrev pub FreeIsUndecided : Type 0
FreeIsUndecided = (f : Fault) (n : Netlist) (holds : Holds) (path : Path) (x : ℕ) → IsUnknown f n holds path x → decisions path x ≡ None
