-- Faults that are known never to be detected, and those that are left beside them.
use Rattle.std.specs.Prelude.{ℕ, ◌≡◌, Bool, true, false, List, [], ◌∷◌, cond, length, Some, slice_index_or}
use Rattle.std.specs.List.{slice_get}
use Rattle.statement.specs.declared.lines.Fault.{Fault}
use Rattle.statement.specs.Netlists.{Netlist}
use Rattle.statement.specs.Patterns.{Pattern}
use Rattle.word_sim.specs.Hits.{IsNeverDetected}

-- no pattern detects a fault that is marked
pub record AreNever (n : Netlist) (patterns : List Pattern) (faults : List Fault) (marks : List Bool) : Type 0 where
  pub size : length marks ≡ length faults
  pub each : (k : ℕ) (f : Fault) → slice_get faults k ≡ Some f → slice_index_or marks k false ≡ true → IsNeverDetected n patterns f

-- the faults that aren't marked, in order
abbrev pub unmarked : List Bool → List Fault → List Fault
unmarked [] faults = []
unmarked (m ∷ ms) [] = []
unmarked (m ∷ ms) (f ∷ fs) = cond m (unmarked ms fs) (f ∷ unmarked ms fs)
