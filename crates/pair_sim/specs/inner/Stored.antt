-- A simulation as it is stored.
use Rattle.std.specs.Prelude.{ℕ, ◌≡◌, ◌*◌, ◌≤◌, Bool, List, length, Option, Some}
use Rattle.statement.specs.declared.lines.Fault.{Fault}
use Rattle.statement.specs.Patterns.{Holds}
use Rattle.statement.specs.Netlists.{signals}
use Rattle.tri.specs.declared.labels.Label.{Label}
use Rattle.events.specs.Standing.{Standing}
use Rattle.pair_sim.specs.declared.levels.Level.{Level}
use Rattle.pair_sim.specs.inner.Levels.{IsKept}

-- The labels are kept, and there is room for four changes of each signal and for a decision on each.
pub record IsStored (f : Fault) (holds : Holds) (stuck : Option Fault) (row : List (Option Bool)) (levels : List Level) (names : List ℕ) (s : Standing Label) (level_room name_room : ℕ) : Type 0 where
  pub fault : stuck ≡ Some f
  pub kept : IsKept f s.netlist holds row levels names s.values s.trail
  pub changes_room : 4 * length (signals s.netlist) ≤ s.room
  pub levels_room : length (signals s.netlist) ≤ level_room
  pub names_room : 5 * length (signals s.netlist) ≤ name_room
