-- Machines apart from each other, between the legs in which they are played side by side.
use Rattle.std.specs.Prelude.{ℕ, ◌≡◌, ◌≢◌, ◌<◌, ◌≤◌, ◌⊎◌, List, ◌++◌, length, replicate, Option, Some, None}
use Rattle.std.specs.List.{AllZip, slice_get}
use Rattle.statement.specs.declared.kinds.Tri.TheVariants.{X}
use Rattle.statement.specs.declared.lines.Fault.{Fault}
use Rattle.statement.specs.Netlists.{Netlist, cells}
use Rattle.scan_play.specs.declared.cycles.Burst.{Burst}
use Rattle.scan_play.specs.declared.played.Played.{Played}
use Rattle.statement.specs.Runs.{Cycle}
use Rattle.scan_play.specs.Bursts.{all_cycles}
use Rattle.scan_play.specs.Judging.{Judging}
use Rattle.scan_play.specs.inner.Steps.{PlaysOn}
use Rattle.lane_play.specs.declared.packing.Machine.{Machine}
use Rattle.lane_play.specs.declared.packed.Lanes.{Lanes}
use Rattle.lane_play.specs.inner.Lanes.{lanes}
use Rattle.lane_play.specs.inner.Steps.{ArePlayed}
use Rattle.lane_play.specs.inner.Verdicts.{found_at}

-- these cycles were played, from all cells X, with the fault at this place: so far is the machine
abbrev pub PlaysAt : Judging → List Fault → Netlist → List Cycle → ℕ → Machine → Type 0
PlaysAt says faults n cycles place m = PlaysOn says (slice_get faults place) n cycles 0 (replicate (length (cells n)) X) m.state.items m.said

-- In the midst of a leg: the machines before a place were played through it, the others through what was played before it.
pub record AreInLeg (says : Judging) (faults : List Fault) (n : Netlist) (played leg : List Burst) (start : ℕ) (machines : List Machine) : Type 0 where
  pub size : length machines ≡ length faults
  pub done : (place : ℕ) (m : Machine) → slice_get machines place ≡ Some m → place < start → PlaysAt says faults n (all_cycles played ++ all_cycles leg) place m
  pub others : (place : ℕ) (m : Machine) → slice_get machines place ≡ Some m → start ≤ place → PlaysAt says faults n (all_cycles played) place m

-- the places of those machines from one place up to another of which nothing was said
pub record AreOpen (machines : List Machine) (start end : ℕ) (places : List ℕ) : Type 0 where
  pub each : (k place : ℕ) → slice_get places k ≡ Some place → (start ≤ place) × (place < end) × ((m : Machine) → slice_get machines place ≡ Some m → m.said ≡ None)
  pub all : (place : ℕ) (m : Machine) → slice_get machines place ≡ Some m → start ≤ place → place < end → m.said ≡ None → (k : ℕ) × (slice_get places k ≡ Some place)

-- up to 128 such machines, behind which none is left out up to a place
pub record IsTeam (machines : List Machine) (start : ℕ) (places : List ℕ) (end : ℕ) : Type 0 where
  pub few : length places ≤ 128
  pub within : (start < end) × (end ≤ length machines)
  pub opens : AreOpen machines start end places

-- the faults at these places
abbrev pub AreLines : List Fault → List ℕ → List Fault → Type 0
AreLines faults places lines = AllZip (λ place f. slice_get faults place ≡ Some f) places lines

-- side by side the cells hold what each of the machines at these places holds
pub record ArePacked (machines : List Machine) (places : List ℕ) (cells : ℕ) (state : List Lanes) : Type 0 where
  pub size : length state ≡ cells
  pub each : (k place : ℕ) (m : Machine) → slice_get places k ≡ Some place → slice_get machines place ≡ Some m → lanes k state ≡ m.state.items

-- the machine is as far as machine k of those side by side
pub record IsFiled (state : List Lanes) (said : List (Option Played)) (k : ℕ) (m : Machine) : Type 0 where
  pub state_is : m.state.items ≡ lanes k state
  pub said_is : m.said ≡ found_at said k

-- each machine at one of the first so many of these places is as far as one of those side by side, and the others are as before
pub record AreFiled (places : List ℕ) (count : ℕ) (state : List Lanes) (said : List (Option Played)) (old new : List Machine) : Type 0 where
  pub size : length new ≡ length old
  pub each : (place : ℕ) (m : Machine) → slice_get new place ≡ Some m
      → ((slice_get old place ≡ Some m) × ((k : ℕ) → k < count → slice_get places k ≢ Some place)) ⊎ ((k : ℕ) × (k < count) × (slice_get places k ≡ Some place) × IsFiled state said k m)

-- these cycles were played with the machines at these places side by side, from all cells X: what was said of each, and what the cells hold
pub record IsTeamPlayed (says : Judging) (faults : List Fault) (n : Netlist) (cycles : List Cycle) (places : List ℕ) (state : List Lanes) (found : List (Option Played)) : Type 0 where
  pub lines : List Fault
  pub are_lines : AreLines faults places lines
  pub played : ArePlayed says lines n cycles state found
