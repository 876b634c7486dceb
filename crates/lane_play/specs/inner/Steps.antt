-- How far machines were played side by side.
use Rattle.std.specs.Prelude.{ℕ, ◌≡◌, ◌+◌, ◌<◌, Bool, cond, List, [], ◌∷◌, ◌++◌, length, replicate, Option}
use Rattle.std.specs.List.{slice_get}
use Rattle.statement.specs.declared.kinds.Tri.{Tri}
use Rattle.statement.specs.declared.kinds.Tri.TheVariants.{X}
use Rattle.statement.specs.declared.lines.Fault.{Fault}
use Rattle.statement.specs.Netlists.{Netlist, cells, signals}
use Rattle.netlist.specs.Settled.{at}
use Rattle.statement.specs.Values.{outs, next}
use Rattle.tri.specs.Settled.{tri_table}
use Rattle.scan_play.specs.declared.played.Played.{Played}
use Rattle.statement.specs.Runs.{Cycle, Runs}
use Rattle.scan_play.specs.Judging.{IsOpen, Judging, judged_in}
use Rattle.scan_play.specs.inner.Steps.{IsStep, PlaysOn}
use Rattle.lane_play.specs.Counted.{Counting, counted}
use Rattle.lane_play.specs.declared.packed.Lanes.{Lanes}
use Rattle.lane_play.specs.inner.Counts.{number_at}
use Rattle.lane_play.specs.inner.Lanes.{lanes, lanes_rule, unknown}
use Rattle.lane_play.specs.inner.Verdicts.{found_at}

-- a value for each cell, and one for each signal
abbrev pub AreSized : Netlist → List Lanes → List Lanes → Type 0
AreSized n state values = (length state ≡ length (cells n)) × (length values ≡ length (signals n))

-- A cycle of this number was played in which the outputs showed this: whatever is said of its strobes, for each machine it is the step of its own player.
abbrev pub AreSteps : List Fault → Netlist → List Lanes → List Lanes → Cycle → ℕ → List Lanes → Type 0
AreSteps faults n state after cycle number row =
    (k : ℕ) (says : Judging) → k < 128 → IsOpen says → IsStep says (slice_get faults k) n (lanes k state) (lanes k after) cycle number (judged_in says number 0 cycle.strobe (lanes k row))

-- what may be said of faults of a netlist, the cycles that were played with them, and what the machines' cells hold after these
abbrev pub Keeping : Type 1
Keeping = List Fault → Netlist → List Cycle → List Lanes → Type 0

-- where it held of as many cycles as `number`, it holds after one more of that number, in which this was strobed and shown
abbrev pub KeepsOn : Keeping → Keeping → ℕ → List Tri → List Lanes → Type 0
KeepsOn old new number strobes row =
    (faults : List Fault) (n : Netlist) (before : List Cycle) (state after : List Lanes) (cycle : Cycle) → length before ≡ number → cycle.strobe ≡ strobes
    → AreSteps faults n state after cycle number row → old faults n before state → new faults n (before ++ cycle ∷ []) after

-- a cycle of this number was played and heard: where it held of as many cycles as this number, it holds after this one more
pub record IsCyclePlayed (old new : Keeping) (faults : List Fault) (n : Netlist) (number : ℕ) (cycle : Cycle) (state after : List Lanes) : Type 0 where
  pub row : List Lanes
  pub heard : KeepsOn old new number cycle.strobe row
  pub steps : AreSteps faults n state after cycle number row

-- where as many cycles as `first` were played, it holds after these behind them
abbrev pub KeepsBehind : Keeping → Keeping → List Fault → Netlist → ℕ → List Cycle → List Lanes → List Lanes → Type 0
KeepsBehind old new faults n first cycles state after = (before : List Cycle) → length before ≡ first → old faults n before state → new faults n (before ++ cycles) after

-- whatever cycles come behind, it holds of them too
abbrev pub StaysKept : Keeping → Type 0
StaysKept kept = (faults : List Fault) (n : Netlist) (before behind : List Cycle) (state : List Lanes) → kept faults n before state → kept faults n (before ++ behind) state

-- a cycle with these values ended: what the outputs show, and what the cells hold after it
pub record AreEnded (faults : List Fault) (n : Netlist) (pulse : Bool) (values state after row : List Lanes) : Type 0 where
  pub shows : row ≡ outs (lanes_rule faults) n (at values unknown)
  pub ticked : after ≡ cond pulse (next (lanes_rule faults) n (at values unknown)) state

-- these cycles were played, from all cells X: each machine is as far as its own player
pub record ArePlayed (says : Judging) (faults : List Fault) (n : Netlist) (cycles : List Cycle) (state : List Lanes) (found : List (Option Played)) : Type 0 where
  pub size : length found ≡ length faults
  pub each : (k : ℕ) → k < length faults → PlaysOn says (slice_get faults k) n cycles 0 (replicate (length (cells n)) X) (lanes k state) (found_at found k)

-- These cycles were played, whatever comes behind them: the strobes that are counted of all are this number and those of the run that goes on from what the
-- cells then hold.
abbrev pub CountsOn : Counting → Option Fault → Netlist → List Cycle → List Tri → List Tri → ℕ → Type 0
CountsOn counts f n cycles state after number =
    (rest : List Cycle) (shown : List (List Tri)) → Runs tri_table f n state (cycles ++ rest) shown
    → (later : List (List Tri)) × Runs tri_table f n after rest later × (counted counts 0 (cycles ++ rest) shown ≡ number + counted counts (length cycles) rest later)

-- these cycles were played, from all cells X: each machine's count is that of its own run
pub record AreCountedOn (counts : Counting) (faults : List Fault) (n : Netlist) (cycles : List Cycle) (state : List Lanes) (numbers : List ℕ) : Type 0 where
  pub size : length numbers ≡ length faults
  pub each : (k : ℕ) → k < length faults → CountsOn counts (slice_get faults k) n cycles (replicate (length (cells n)) X) (lanes k state) (number_at numbers k)
