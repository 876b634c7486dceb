-- How far the player has come.
use Rattle.std.specs.Prelude.{ℕ, ◌≡◌, ◌+◌, Bool, cond, List, ◌++◌, length, Option, MatchOption, Some}
use Rattle.statement.specs.declared.kinds.Tri.{Tri}
use Rattle.statement.specs.declared.kinds.Tri.TheVariants.{X}
use Rattle.statement.specs.declared.lines.Fault.{Fault}
use Rattle.statement.specs.Netlists.{Netlist, cells}
use Rattle.netlist.specs.Settled.{at}
use Rattle.statement.specs.Values.{outs, next}
use Rattle.tri.specs.Settled.{tri_table, tris}
use Rattle.scan_play.specs.declared.played.Played.{Played}
use Rattle.statement.specs.Runs.{Cycle, Ticks, Runs}
use Rattle.scan_play.specs.Judging.{Judging, judged, judged_in}

-- a cycle of this number was played: what is unmet in it, and what the cells hold after it
pub record IsStep (says : Judging) (f : Option Fault) (n : Netlist) (state after : List Tri) (cycle : Cycle) (number : ℕ) (found : Option Played) : Type 0 where
  pub size : length after ≡ length (cells n)
  pub outcome : (shown next : List Tri) → Ticks tri_table f n state cycle shown next → (judged_in says number 0 cycle.strobe shown ≡ found) × (next ≡ after)

-- a cycle of this number with these values ended: what is said of the outputs, and what the cells hold after it
pub record IsEnded (says : Judging) (f : Option Fault) (n : Netlist) (pulse : Bool) (number : ℕ) (strobe values state after : List Tri) (found : Option Played) : Type 0 where
  pub said : found ≡ judged_in says number 0 strobe (outs (tris f) n (at values X))
  pub ticked : after ≡ cond pulse (next (tris f) n (at values X)) state

-- These cycles were played, whatever comes behind them: a strobe of one is unmet, or all are met and the run goes on from what the cells then hold.
pub record PlaysOn (says : Judging) (f : Option Fault) (n : Netlist) (cycles : List Cycle) (first : ℕ) (state after : List Tri) (found : Option Played) : Type 0 where
  pub size : length after ≡ length (cells n)
  pub outcome : (rest : List Cycle) (shown : List (List Tri)) → Runs tri_table f n state (cycles ++ rest) shown
      → MatchOption found
      ((later : List (List Tri)) × Runs tri_table f n after rest later × (judged says first (cycles ++ rest) shown ≡ judged says (first + length cycles) rest later))
      (λ p. judged says first (cycles ++ rest) shown ≡ Some p)
