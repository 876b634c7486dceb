-- Patterns parted at a place, and put together again.
use Rattle.std.specs.Prelude.{ℕ, ◌≡◌, ◌-◌, List, ◌++◌, Option, length, map, take, drop}
use Rattle.std.specs.List.{AllZip}
use Rattle.statement.specs.declared.lines.Fault.{Fault}
use Rattle.statement.specs.declared.lines.Point.{Point}
use Rattle.statement.specs.Netlists.{Netlist}
use Rattle.statement.specs.Patterns.{Pattern}
use Rattle.word_sim.specs.Hits.{LastDetected}
use Rattle.word_sim.specs.Never.{unmarked}
use Rattle.fewer_patterns.specs.declared.fronts.Front.{Front}
use Rattle.fewer_patterns.specs.declared.fronts.ToldPatterns.{ToldPatterns}
use Rattle.fewer_patterns.specs.inner.Enough.{is_settled, is_told}
use Rattle.fewer_patterns.specs.inner.Joined.{joined, unsettled}

-- the patterns before the place, with the faults of which these are the last to detect each, and those behind
pub record IsFront (start : ℕ) (faults : List Fault) (patterns : List Pattern) (last : List (Option (ℕ × Point))) (front : Front) : Type 0 where
  pub before : front.made.patterns.items ≡ take start patterns
  pub behind : front.tail.items ≡ drop start patterns
  pub left : front.left.items ≡ unmarked (map (is_settled start) last) faults
  pub told : front.made.last.items ≡ unsettled start last

-- these patterns with the tail behind them, by what they tell of the faults that are left to them, and of those of which nothing was told
pub record AreJoined (n : Netlist) (start : ℕ) (faults : List Fault) (last : List (Option (ℕ × Point))) (front : List Pattern) (told : List (Option (ℕ × Point))) (tail : List Pattern)
    (all : ToldPatterns) : Type 0 where
  pub never : List (Option (ℕ × Point))
  pub tells : AllZip (LastDetected n front) (unmarked (map is_told last) faults) never
  pub patterns : all.patterns.items ≡ front ++ tail
  pub lasts : all.last.items ≡ joined start (start - length front) last told never
