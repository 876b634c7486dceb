-- What a simulator has between two batches.
use Rattle.std.specs.Prelude.{ℕ, List, Option, IfSome}
use Rattle.statement.specs.Netlists.{Netlist}
use Rattle.events.specs.Standing.{Standing}
use Rattle.regions.specs.declared.fours.Four.{Four}
use Rattle.observed_points.specs.Points.{ArePoints}
use Rattle.word_sim.specs.inner.Groups.{HasRoom, IsBeside}
use Rattle.word_sim.specs.inner.Packed.{AreSettledWords}

-- what a simulator has between two batches: words that settle without a fault, an evaluator of
-- four words at rest where there is one, the points of the netlist, and room for its heads
pub record CanSimulate (n : Netlist) (values : List ℕ) (wide : Option (Standing Four)) (seen first numbers heads opens : List ℕ) : Type 0 where
  pub settled : AreSettledWords n values
  pub beside : IfSome wide (IsBeside n)
  pub points_are : ArePoints n seen first numbers
  pub room : HasRoom n heads opens
