-- What is told of, and the words that it is told by.
use Rattle.std.specs.Prelude.{ℕ, ◌≡◌, ◌+◌, ◌<◌, ◌≤◌, ◌^◌, length}
use Rattle.std.specs.List.{All}
use Rattle.statement.specs.declared.lines.Fault.{Fault}
use Rattle.statement.specs.Netlists.{Netlist}
use Rattle.netlist.specs.Lines.{IsLineOf}
use Rattle.events.specs.Standing.{Standing}
use Rattle.observed_points.specs.Points.{ArePoints}
use Rattle.word_sim.specs.Words.{HasWidthsOf}
use Rattle.word_sim.specs.inner.Packed.{AreSettledWords}
use Rattle.transition_sim.specs.declared.telling.Task.{Task}

-- words of a netlist that settle, whatever is driven
pub record IsFrame (n : Netlist) (e : Standing ℕ) : Type 0 where
  pub netlist : e.netlist ≡ n
  pub settled : AreSettledWords n e.values

-- faults and patterns of a netlist with these points, few enough to be numbered
pub record IsTask (task : Task) : Type 0 where
  pub wide : All (HasWidthsOf task.core.now) task.patterns.now
  pub lines : All (λ (f : Fault). IsLineOf task.core.now f.line) task.faults.now
  pub few : length task.faults.now < 2 ^ 32
  pub count : length task.patterns.now + 64 ≤ 2 ^ 32
  pub points_are : ArePoints task.core.now task.points.now.seen.items task.points.now.first.items task.points.now.numbers.items
