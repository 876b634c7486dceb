-- What all rounds are given, and patterns that do as it says.
use Rattle.std.specs.Prelude.{ℕ, ◌<◌, ◌≤◌, ◌+◌, ◌^◌, List}
use Rattle.std.specs.List.{All}
use Rattle.statement.specs.declared.lines.Fault.{Fault}
use Rattle.netlist.specs.Holds.{AreHoldsOf}
use Rattle.netlist.specs.Lines.{IsLineOf}
use Rattle.fewer_patterns.specs.declared.aims.Aim.{Aim}
use Rattle.fewer_patterns.specs.declared.fronts.Made.{Made}
use Rattle.fewer_patterns.specs.inner.Enough.{AreEnough}

-- held inputs of the netlist and faults of it; no more patterns than are simulated, and some worker
pub record IsAim (a : Aim) : Type 0 where
  pub held : AreHoldsOf a.core.now a.holds.now
  pub lines : All (λ (f : Fault). IsLineOf a.core.now f.line) a.faults.now
  pub few : a.most + 64 ≤ 2 ^ 32
  pub workers : 0 < a.rounds.workers

-- patterns that detect each of its faults, and are no more than it allows
abbrev pub IsEnough : Aim → Made → Type 0
IsEnough a made = AreEnough a.core.now a.holds.now a.faults.now a.most made.patterns.items made.last.items

-- the same of these faults, and of so many patterns at most
abbrev pub IsEnoughFor : Aim → List Fault → ℕ → Made → Type 0
IsEnoughFor a faults most made = AreEnough a.core.now a.holds.now faults most made.patterns.items made.last.items
