-- What the searches of a run rest on.
use Rattle.std.specs.Prelude.{ℕ, ◌≡◌, ◌<◌, ◌≤◌, List, length}
use Rattle.std.specs.List.{All}
use Rattle.plain_text.specs.Limits.{most_workers}
use Rattle.statement.specs.declared.lines.Fault.{Fault}
use Rattle.statement.specs.Netlists.{Netlist}
use Rattle.statement.specs.Patterns.{Holds, Pattern}
use Rattle.cubes.specs.Cubes.{IsPatternOf}
use Rattle.netlist.specs.Holds.{AreHoldsOf}
use Rattle.netlist.specs.Lines.{IsLineOf}
use Rattle.fault_universe.specs.Laws.{most_design_faults}
use Rattle.fault_collapse.specs.Numbers.{Classes}
use Rattle.run_files.specs.declared.asked.AskedClasses.{AskedClasses}
use Rattle.run_files.specs.declared.asked.RunPlan.{RunPlan}

-- the held inputs are the netlist's, and the plan can be kept
pub record MayRun (n : Netlist) (holds : Holds) (plan : RunPlan) : Type 0 where
  pub held : AreHoldsOf n holds
  pub limit : 1 ≤ plan.limit
  pub times : 1 ≤ plan.times
  pub some_worker : 0 < plan.workers
  pub few_workers : plan.workers ≤ most_workers

-- they are no more than a design has, and each stands on a line
pub record AreFaultsOf (n : Netlist) (faults : List Fault) : Type 0 where
  pub few : length faults ≤ most_design_faults
  pub lines : All (λ (f : Fault). IsLineOf n f.line) faults

-- the same of the representatives of classes
pub record AreRepresented (n : Netlist) (classes : Classes) : Type 0 where
  pub faults : AreFaultsOf n classes.representatives

-- fewer than so many patterns of the netlist, which obey the held inputs
pub record AreFew (n : Netlist) (holds : Holds) (most : ℕ) (patterns : List Pattern) : Type 0 where
  pub obey : All (IsPatternOf n holds) patterns
  pub few : length patterns < most

-- the faults of classes that are asked for, each with its weight
pub record MayBeSearched (n : Netlist) (a : AskedClasses) : Type 0 where
  pub faults : AreFaultsOf n a.faults.items
  pub weights : length a.weights.items ≡ length a.faults.items
