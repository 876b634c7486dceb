-- What a search finds.
use Rattle.std.specs.Prelude.{ℕ, ◌≡◌, ◌-◌, ◌*◌, ◌<◌, ◌≤◌, ◌^◌, ◌⊎◌, ◌↔◌, ◌++◌, ◌+◌, ⊤, Bool, true, false, List, length, map, Option, Some, None, slice_index_or}
use Rattle.std.specs.Int.{div_ceil}
use Rattle.std.specs.List.{All, slice_get}
use Rattle.std.specs.Option.{is_some}
use Rattle.statement.specs.declared.lines.Fault.{Fault}
use Rattle.statement.specs.declared.lines.Point.{Point}
use Rattle.statement.specs.Netlists.{Netlist}
use Rattle.statement.specs.Patterns.{Holds, Pattern}
use Rattle.cubes.specs.Cubes.{IsPatternOf}
use Rattle.redundancy_cert.specs.Trees.{closed_count, open_count}
use Rattle.redundancy_cert.specs.Fits.{Fits}
use Rattle.evidence.specs.Evidence.{MayBe, Shows, open_ends}
use Rattle.fault_collapse.specs.Numbers.{Classes}
use Rattle.word_sim.specs.Never.{unmarked}
use Rattle.list_core.specs.Enough.{detected_weight}
use Rattle.list_core.specs.declared.goals.Goal.{Goal}
use Rattle.list_core.specs.declared.verdicts.Verdict.{Verdict}
use Rattle.list_core.specs.declared.verdicts.Verdict.TheVariants.{Open, Detected, Redundant, Aborted}
use Rattle.list_core.specs.Verdicts.{is_open, one_if_class_detected, verdict_at}
use Rattle.worker.specs.Working.{IsDone, NoneOpen}
pub use Rattle.fewer_patterns.specs.Fewer.{IsSeenBy}
use Rattle.run_files.specs.Runs.{count_true}
use Rattle.run_files.specs.declared.asked.AskedClasses.{AskedClasses}
use Rattle.run_files.specs.declared.searching.Left.{Left}
use Rattle.run_files.specs.inner.Often.{AreNeeded}
use Rattle.run_files.specs.inner.Classes.{IsAskedClass, detected_in}
use Rattle.run_files.specs.inner.Plans.{AreFaultsOf, AreFew}
use Rattle.run_files.specs.inner.Spread.{marked_weight, spread, unmarked_weights}
use Rattle.run_files.specs.inner.Verdicts.{AreVerdicts, MayHave}

-- The verdict before compaction is true of the fault: some pattern detects it, wherever it stands by now; or there is evidence.
abbrev pub IsKnown : Netlist → Holds → ℕ → Bool → List Pattern → Fault → Verdict → Type 0
IsKnown n holds limit refutes patterns f Open = ⊤
IsKnown n holds limit refutes patterns f (Detected place point) = IsSeenBy n patterns f
IsKnown n holds limit refutes patterns f (Redundant e) = Shows f n holds e × (open_ends e ≡ 0) × MayBe refutes e
IsKnown n holds limit refutes patterns f (Aborted tree) = Fits f n holds tree × (closed_count tree ≡ limit) × (1 ≤ open_count tree)

pub record AreKnown (n : Netlist) (holds : Holds) (limit : ℕ) (refutes : Bool) (faults : List Fault) (patterns : List Pattern) (verdicts : List Verdict) : Type 0 where
  pub count : length verdicts ≡ length faults
  pub obey : All (IsPatternOf n holds) patterns
  pub each : (class : ℕ) (f : Fault) → slice_get faults class ≡ Some f → IsKnown n holds limit refutes patterns f (verdict_at verdicts class)

-- marks of the faults that some pattern detects
pub record AreDetectedMarks (n : Netlist) (patterns : List Pattern) (faults : List Fault) (marks : List Bool) : Type 0 where
  pub size : length marks ≡ length faults
  pub each : (k : ℕ) (f : Fault) → slice_get faults k ≡ Some f → (slice_index_or marks k false ≡ true) ↔ IsSeenBy n patterns f

-- ---- enough

-- Of the classes that aren't marked those that are detected are to weigh what is enough, less what the marked ones weigh.
pub record IsGoal (percent asked : ℕ) (weights : List ℕ) (marks : List Bool) (g : Goal) : Type 0 where
  pub weights_are : g.weights.items ≡ unmarked_weights marks weights
  pub enough : g.enough ≡ div_ceil (percent * asked) 100 - marked_weight marks weights

abbrev pub IsGoalOf : Option ℕ → ℕ → List ℕ → List Bool → Option Goal → Type 0
IsGoalOf None asked weights marks None = ⊤
IsGoalOf None asked weights marks (Some g) = ⊥
IsGoalOf (Some percent) asked weights marks None = ⊥
IsGoalOf (Some percent) asked weights marks (Some g) = IsGoal percent asked weights marks g

-- so many in a hundred of those that are asked for weigh the classes that are detected
abbrev pub IsMet : Option ℕ → ℕ → ℕ → Type 0
IsMet None asked detected = ⊥
IsMet (Some percent) asked detected = percent * asked ≤ 100 * detected

-- what is left beside the marked ones
pub record IsLeftBeside (percent : Option ℕ) (a : AskedClasses) (marks : List Bool) (l : Left) : Type 0 where
  pub found : l.found.items ≡ marks
  pub exactly : l.faults.items ≡ unmarked marks a.faults.items
  pub goal : IsGoalOf percent a.count a.weights.items marks l.goal

-- what patterns leave of the classes that are asked for: marks of those that they detect, the others' faults, and what is enough of these
pub record IsLeft (n : Netlist) (percent : Option ℕ) (a : AskedClasses) (patterns : List Pattern) (l : Left) : Type 0 where
  pub marks : AreDetectedMarks n patterns a.faults.items l.found.items
  pub exactly : l.faults.items ≡ unmarked l.found.items a.faults.items
  pub faults : AreFaultsOf n l.faults.items
  pub goal : IsGoalOf percent a.count a.weights.items l.found.items l.goal

-- ---- what is found

-- marks of what something is told of
pub record AreMarksOf (told : List (Option (ℕ × Point))) (marks : List Bool) : Type 0 where
  pub are : marks ≡ map is_some told

-- patterns with more behind them
pub record AreBehind (patterns more all : List Pattern) : Type 0 where
  pub are : all ≡ patterns ++ more

-- verdicts of those that aren't marked, spread over all; the patterns are the same
pub record IsSpreadOver (marks : List Bool) (patterns : List Pattern) (verdicts : List Verdict) (same : List Pattern) (all : List Verdict) : Type 0 where
  pub patterns_are : same ≡ patterns
  pub verdicts_are : all ≡ spread marks verdicts

-- the first patterns, and others behind them
pub record AreDrawn (n : Netlist) (holds : Holds) (first all : List Pattern) : Type 0 where
  pub few : AreFew n holds (2 ^ 27 + 2 ^ 17) all
  pub drawn : List Pattern
  pub behind : all ≡ first ++ drawn

-- what a search finds of what patterns leave, its verdicts spread over all that is asked for
pub record AreSpread (n : Netlist) (holds : Holds) (limit : ℕ) (refutes : Bool) (l : Left) (more : List Pattern) (verdicts : List Verdict) : Type 0 where
  pub others : List Verdict
  pub known : AreKnown n holds limit refutes l.faults.items more others
  pub done : IsDone l.goal others
  pub few : length more ≤ length l.faults.items + length l.faults.items
  pub spreads : verdicts ≡ spread l.found.items others

-- Before any pattern is left out: what a search adds to patterns that come first. The classes that these detect weren't searched, and are Open.
pub record AreAdded (n : Netlist) (holds : Holds) (limit : ℕ) (refutes : Bool) (percent : Option ℕ) (a : AskedClasses) (first patterns : List Pattern) (verdicts : List Verdict) : Type 0 where
  pub marks : List Bool
  pub more : List Pattern
  pub others : List Verdict
  pub goal : Option Goal
  pub are_marks : AreDetectedMarks n first a.faults.items marks
  pub known : AreKnown n holds limit refutes (unmarked marks a.faults.items) more others
  pub known_all : AreKnown n holds limit refutes a.faults.items patterns (spread marks others)
  pub goal_is : IsGoalOf percent a.count a.weights.items marks goal
  pub done : IsDone goal others
  pub behind : patterns ≡ first ++ more
  pub spreads : verdicts ≡ spread marks others
  pub few : length patterns + 64 ≤ 2 ^ 32

-- of faults that are asked for, each with the weight of its class
pub record AreFound (n : Netlist) (holds : Holds) (limit : ℕ) (refutes : Bool) (times : ℕ) (percent : Option ℕ) (asked : ℕ) (faults : List Fault) (weights : List ℕ) (first : List Pattern)
    (patterns : List Pattern) (verdicts : List Verdict) : Type 0 where
  pub verdicts_are : AreVerdicts n holds faults limit patterns verdicts
  pub needed : AreNeeded n times faults patterns
  pub kinds : All (MayHave refutes) verdicts
  pub few : length patterns < 2 ^ 32
  pub first_kept : (class : ℕ) (f : Fault) → slice_get faults class ≡ Some f → IsSeenBy n first f → one_if_class_detected (verdict_at verdicts class) ≡ 1
  pub done : NoneOpen verdicts ⊎ IsMet percent asked (detected_weight weights verdicts)

-- of the classes that are asked for
pub record AreFoundBy (n : Netlist) (holds : Holds) (limit : ℕ) (refutes : Bool) (times : ℕ) (percent : Option ℕ) (a : AskedClasses) (first patterns : List Pattern) (verdicts : List Verdict) : Type 0 where
  pub found : AreFound n holds limit refutes times percent a.count a.faults.items a.weights.items first patterns verdicts

-- of all classes, where these faults are asked for: no other class has a verdict
pub record AreSearched (n : Netlist) (holds : Holds) (limit : ℕ) (refutes : Bool) (times : ℕ) (percent : Option ℕ) (classes : Classes) (marks : List Bool) (first : List Pattern)
    (patterns : List Pattern) (verdicts : List Verdict) : Type 0 where
  pub verdicts_are : AreVerdicts n holds classes.representatives limit patterns verdicts
  pub needed : AreNeeded n times classes.representatives patterns
  pub kinds : All (MayHave refutes) verdicts
  pub few : length patterns < 2 ^ 32
  pub asked : (class : ℕ) → is_open (verdict_at verdicts class) ≡ false → IsAskedClass classes.numbers marks class
  pub first_kept : (class : ℕ) (f : Fault) → slice_get classes.representatives class ≡ Some f → IsAskedClass classes.numbers marks class → IsSeenBy n first f
      → one_if_class_detected (verdict_at verdicts class) ≡ 1
  pub done : ((class : ℕ) → IsAskedClass classes.numbers marks class → is_open (verdict_at verdicts class) ≡ false)
      ⊎ IsMet percent (count_true marks) (detected_in classes.numbers marks verdicts)
