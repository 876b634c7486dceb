-- The walk through the universe.
use Rattle.std.specs.Prelude.{ℕ, ◌≡◌, ◌<◌, ◌≤◌, List, length, map, Option}
use Rattle.std.specs.List.{AllZip}
use Rattle.statement.specs.Benches.{Text}
use Rattle.statement.specs.declared.lines.Fault.{Fault}
use Rattle.statement.specs.declared.lines.Point.{Point}
use Rattle.statement.specs.Faults.{universe_of}
use Rattle.statement.specs.Runs.{output_name}
use Rattle.scan_insert.specs.Scanned.{scanned_of}
use Rattle.redundancy_cert.specs.declared.nodes.Node.{Node}
use Rattle.redundancy_cert.specs.Trees.{closed_count, open_count}
use Rattle.evidence.specs.declared.kinds.Evidence.{Evidence}
use Rattle.evidence.specs.declared.kinds.Evidence.TheVariants.{Tree}
use Rattle.evidence.specs.Evidence.{open_ends}
use Rattle.transition_frames.specs.Frames.{frame_names}
use Rattle.transition_sim.specs.Detections.{LastTransition}
use Rattle.check_parts.specs.Firsts.{AreFirsts}
use Rattle.good_slow_files.specs.GoodSlowFiles.{AreTrueSlowFaults, AreTrueSlowLines, IsSlowLeft, IsTrueSlowAt, SlowTest}
use Rattle.good_slow_files.specs.Clauses.{IsFalseSlowFault, IsFirstUntrueSlow, IsFurtherSlow, IsStraySlow}
use Rattle.slow_check.specs.declared.findings.Findings.{Findings}
use Rattle.slow_check.specs.declared.walking.Walk.{Walk}
use Rattle.slow_check.specs.inner.Trials.{IsSlowTrial, slow_test_of}

-- where each slow line is last detected, if at all
pub record AreLasts (t : SlowTest) (lasts : List (Option (ℕ × Point))) : Type 0 where
  pub each : AllZip (LastTransition t.netlist t.patterns) (universe_of t.netlist) lasts

-- what is found of all slow lines
pub record AreFindings (t : SlowTest) (f : Findings) : Type 0 where
  pub faults : f.faults ≡ universe_of t.netlist
  pub lasts : AreLasts t f.lasts.items
  pub firsts : AreFirsts t.netlist t.evidence f.firsts

-- all that it goes by is what it should be
pub record IsReady (w : Walk) : Type 0 where
  pub trial : IsSlowTrial w.trial.now
  pub faults : w.faults.now ≡ universe_of w.trial.now.netlist.now
  pub pins : w.pins.now ≡ map (output_name (scanned_of w.trial.now.netlist.now w.trial.now.chains.now)) (scanned_of w.trial.now.netlist.now w.trial.now.chains.now).outputs
  pub names : w.names.now ≡ frame_names w.trial.now.netlist.now
  pub lasts : AreLasts (slow_test_of w.trial.now) w.lasts.now
  pub firsts : AreFirsts w.trial.now.netlist.now w.trial.now.evidence.now w.firsts.now

-- how many slow lines there are
abbrev pub count_of : Walk → ℕ
count_of w = length (universe_of w.trial.now.netlist.now)

-- no pattern detects the slow line, and its evidence leaves nothing open
abbrev pub IsShownShut : SlowTest → Fault → Type 0
IsShownShut t f = (e : Evidence) × IsSlowLeft t f e × (open_ends e ≡ 0)

-- no pattern detects it, and its evidence is a tree that leaves an end open and has as many closed ends as the backtrack limit
abbrev pub IsShownOpen : SlowTest → Fault → Type 0
IsShownOpen t f = (tree : List Node) × IsSlowLeft t f (Tree tree) × (closed_count tree ≡ t.limit) × (1 ≤ open_count tree)

-- what the report says of its lines, by the clauses of the check
abbrev pub IsTrueLine : Walk → ℕ → Type 0
IsTrueLine w place = IsTrueSlowAt (slow_test_of w.trial.now) w.lines.now place

abbrev pub HasTrueLines : Walk → Type 0
HasTrueLines w = AreTrueSlowLines (slow_test_of w.trial.now) w.lines.now

abbrev pub HasTrueFaults : Walk → Type 0
HasTrueFaults w = AreTrueSlowFaults (slow_test_of w.trial.now) w.lines.now

abbrev pub IsUntrueText : Walk → Text → Type 0
IsUntrueText w text = IsFirstUntrueSlow (slow_test_of w.trial.now) w.lines.now text

abbrev pub IsFurtherText : Walk → Text → Type 0
IsFurtherText w text = IsFurtherSlow (slow_test_of w.trial.now) w.lines.now text

abbrev pub IsStrayText : Walk → Text → Type 0
IsStrayText w text = IsStraySlow (slow_test_of w.trial.now) w.lines.now text

abbrev pub IsFalseText : Walk → Text → Type 0
IsFalseText w text = IsFalseSlowFault (slow_test_of w.trial.now) w.lines.now text

-- so many slow lines have true lines
abbrev pub AreTrueBelow : Walk → ℕ → Type 0
AreTrueBelow w count = (k : ℕ) → k < count → IsTrueLine w k

-- the first place of the universe at which a line isn't true
pub record IsFirstUntrueAt (w : Walk) (place : ℕ) : Type 0 where
  pub within : place < count_of w
  pub before : AreTrueBelow w place
  pub untrue : ¬ IsTrueLine w place
