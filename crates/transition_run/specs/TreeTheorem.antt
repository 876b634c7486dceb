-- What five files say of a chip's slow lines where their certificate has trees alone: the theorem as it was before there were refutations, word for
-- word but for the held inputs, so that nothing is said less of such files.
use Rattle.std.specs.Prelude.{ℕ, ◌≡◌, ◌<◌, ◌≤◌, ◌+◌, ◌++◌, Bool, List, codes, map, length, Some, None}
use Rattle.std.specs.List.{All, Contains, flat_map, slice_get}
use Rattle.statement.specs.declared.lines.Fault.{Fault}
use Rattle.statement.specs.declared.lines.Point.{Point}
use Rattle.statement.specs.Netlists.{Netlist, cells}
use Rattle.statement.specs.Patterns.{Holds, Obeys, Pattern}
use Rattle.statement.specs.Benches.{canonical}
use Rattle.cubes.specs.Cubes.{IsPatternOf}
use Rattle.scan_insert.specs.Names.{pin_name_of}
use Rattle.scan_insert.specs.Scanned.{scanned_of}
use Rattle.statement.specs.Runs.{Cycle, Passes}
use Rattle.statement.specs.Stils.{StilFile}
use Rattle.stil_read.specs.Reading.{StandsFor}
use Rattle.statement.specs.Tests.{vectors_in}
use Rattle.statement.specs.Faults.{universe_of}
use Rattle.redundancy_cert.specs.declared.nodes.Node.{Node}
use Rattle.redundancy_cert.specs.Trees.{closed_count, open_count}
use Rattle.certificate.specs.Certificates.{node_text}
use Rattle.statement.specs.declared.outcomes.Outcome.{Outcome}
use Rattle.statement.specs.declared.outcomes.Outcome.TheVariants.{Detected, Redundant, Aborted, Unasked}
use Rattle.statement.specs.Reports.{Line}
use Rattle.run_report.specs.Heads.{count_of, one_if_detected, one_if_redundant, one_if_aborted}
use Rattle.statement.specs.Statement.{FiveFiles}
use Rattle.good_files.specs.GoodFiles.{AreHeldBy}
use Rattle.transition_frames.specs.Frames.{frames_of}
use Rattle.transition_frames.specs.Transition.{DetectsTransition}
use Rattle.transition_sim.specs.Detections.{IsLastTransition, LastTransition}
use Rattle.transition_sim.specs.Shown.{FitsFrames}
use Rattle.transition_play.specs.LaunchVectors.{IsLaunchStrobedAt}
use Rattle.transition_play.specs.SlowPassing.{FailsSlowlyAt, PassesSlowly, RunsSlowly}
use Rattle.transition_files.specs.LaunchFiles.{IsLaunchFileOf}
use Rattle.transition_tests.specs.Verdicts.{IsNeededForTransitions}
use Rattle.transition_report.specs.declared.reporting.TransitionReport.{TransitionReport}
use Rattle.transition_report.specs.Numbers.{IsReportOf}
use Rattle.transition_report.specs.Texts.{transition_report_text, transition_text}
use Rattle.good_slow_files.specs.Theorem.{AreUndetectedTransitions}

-- a fault, and the nodes of a tree in preorder, by the names of these two frames
abbrev pub transition_tree_line : Netlist → Netlist → Fault × List Node → List ℕ
transition_tree_line n two p = transition_text n p.0 ++ (flat_map (node_text two) p.1 ++ codes "\n")

abbrev pub trees_text : Netlist → List (Fault × List Node) → List ℕ
trees_text n trees = codes "atpg transition certificate 1\n" ++ flat_map (λ (p : Fault × List Node). transition_tree_line n (frames_of n p.0) p) trees

module _ (n : Netlist) (holds : Holds) (chains : List (List ℕ)) (limit : ℕ) (patterns : List Pattern) (trees : List (Fault × List Node)) (cycles : List Cycle) where
  -- the tree stands in the certificate beside the fault, and fits on its two frames
  abbrev pub IsCertified : Fault → List Node → Type 0
  IsCertified f tree = Contains trees (f, tree) × FitsFrames n holds f tree

  -- What is said of a transition fault comes true on the tester. Detected: by the last pattern that detects it, at its first point; the file
  -- fails where that point is strobed, from every power-up state, in the run with the slow line. Redundant: by a closed tree on the two frames,
  -- so that no pattern that obeys the held inputs detects it. Aborted: with exactly as many closed ends as the backtrack limit; no pattern of the
  -- file detects it, and the file passes in the run with the slow line. Every slow line is asked for.
  abbrev pub ComesTrue : Fault → Outcome → List ℕ → Type 0
  ComesTrue f (Detected place cycle) pin =
      (point : Point) × (output : ℕ) × IsLastTransition n patterns f place point × IsLaunchStrobedAt n chains place point cycle output
      × (pin ≡ pin_name_of (scanned_of n chains) output) × FailsSlowlyAt n chains f cycles cycle output
  ComesTrue f Redundant pin =
      (tree : List Node) × IsCertified f tree × (open_count tree ≡ 0)
      × ((inputs state : List Bool) (point : Point) → Obeys holds inputs → ¬ DetectsTransition n f inputs state point)
  ComesTrue f Aborted pin =
      (tree : List Node) × IsCertified f tree × (closed_count tree ≡ limit) × (1 ≤ open_count tree)
      × LastTransition n patterns f None × PassesSlowly n chains f cycles
  ComesTrue f Unasked pin = ⊥

-- The first two files are the canonical texts of the netlist and of the scanned one. The third stands for the file of some patterns, each of
-- which is the last to detect some transition fault; on the good scanned netlist it passes, and from each power-up state there is a run with
-- each slow line. The report names the held inputs, and each cycle of the test drives them with their bits. The report has each transition fault
-- once, in order, and what it says comes true; detected, redundant and aborted faults are all of them, and its numbers follow. The certificate has a
-- tree for each fault that no pattern detects, in order, and no other.
pub record TransitionTreeTheorem (n : Netlist) (holds : Holds) (chains : List (List ℕ)) (limit : ℕ) (files : FiveFiles) : Type 0 where
  pub patterns : List Pattern
  pub file : StilFile
  pub said : TransitionReport
  pub trees : List (Fault × List Node)
  pub net_is : files.net ≡ canonical n
  pub scan_is : files.scan ≡ canonical (scanned_of n chains)
  pub stil_is : StandsFor files.stil file
  pub certificate_is : files.certificate ≡ trees_text n trees
  pub report_is : files.report ≡ transition_report_text said
  pub holds_are : AreHeldBy n said.holds holds
  pub obey : All (IsPatternOf n holds) patterns
  pub is_file_of : IsLaunchFileOf n holds chains patterns file
  pub needed : (place : ℕ) → place < length patterns → IsNeededForTransitions n (universe_of n) patterns place
  pub driven : All (λ (cycle : Cycle). Obeys holds cycle.drive) (vectors_in file)
  pub passes : Passes (scanned_of n chains) None (vectors_in file)
  pub runs : (f : Fault) (state : List Bool) → length state ≡ length (cells (scanned_of n chains))
      → (shown : List (List Bool)) × RunsSlowly n chains f state (vectors_in file) shown
  pub once : map (λ (l : Line). l.fault) said.lines ≡ map (transition_text n) (universe_of n)
  pub comes_true : (place : ℕ) (f : Fault) (line : Line) → slice_get (universe_of n) place ≡ Some f → slice_get said.lines place ≡ Some line
      → ComesTrue n holds chains limit patterns trees (vectors_in file) f line.outcome line.pin
  pub left : AreUndetectedTransitions n patterns (universe_of n) (map (λ (p : Fault × List Node). p.0) trees)
  pub all : count_of one_if_detected said.lines + count_of one_if_redundant said.lines + count_of one_if_aborted said.lines ≡ length (universe_of n)
  pub numbers : IsReportOf n chains (length patterns) limit said.lines said
