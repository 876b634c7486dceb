-- What five files say of a chip's slow lines.
use Rattle.std.specs.Prelude.{ℕ, ◌≡◌, ◌≤◌, ◌+◌, ◌⊎◌, Bool, List, [], ◌∷◌, map, length, Some, None}
use Rattle.std.specs.List.{All, Contains, slice_get}
use Rattle.statement.specs.declared.lines.Fault.{Fault}
use Rattle.statement.specs.declared.lines.Point.{Point}
use Rattle.statement.specs.Netlists.{Netlist, cells}
use Rattle.statement.specs.Patterns.{Holds, Obeys, Pattern}
use Rattle.statement.specs.Benches.{canonical}
use Rattle.cubes.specs.Cubes.{IsPatternOf}
use Rattle.scan_insert.specs.Names.{pin_name_of}
use Rattle.scan_insert.specs.Scanned.{scanned_of}
use Rattle.statement.specs.Runs.{Cycle, Passes}
use Rattle.statement.specs.Stils.{StilFile}
use Rattle.stil_read.specs.Reading.{StandsFor}
use Rattle.statement.specs.Tests.{vectors_in}
use Rattle.statement.specs.Faults.{universe_of}
use Rattle.redundancy_cert.specs.declared.nodes.Node.{Node}
use Rattle.redundancy_cert.specs.Trees.{closed_count, open_count}
use Rattle.evidence.specs.declared.kinds.Evidence.{Evidence}
use Rattle.evidence.specs.declared.kinds.Evidence.TheVariants.{Tree}
use Rattle.evidence.specs.Evidence.{MayBe, open_ends}
use Rattle.statement.specs.declared.outcomes.Outcome.{Outcome}
use Rattle.statement.specs.declared.outcomes.Outcome.TheVariants.{Detected, Redundant, Aborted, Unasked}
use Rattle.statement.specs.Reports.{Line}
use Rattle.run_report.specs.Heads.{count_of, one_if_detected, one_if_redundant, one_if_aborted}
use Rattle.statement.specs.Statement.{FiveFiles}
use Rattle.good_files.specs.GoodFiles.{AreHeldBy}
use Rattle.transition_frames.specs.Transition.{DetectsTransition}
use Rattle.transition_sim.specs.Detections.{IsDetected, IsLastTransition, LastTransition}
use Rattle.transition_sim.specs.Shown.{ShowsFrames}
use Rattle.transition_play.specs.LaunchVectors.{IsLaunchStrobedAt}
use Rattle.transition_play.specs.SlowPassing.{FailsSlowlyAt, PassesSlowly, RunsSlowly}
use Rattle.transition_files.specs.LaunchFiles.{IsLaunchFileOf}
use Rattle.transition_report.specs.declared.reporting.TransitionReport.{TransitionReport}
use Rattle.transition_report.specs.Numbers.{IsReportOf}
use Rattle.transition_report.specs.Texts.{transition_certificate, transition_report_text, transition_text}

-- those of the faults that no pattern detects, in order
abbrev pub AreUndetectedTransitions : Netlist → List Pattern → List Fault → List Fault → Type 0
AreUndetectedTransitions n patterns [] left = left ≡ []
AreUndetectedTransitions n patterns (f ∷ fs) left =
    (IsDetected n patterns f × AreUndetectedTransitions n patterns fs left)
    ⊎ (LastTransition n patterns f None × ((rest : List Fault) × (left ≡ f ∷ rest) × AreUndetectedTransitions n patterns fs rest))

module _ (n : Netlist) (holds : Holds) (chains : List (List ℕ)) (limit : ℕ) (patterns : List Pattern) (certified : List (Fault × Evidence)) (cycles : List Cycle) where
  -- the evidence stands in the certificate beside the fault, and is a tree that fits on its two frames, or steps that refute it there
  abbrev pub IsCertified : Fault → Evidence → Type 0
  IsCertified f e = Contains certified (f, e) × ShowsFrames n holds f e

  -- What is said of a transition fault comes true on the tester. Detected: by the last pattern that detects it, at its first point; the file
  -- fails where that point is strobed, from every power-up state, in the run with the slow line. Redundant: by a closed tree on the two frames, or
  -- a refutation, so that no pattern that obeys the held inputs detects it. Aborted: by a tree with exactly as many closed ends as the backtrack
  -- limit; no pattern of the file detects it, and the file passes in the run with the slow line. Every slow line is asked for.
  abbrev pub ComesTrue : Fault → Outcome → List ℕ → Type 0
  ComesTrue f (Detected place cycle) pin =
      (point : Point) × (output : ℕ) × IsLastTransition n patterns f place point × IsLaunchStrobedAt n chains place point cycle output
      × (pin ≡ pin_name_of (scanned_of n chains) output) × FailsSlowlyAt n chains f cycles cycle output
  ComesTrue f Redundant pin =
      (e : Evidence) × IsCertified f e × (open_ends e ≡ 0)
      × ((inputs state : List Bool) (point : Point) → Obeys holds inputs → ¬ DetectsTransition n f inputs state point)
  ComesTrue f Aborted pin =
      (tree : List Node) × IsCertified f (Tree tree) × (closed_count tree ≡ limit) × (1 ≤ open_count tree)
      × LastTransition n patterns f None × PassesSlowly n chains f cycles
  ComesTrue f Unasked pin = ⊥

-- The first two files are the canonical texts of the netlist and of the scanned one. The third stands for the file of some patterns that obey the held
-- inputs; on the good scanned netlist it passes, and from each power-up state there is a run with each slow line. The report names the held inputs,
-- and each cycle of the test drives them with their bits. The report has each transition fault once, in order, and what it says comes true; detected,
-- redundant and aborted faults are all of them, and its numbers follow. The certificate has evidence for each fault that no pattern detects, in order,
-- and no other; there are refutations only where refutations are given.
pub record TransitionTheorem (n : Netlist) (holds : Holds) (chains : List (List ℕ)) (limit : ℕ) (refutes : Bool) (files : FiveFiles) : Type 0 where
  pub patterns : List Pattern
  pub file : StilFile
  pub said : TransitionReport
  pub certified : List (Fault × Evidence)
  pub net_is : files.net ≡ canonical n
  pub scan_is : files.scan ≡ canonical (scanned_of n chains)
  pub stil_is : StandsFor files.stil file
  pub certificate_is : files.certificate ≡ transition_certificate n certified
  pub report_is : files.report ≡ transition_report_text said
  pub holds_are : AreHeldBy n said.holds holds
  pub obey : All (IsPatternOf n holds) patterns
  pub is_file_of : IsLaunchFileOf n holds chains patterns file
  pub driven : All (λ (cycle : Cycle). Obeys holds cycle.drive) (vectors_in file)
  pub passes : Passes (scanned_of n chains) None (vectors_in file)
  pub runs : (f : Fault) (state : List Bool) → length state ≡ length (cells (scanned_of n chains))
      → (shown : List (List Bool)) × RunsSlowly n chains f state (vectors_in file) shown
  pub once : map (λ (l : Line). l.fault) said.lines ≡ map (transition_text n) (universe_of n)
  pub comes_true : (place : ℕ) (f : Fault) (line : Line) → slice_get (universe_of n) place ≡ Some f → slice_get said.lines place ≡ Some line
      → ComesTrue n holds chains limit patterns certified (vectors_in file) f line.outcome line.pin
  pub left : AreUndetectedTransitions n patterns (universe_of n) (map (λ (p : Fault × Evidence). p.0) certified)
  pub kinds : All (λ (p : Fault × Evidence). MayBe refutes p.1) certified
  pub all : count_of one_if_detected said.lines + count_of one_if_redundant said.lines + count_of one_if_aborted said.lines ≡ length (universe_of n)
  pub numbers : IsReportOf n chains (length patterns) limit said.lines said
