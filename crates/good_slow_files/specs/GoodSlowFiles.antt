-- The five files of a test for slow lines, what they stand for, and when they are good, whoever made them.
use Rattle.std.specs.Prelude.{ℕ, ◌≡◌, ◌<◌, ◌≤◌, cond, List, [], ◌∷◌, length, Some, None, Ok}
use Rattle.std.specs.List.{All, slice_get}
use Rattle.statement.specs.Statement.{FiveFiles}
use Rattle.plain_text.specs.Limits.{most_limit}
use Rattle.statement.specs.Benches.{Text}
use Rattle.statement.specs.declared.lines.Fault.{Fault}
use Rattle.statement.specs.declared.lines.Point.{Point}
use Rattle.statement.specs.declared.outcomes.Outcome.{Outcome}
use Rattle.statement.specs.declared.outcomes.Outcome.TheVariants.{Detected, Redundant, Aborted, Unasked}
use Rattle.statement.specs.Netlists.{Netlist}
use Rattle.statement.specs.Patterns.{Holds, Pattern}
use Rattle.statement.specs.Faults.{universe_of}
use Rattle.statement.specs.Reports.{Line}
use Rattle.statement.specs.Stils.{StilFile}
use Rattle.cubes.specs.Cubes.{IsPatternOf}
use Rattle.bench_text.specs.Reading.{IsRead}
use Rattle.bench_text.specs.declared.refusal.Names.TheVariants.{Design}
use Rattle.stil_read.specs.Reading.{StandsFor}
use Rattle.redundancy_cert.specs.declared.nodes.Node.{Node}
use Rattle.redundancy_cert.specs.Trees.{closed_count, open_count}
use Rattle.evidence.specs.declared.kinds.Evidence.{Evidence}
use Rattle.evidence.specs.declared.kinds.Evidence.TheVariants.{Tree}
use Rattle.evidence.specs.Evidence.{open_ends}
use Rattle.run_report.specs.Outcomes.{IsFirstOf, has_evidence}
use Rattle.good_files.specs.ScanOff.{design_chains}
use Rattle.good_files.specs.GoodFiles.{AreHeldBy, IsScanText, faults_in}
use Rattle.transition_sim.specs.Detections.{IsLastTransition, LastTransition}
use Rattle.transition_sim.specs.Shown.{ShowsFrames}
use Rattle.transition_files.specs.LaunchFiles.{IsLaunchFileOf}
use Rattle.transition_report.specs.declared.reporting.TransitionReport.{TransitionReport}
use Rattle.transition_report.specs.Numbers.{IsReportOf}
use Rattle.transition_report.specs.Reading.{IsTransitionCertificate, IsTransitionReport}
use Rattle.transition_report.specs.Strobes.{IsLaunchSeenAt}
use Rattle.transition_report.specs.Texts.{transition_report_text, transition_text}

-- ---- what five texts stand for

-- The netlist, the text of the scanned one, the test, the certificate's evidence, and the report.
pub record SlowContents : Type 0 where
  pub netlist : Netlist
  pub scan : Text
  pub file : StilFile
  pub evidence : List (Fault × Evidence)
  pub said : TransitionReport

-- The texts stand for them. The scanned netlist's text has no grammar of its own: it is compared as it is.
pub record StandForSlow (files : FiveFiles) (c : SlowContents) : Type 0 where
  pub net : IsRead Design files.net (Ok c.netlist)
  pub scan : files.scan ≡ c.scan
  pub stil : StandsFor files.stil c.file
  pub certificate : IsTransitionCertificate c.netlist files.certificate c.evidence
  pub is_report : IsTransitionReport c.said
  pub report : files.report ≡ transition_report_text c.said

-- how many chains the report says
abbrev pub slow_chains_said : TransitionReport → ℕ
slow_chains_said r = r.counts.chains

-- how many closed ends it says that a search was allowed
abbrev pub slow_limit_said : TransitionReport → ℕ
slow_limit_said r = r.counts.limit

-- the netlist's cells in so many chains
abbrev pub slow_chains_in : SlowContents → List (List ℕ)
slow_chains_in c = design_chains c.netlist (slow_chains_said c.said)

-- ---- the scanned netlist

-- the second text is that of the netlist scanned with the report's number of chains
abbrev pub HasSlowScan : SlowContents → Type 0
HasSlowScan c = IsScanText c.netlist (slow_chains_said c.said) c.scan

-- ---- the held inputs

-- the report's held inputs are these
abbrev pub HasSlowHolds : SlowContents → Holds → Type 0
HasSlowHolds c holds = AreHeldBy c.netlist c.said.holds holds

-- ---- the test

-- the STIL file is that of these patterns by launch on capture, all of which obey the held inputs
pub record AreLaunchPatternsOf (n : Netlist) (holds : Holds) (chains : List (List ℕ)) (file : StilFile) (patterns : List Pattern) : Type 0 where
  pub obey : All (IsPatternOf n holds) patterns
  pub is_file_of : IsLaunchFileOf n holds chains patterns file

abbrev pub HasLaunchPatterns : SlowContents → Holds → List Pattern → Type 0
HasLaunchPatterns c holds patterns = AreLaunchPatternsOf c.netlist holds (slow_chains_in c) c.file patterns

-- these clauses hold: the files are a test of the netlist
pub record IsSlowTested (c : SlowContents) : Type 0 where
  pub holds : Holds
  pub patterns : List Pattern
  pub scan : HasSlowScan c
  pub held : HasSlowHolds c holds
  pub test : HasLaunchPatterns c holds patterns

-- A test for the slow lines of a netlist: the held inputs, the scan chains, how many closed ends a search might make, the patterns in their order,
-- and the evidence that it left.
pub record SlowTest : Type 0 where
  pub netlist : Netlist
  pub holds : Holds
  pub chains : List (List ℕ)
  pub limit : ℕ
  pub patterns : List Pattern
  pub evidence : List (Fault × Evidence)

-- the test with these inputs held, and by these patterns
abbrev pub slow_test_with : SlowContents → Holds → List Pattern → SlowTest
slow_test_with c holds patterns =
    record { netlist = c.netlist; holds = holds; chains = slow_chains_in c; limit = slow_limit_said c.said; patterns = patterns; evidence = c.evidence }

abbrev pub slow_test_in : (c : SlowContents) → IsSlowTested c → SlowTest
slow_test_in c t = slow_test_with c t.holds t.patterns

-- ---- the faults

-- The last pattern that detects the slow line is at this place, and its first point is seen in this cycle at this pin.
pub record IsSlowSeen (t : SlowTest) (f : Fault) (place cycle : ℕ) (pin : List ℕ) : Type 0 where
  pub point : Point
  pub last : IsLastTransition t.netlist t.patterns f place point
  pub seen : IsLaunchSeenAt t.netlist t.chains place point cycle pin

-- No pattern detects the slow line, and its evidence is a tree that fits on its two frames, or steps that refute it there.
pub record IsSlowLeft (t : SlowTest) (f : Fault) (e : Evidence) : Type 0 where
  pub first : IsFirstOf t.evidence f e
  pub shows : ShowsFrames t.netlist t.holds f e
  pub never : LastTransition t.netlist t.patterns f None

-- What is said of a slow line is true: where it is seen; or evidence that leaves nothing open; or a tree that leaves an end open and has as many
-- closed ends as the backtrack limit. Every slow line is asked for.
abbrev pub IsTrueOfSlow : SlowTest → Fault → Outcome → List ℕ → Type 0
IsTrueOfSlow t f (Detected place cycle) pin = IsSlowSeen t f place cycle pin
IsTrueOfSlow t f Redundant pin = (e : Evidence) × IsSlowLeft t f e × (open_ends e ≡ 0)
IsTrueOfSlow t f Aborted pin = (tree : List Node) × IsSlowLeft t f (Tree tree) × (closed_count tree ≡ t.limit) × (1 ≤ open_count tree)
IsTrueOfSlow t f Unasked pin = ⊥

-- the line at a place is that of the slow line at this place, and what it says is true
pub record IsTrueSlowAt (t : SlowTest) (lines : List Line) (place : ℕ) : Type 0 where
  pub fault : Fault
  pub line : Line
  pub member : slice_get (universe_of t.netlist) place ≡ Some fault
  pub said : slice_get lines place ≡ Some line
  pub names_it : line.fault ≡ transition_text t.netlist fault
  pub is_true : IsTrueOfSlow t fault line.outcome line.pin

-- each slow line has its line, in order, what it says is true, and there is no further line
pub record AreTrueSlowLines (t : SlowTest) (lines : List Line) : Type 0 where
  pub each : (place : ℕ) → place < length (universe_of t.netlist) → IsTrueSlowAt t lines place
  pub no_more : length lines ≡ length (universe_of t.netlist)

-- the faults of which a line says redundant or aborted, in order
abbrev pub slow_left_of : List Fault → List Line → List Fault
slow_left_of [] lines = []
slow_left_of (f ∷ fs) [] = []
slow_left_of (f ∷ fs) (l ∷ ls) = cond (has_evidence l.outcome) (f ∷ slow_left_of fs ls) (slow_left_of fs ls)

-- what is said of the slow lines is true, and each of which a line says redundant or aborted has its evidence, in order, and no other
pub record AreTrueSlowFaults (t : SlowTest) (lines : List Line) : Type 0 where
  pub lines_true : AreTrueSlowLines t lines
  pub left : faults_in t.evidence ≡ slow_left_of (universe_of t.netlist) lines

-- ---- the totals

-- the numbers above the lines are those that follow; the backtrack limit does from 1 to 100,000
pub record AreSlowTotals (t : SlowTest) (said : TransitionReport) : Type 0 where
  pub limit : (1 ≤ t.limit) × (t.limit ≤ most_limit)
  pub numbers : IsReportOf t.netlist t.chains (length t.patterns) t.limit said.lines said

-- ---- good files

-- The texts stand for these contents. By the report's own number of chains, held inputs and limit the second text is that of the scanned netlist
-- and the third that of some patterns; each slow line has a line that is true, each that is redundant or aborted its evidence, and the numbers follow.
pub record AreGoodSlowFiles (files : FiveFiles) (c : SlowContents) : Type 0 where
  pub stand : StandForSlow files c
  pub tested : IsSlowTested c
  pub faults : AreTrueSlowFaults (slow_test_in c tested) c.said.lines
  pub totals : AreSlowTotals (slow_test_in c tested) c.said
