-- The five files of a run, what they stand for, and when they are good, whoever made them.
use Rattle.std.specs.Prelude.{ℕ, ◌≡◌, ◌<◌, ◌≤◌, ◌^◌, List, length, map, Ok}
use Rattle.std.specs.List.{All}
use Rattle.statement.specs.Statement.{FiveFiles}
use Rattle.plain_text.specs.Limits.{most_limit}
use Rattle.statement.specs.Benches.{Text, canonical}
use Rattle.statement.specs.declared.lines.Fault.{Fault}
use Rattle.statement.specs.Netlists.{Netlist, cells}
use Rattle.statement.specs.Patterns.{Holds, Pattern}
use Rattle.netlist.specs.Holds.{AreHoldsOf}
use Rattle.cubes.specs.Cubes.{IsPatternOf}
use Rattle.bench_text.specs.Reading.{IsRead}
use Rattle.bench_text.specs.declared.refusal.Names.TheVariants.{Design}
use Rattle.scan_insert.specs.Scanned.{scanned_of}
use Rattle.statement.specs.Stils.{StilFile}
use Rattle.stil_read.specs.Reading.{StandsFor}
use Rattle.statement.specs.Tests.{IsFileOf}
use Rattle.fault_collapse.specs.Classes.{AreClasses}
use Rattle.fault_collapse.specs.Numbers.{Classes}
use Rattle.evidence.specs.declared.kinds.Evidence.{Evidence}
use Rattle.certificate.specs.Certificates.{IsCertificate}
use Rattle.report.specs.Reports.{Hold, Report, IsReport}
use Rattle.statement.specs.Reports.{Line}
use Rattle.report.specs.Texts.{report_text}
use Rattle.run_report.specs.Outcomes.{Test, AreTrueLines, left_of}
use Rattle.run_report.specs.Heads.{HasHead, holds_named}
use Rattle.good_files.specs.ScanOff.{design_chains}

-- ---- what five texts stand for

-- The netlist, the text of the scanned one, the test, the certificate's evidence, and the report.
pub record Contents : Type 0 where
  pub netlist : Netlist
  pub scan : Text
  pub file : StilFile
  pub evidence : List (Fault × Evidence)
  pub said : Report

-- The texts stand for them. The scanned netlist's text has no grammar of its own: it is compared as it is.
pub record StandFor (files : FiveFiles) (c : Contents) : Type 0 where
  pub net : IsRead Design files.net (Ok c.netlist)
  pub scan : files.scan ≡ c.scan
  pub stil : StandsFor files.stil c.file
  pub certificate : IsCertificate c.netlist files.certificate c.evidence
  pub is_report : IsReport c.said
  pub report : files.report ≡ report_text c.said

-- how many chains the report says
abbrev pub chains_said : Report → ℕ
chains_said r = r.counts.chains

-- how many closed ends it says that a search was allowed
abbrev pub limit_said : Report → ℕ
limit_said r = r.counts.limit

-- the netlist's cells in so many chains
abbrev pub chains_in : Contents → List (List ℕ)
chains_in c = design_chains c.netlist (chains_said c.said)

-- ---- the scanned netlist

-- so many chains: no more than 2^32 - 1, and one at least where there is a cell
pub record IsChainCount (n : Netlist) (count : ℕ) : Type 0 where
  pub few : count < 2 ^ 32
  pub some : 0 < length (cells n) → 0 < count

-- the text is the canonical one of the netlist scanned with so many chains
pub record IsScanText (n : Netlist) (count : ℕ) (scan : Text) : Type 0 where
  pub allowed : IsChainCount n count
  pub text : scan ≡ canonical (scanned_of n (design_chains n count))

-- the second text is that of the netlist scanned with the report's number of chains
abbrev pub HasScan : Contents → Type 0
HasScan c = IsScanText c.netlist (chains_said c.said) c.scan

-- ---- the held inputs

-- the lines name these held inputs: inputs of the netlist, each once at most, in their order
pub record AreHeldBy (n : Netlist) (lines : List Hold) (holds : Holds) : Type 0 where
  pub held : AreHoldsOf n holds
  pub said : lines ≡ holds_named n holds

-- the report's held inputs are these
abbrev pub HasHolds : Contents → Holds → Type 0
HasHolds c holds = AreHeldBy c.netlist c.said.holds holds

-- ---- the test

-- the STIL file is that of these patterns, all of which obey the held inputs
pub record ArePatternsOf (n : Netlist) (holds : Holds) (chains : List (List ℕ)) (file : StilFile) (patterns : List Pattern) : Type 0 where
  pub obey : All (IsPatternOf n holds) patterns
  pub is_file_of : IsFileOf n holds chains patterns file

abbrev pub HasPatterns : Contents → Holds → List Pattern → Type 0
HasPatterns c holds patterns = ArePatternsOf c.netlist holds (chains_in c) c.file patterns

-- these clauses hold: the files are a test of the netlist
pub record IsTested (c : Contents) : Type 0 where
  pub holds : Holds
  pub patterns : List Pattern
  pub classes : Classes
  pub scan : HasScan c
  pub held : HasHolds c holds
  pub test : HasPatterns c holds patterns
  pub are_classes : AreClasses c.netlist classes

-- the test with these inputs held, and by these patterns
abbrev pub test_with : Contents → Holds → List Pattern → Test
test_with c holds patterns =
    record { netlist = c.netlist; holds = holds; chains = chains_in c; limit = limit_said c.said; patterns = patterns; evidence = c.evidence }

abbrev pub test_in : (c : Contents) → IsTested c → Test
test_in c t = test_with c t.holds t.patterns

-- ---- the faults

abbrev pub faults_in : List (Fault × Evidence) → List Fault
faults_in evidence = map (λ (p : Fault × Evidence). p.0) evidence

-- what is said of the faults is true, and each class of which a line says redundant or aborted has its evidence, in order, and no other
pub record AreTrueFaults (t : Test) (classes : Classes) (lines : List Line) : Type 0 where
  pub lines_true : AreTrueLines t classes lines
  pub left : faults_in t.evidence ≡ left_of classes lines

-- ---- the totals

-- the numbers above the lines are those that follow; the backtrack limit does from 1 to 100,000
pub record AreReportTotals (t : Test) (classes : Classes) (said : Report) : Type 0 where
  pub limit : (1 ≤ t.limit) × (t.limit ≤ most_limit)
  pub head : HasHead t classes said

-- ---- good files

-- The texts stand for these contents. By the report's own number of chains, held inputs and limit the second text is that of the scanned netlist
-- and the third that of some patterns; each fault has a line that is true and each class that is redundant or aborted its evidence, and the numbers follow.
pub record AreGoodFiles (files : FiveFiles) (c : Contents) : Type 0 where
  pub stand : StandFor files c
  pub tested : IsTested c
  pub faults : AreTrueFaults (test_in c tested) tested.classes c.said.lines
  pub totals : AreReportTotals (test_in c tested) tested.classes c.said
