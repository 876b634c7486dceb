-- The five files of a test with unknown inputs, what they stand for, and when they are good, whoever made them.
use Rattle.std.specs.Prelude.{ℕ, ◌≡◌, ◌↔◌, ◌<◌, Bool, true, false, List, [], ◌∷◌, cond, length, map, slice_index_or, take, None, Ok, IsTrue}
use Rattle.std.specs.List.{All, AllZip}
use Rattle.statement.specs.declared.lines.Fault.{Fault}
use Rattle.statement.specs.Benches.{Text}
use Rattle.statement.specs.Faults.{universe_of}
use Rattle.statement.specs.Netlists.{Netlist, name_of}
use Rattle.statement.specs.Patterns.{Holds, Obeys}
use Rattle.statement.specs.Runs.{Cycle}
use Rattle.statement.specs.Statement.{FiveFiles}
use Rattle.statement.specs.Stils.{StilFile}
use Rattle.statement.specs.Tests.{vectors_in}
use Rattle.bench_text.specs.Reading.{IsRead}
use Rattle.bench_text.specs.declared.refusal.Names.TheVariants.{Design}
use Rattle.scan_insert.specs.Scanned.{scanned_of, sites_of}
use Rattle.scan_play.specs.Playing.{PlaysAs}
use Rattle.scan_play.specs.declared.played.Played.TheVariants.{Passes}
use Rattle.stil_read.specs.Reading.{StandsFor}
use Rattle.fault_collapse.specs.Classes.{AreClasses}
use Rattle.fault_collapse.specs.Numbers.{Classes}
use Rattle.evidence.specs.declared.kinds.Evidence.{Evidence}
use Rattle.evidence.specs.Evidence.{Shows, open_ends}
use Rattle.certificate.specs.Certificates.{IsCertificate}
use Rattle.run_report.specs.Outcomes.{IsFirstOf}
use Rattle.good_files.specs.ScanOff.{design_chains}
use Rattle.good_files.specs.GoodFiles.{AreHeldBy, IsScanText, faults_in}
use Rattle.chain_test.specs.Hardware.{at_site}
use Rattle.grade.specs.Grades.{IsGraded}
use Rattle.grade.specs.declared.grade.Grade.{Grade}
use Rattle.grade.specs.declared.grade.Grade.TheVariants as told
use Rattle.known_tests.specs.Fitting.{FitsKnown}
use Rattle.unknown_inputs.specs.Opened.{opened, opened_fault}
use Rattle.unknown_inputs.specs.Unknowns.{Unknowns, holds_at_zero, known_part, unknown_part}
use Rattle.unknown_report.specs.declared.claims.Claim.{Claim}
use Rattle.unknown_report.specs.declared.claims.Claim.TheVariants as claim
use Rattle.unknown_report.specs.declared.reports.UnknownReport.{UnknownReport}
use Rattle.unknown_report.specs.Claims.{claim_lines, counts_of}
use Rattle.unknown_report.specs.Reports.{IsUnknownReport, unknown_report_text}

-- ---- what five texts stand for

-- The netlist, the text of the scanned one, the test, the certificate's evidence, and the report.
pub record UnknownContents : Type 0 where
  pub netlist : Netlist
  pub scan : Text
  pub file : StilFile
  pub evidence : List (Fault × Evidence)
  pub said : UnknownReport

-- The texts stand for them. The scanned netlist's text has no grammar of its own: it is compared as it is.
pub record StandForUnknown (files : FiveFiles) (c : UnknownContents) : Type 0 where
  pub net : IsRead Design files.net (Ok c.netlist)
  pub scan : files.scan ≡ c.scan
  pub stil : StandsFor files.stil c.file
  pub certificate : IsCertificate c.netlist files.certificate c.evidence
  pub is_report : IsUnknownReport c.said
  pub report : files.report ≡ unknown_report_text c.said

-- the netlist's cells in as many chains as the report says
abbrev pub unknown_chains_in : UnknownContents → List (List ℕ)
unknown_chains_in c = design_chains c.netlist c.said.chains

-- the netlist scanned with them
abbrev pub chip_in : UnknownContents → Netlist
chip_in c = scanned_of c.netlist (unknown_chains_in c)

-- ---- the scanned netlist

-- the second text is that of the netlist scanned with the report's number of chains
abbrev pub HasUnknownScan : UnknownContents → Type 0
HasUnknownScan c = IsScanText c.netlist c.said.chains c.scan

-- ---- the inputs

-- the unknown inputs by name, in the order of inputs
abbrev pub unknown_names : Netlist → Unknowns → List (List ℕ)
unknown_names n unknown = map (name_of n) (unknown_part unknown n.inputs)

-- The report names these unknown inputs and these held ones: inputs of the netlist, each once at most, in their order. No input is both,
-- and the tester sets at least one input of the scanned netlist.
pub record AreInputsSaid (n chip : Netlist) (said : UnknownReport) (unknown : Unknowns) (holds : Holds) : Type 0 where
  pub size : length unknown ≡ length n.inputs
  pub names : said.unknown ≡ unknown_names n unknown
  pub held : AreHeldBy n said.holds holds
  pub apart : All (λ hold. hold ≡ None) (unknown_part unknown holds)
  pub some_known : 0 < length (known_part unknown chip.inputs)

abbrev pub HasInputs : UnknownContents → Unknowns → Holds → Type 0
HasInputs c unknown holds = AreInputsSaid c.netlist (chip_in c) c.said unknown holds

-- ---- the test

-- The STIL file sets the known inputs alone, and the held ones as they are held. The good chip passes it whatever the unknown inputs have: played in three
-- values on the opened netlist each strobe of a bit is met.
pub record IsKnownTest (chip : Netlist) (unknown : Unknowns) (holds : Holds) (file : StilFile) : Type 0 where
  pub fits : FitsKnown file chip unknown
  pub obeys : All (λ (cycle : Cycle). Obeys (known_part unknown holds) cycle.drive) (vectors_in file)
  pub passes : PlaysAs (opened chip unknown) None (vectors_in file) Passes

abbrev pub HasKnownTest : UnknownContents → Unknowns → Holds → Type 0
HasKnownTest c unknown holds = IsKnownTest (chip_in c) unknown holds c.file

-- ---- the claims

-- the grade of a fault of the design, at its site, on the opened netlist
abbrev pub IsOpenGrade : Netlist → List (List ℕ) → Unknowns → List Cycle → Fault → Grade → Type 0
IsOpenGrade n chains unknown cycles f one =
    IsGraded (opened (scanned_of n chains) unknown) (opened_fault (scanned_of n chains) unknown (at_site (sites_of n chains) f)) cycles one

-- The representative's first evidence in the certificate shows it with the unknown inputs held at 0 beside the others, and leaves nothing open.
abbrev pub HasClosed : Netlist → Holds → List (Fault × Evidence) → Fault → Type 0
HasClosed n holds evidence representative = (e : Evidence) × IsFirstOf evidence representative e × Shows representative n holds e × (open_ends e ≡ 0)

-- A fault that is detected is claimed so. Else it is redundant where its class has evidence, or what its grade says.
abbrev pub claim_of : Grade → Bool → Claim
claim_of (told.Detected cycle output) evident = claim.Detected cycle output
claim_of told.Undetected false = claim.Undetected
claim_of told.Undetected true = claim.Redundant
claim_of told.Unknown false = claim.Unknown
claim_of told.Unknown true = claim.Redundant

-- of faults of these classes and grades, where of each class is known whether it has evidence
abbrev pub claims_of : List Bool → List ℕ → List Grade → List Claim
claims_of evident [] grades = []
claims_of evident (class ∷ classes) [] = []
claims_of evident (class ∷ classes) (one ∷ grades) = claim_of one (slice_index_or evident class false) ∷ claims_of evident classes grades

-- What the files show: of each fault its grade, and of each class whether it has evidence.
pub record AreFindings (n : Netlist) (chains : List (List ℕ)) (unknown : Unknowns) (holds : Holds) (cycles : List Cycle) (evidence : List (Fault × Evidence))
    (classes : Classes) (grades : List Grade) (evident : List Bool) : Type 0 where
  pub are_classes : AreClasses n classes
  pub are_grades : AllZip (IsOpenGrade n chains unknown cycles) (universe_of n) grades
  pub are_evident : AllZip (λ f one. IsTrue one ↔ HasClosed n (holds_at_zero unknown holds) evidence f) classes.representatives evident

-- these clauses hold: the files are a test of the netlist
pub record IsUnknownTested (c : UnknownContents) : Type 0 where
  pub unknown : Unknowns
  pub holds : Holds
  pub classes : Classes
  pub grades : List Grade
  pub evident : List Bool
  pub scan : HasUnknownScan c
  pub inputs : HasInputs c unknown holds
  pub test : HasKnownTest c unknown holds
  pub findings : AreFindings c.netlist (unknown_chains_in c) unknown holds (vectors_in c.file) c.evidence classes grades evident

-- ---- the faults

-- what has to be claimed of the faults, in order
abbrev pub claims_in : (c : UnknownContents) → IsUnknownTested c → List Claim
claims_in c t = claims_of t.evident t.classes.numbers t.grades

-- the lines that say so
abbrev pub lines_due : (c : UnknownContents) → IsUnknownTested c → List Text
lines_due c t = claim_lines c.netlist (chip_in c) (universe_of c.netlist) (claims_in c t)

-- those that are marked
abbrev pub marked : {X : Type 0} → List Bool → List X → List X
marked [] xs = []
marked (mark ∷ marks) [] = []
marked (mark ∷ marks) (x ∷ xs) = cond mark (x ∷ marked marks xs) (marked marks xs)

-- the representatives of classes that have evidence, in order
abbrev pub evident_in : (c : UnknownContents) → IsUnknownTested c → List Fault
evident_in c t = marked t.evident t.classes.representatives

-- Each fault has the line that says what has to be claimed of it, and there is no further line. The certificate has evidence of such classes alone, in order.
pub record AreTrueClaims (c : UnknownContents) (t : IsUnknownTested c) : Type 0 where
  pub lines : c.said.lines ≡ lines_due c t
  pub evidence : take (length c.evidence) (evident_in c t) ≡ faults_in c.evidence

-- ---- the totals

-- the counts above the lines are those of the claims
abbrev pub AreClaimTotals : (c : UnknownContents) → IsUnknownTested c → Type 0
AreClaimTotals c t = c.said.counts ≡ counts_of (claims_in c t)

-- ---- good files

-- The texts stand for these contents. By the report's own number of chains, unknown and held inputs the second text is that of the scanned netlist and the
-- third a test that the good chip passes whatever the unknown inputs have; the report's lines and numbers are those of the claims that follow, and the
-- certificate's evidence is what these rest on.
pub record AreGoodUnknownFiles (files : FiveFiles) (c : UnknownContents) : Type 0 where
  pub stand : StandForUnknown files c
  pub tested : IsUnknownTested c
  pub claims : AreTrueClaims c tested
  pub totals : AreClaimTotals c tested
