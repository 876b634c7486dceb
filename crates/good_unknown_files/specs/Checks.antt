-- What a check of the five files of a test with unknown inputs answers: the clauses of the check for stuck lines, in their order.
use Rattle.std.specs.Prelude.{◌≡◌, ⊤, List, Result, Ok, Err, length}
use Rattle.statement.specs.declared.lines.Fault.{Fault}
use Rattle.statement.specs.Benches.{Text}
use Rattle.statement.specs.Faults.{universe_of}
use Rattle.statement.specs.Netlists.{Netlist}
use Rattle.statement.specs.Patterns.{Holds}
use Rattle.statement.specs.Statement.{FiveFiles}
use Rattle.statement.specs.Stils.{StilFile}
use Rattle.netlist.specs.Conditions.{IsSound}
use Rattle.netlist.specs.Designs.{IsDesign}
use Rattle.bench_text.specs.declared.refusal.Names.TheVariants.{Design}
use Rattle.bench_text.specs.declared.refusal.BenchFault.TheVariants.{Refused}
use Rattle.bench_text.specs.Reading.{IsRead}
use Rattle.stil_read.specs.Reading.{StandsFor}
use Rattle.evidence.specs.declared.kinds.Evidence.{Evidence}
use Rattle.certificate.specs.Certificates.{IsCertificate, NoCertificate}
use Rattle.good_files.specs.Checks.{NoFile}
use Rattle.good_files.specs.declared.answers.Checked.{Checked}
use Rattle.good_files.specs.declared.answers.Checked.TheVariants.{Faults, False}
use Rattle.good_files.specs.declared.answers.Clause.TheVariants as clause
use Rattle.good_files.specs.declared.answers.CheckFault.{CheckFault}
use Rattle.good_files.specs.declared.answers.CheckFault.TheVariants as fault
use Rattle.unknown_inputs.specs.Unknowns.{Unknowns}
use Rattle.unknown_report.specs.declared.reports.UnknownReport.{UnknownReport}
use Rattle.unknown_report.specs.Reports.{IsUnknownReport, unknown_report_text}
use Rattle.good_unknown_files.specs.GoodUnknownFiles.{AreClaimTotals, AreGoodUnknownFiles, AreTrueClaims, HasInputs, HasKnownTest, HasUnknownScan, IsUnknownTested, StandForUnknown, UnknownContents, unknown_chains_in}
use Rattle.good_unknown_files.specs.Clauses.{IsFalseClaim}
use Rattle.good_unknown_files.specs.Theorem.{UnknownTheorem}

-- THE FIRST CLAUSE THAT IS FALSE, or how many faults there are where none is. Unknown and held inputs are one clause.
abbrev pub IsUnknownAnswer : UnknownContents → Checked → Type 0
IsUnknownAnswer c (False clause.ScanDiffers) = ¬ HasUnknownScan c
IsUnknownAnswer c (False clause.HoldDiffers) = HasUnknownScan c × ((unknown : Unknowns) (holds : Holds) → ¬ HasInputs c unknown holds)
IsUnknownAnswer c (False clause.StilDiffers) =
    HasUnknownScan c × ((unknown : Unknowns) × (holds : Holds) × HasInputs c unknown holds × (¬ HasKnownTest c unknown holds))
IsUnknownAnswer c (False (clause.Fault text)) = (t : IsUnknownTested c) × IsFalseClaim c t text.items
IsUnknownAnswer c (False clause.TotalsDiffer) = (t : IsUnknownTested c) × AreTrueClaims c t × (¬ AreClaimTotals c t)
IsUnknownAnswer c (Faults count) = (t : IsUnknownTested c) × AreTrueClaims c t × AreClaimTotals c t × (count ≡ length (universe_of c.netlist))

-- ---- texts outside their grammars

abbrev pub NoUnknownReport : Text → Type 0
NoUnknownReport text = (r : UnknownReport) → IsUnknownReport r → ¬ (text ≡ unknown_report_text r)

-- the first text outside its grammar; want of memory may come at any time
abbrev pub IsUnknownOutside : FiveFiles → CheckFault → Type 0
IsUnknownOutside files (fault.Netlist refusal) = IsRead Design files.net (Err (Refused refusal))
IsUnknownOutside files fault.NotStil = (n : Netlist) × IsRead Design files.net (Ok n) × NoFile files.stil
IsUnknownOutside files fault.NotCertificate =
    (n : Netlist) × (f : StilFile) × IsRead Design files.net (Ok n) × StandsFor files.stil f × NoCertificate n files.certificate
IsUnknownOutside files fault.NotReport =
    (n : Netlist) × (f : StilFile) × (evidence : List (Fault × Evidence)) × IsRead Design files.net (Ok n) × StandsFor files.stil f
    × IsCertificate n files.certificate evidence × NoUnknownReport files.report
IsUnknownOutside files fault.NoMemory = ⊤

abbrev pub IsUnknownChecked : FiveFiles → Result Checked CheckFault → Type 0
IsUnknownChecked files (Ok answer) = (c : UnknownContents) × StandForUnknown files c × IsUnknownAnswer c answer
IsUnknownChecked files (Err refusal) = IsUnknownOutside files refusal

-- ---- what passing means

-- The files are good for what they stand for, whoever made them: the netlist of the first, and the unknown inputs, the held ones and the chains of the
-- report. So they say of the chip what comes true whatever the unknown inputs have.
pub record ArePassedUnknown (files : FiveFiles) : Type 0 where
  pub contents : UnknownContents
  pub sound : IsSound contents.netlist
  pub design : IsDesign contents.netlist
  pub good : AreGoodUnknownFiles files contents
  pub truth : UnknownTheorem contents.netlist good.tested.unknown good.tested.holds (unknown_chains_in contents) contents.file files

abbrev pub PassesWhereTrueUnknown : FiveFiles → Checked → Type 0
PassesWhereTrueUnknown files (Faults count) = ArePassedUnknown files
PassesWhereTrueUnknown files (False clause) = ⊤
