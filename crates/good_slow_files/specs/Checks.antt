-- What a check of the five files of slow lines answers: the clauses of the check for stuck lines, in their order.
use Rattle.std.specs.Prelude.{◌≡◌, ⊤, true, List, Result, Ok, Err, length}
use Rattle.statement.specs.Benches.{Text, canonical}
use Rattle.statement.specs.declared.lines.Fault.{Fault}
use Rattle.statement.specs.Netlists.{Netlist}
use Rattle.statement.specs.Patterns.{Holds, Pattern}
use Rattle.statement.specs.Stils.{StilFile}
use Rattle.statement.specs.Statement.{FiveFiles}
use Rattle.statement.specs.Faults.{universe_of}
use Rattle.netlist.specs.Conditions.{IsSound}
use Rattle.netlist.specs.Designs.{IsDesign}
use Rattle.bench_text.specs.declared.refusal.Names.TheVariants.{Design}
use Rattle.bench_text.specs.declared.refusal.BenchFault.TheVariants.{Refused}
use Rattle.bench_text.specs.Reading.{IsRead}
use Rattle.stil_read.specs.Reading.{StandsFor}
use Rattle.evidence.specs.declared.kinds.Evidence.{Evidence}
use Rattle.good_files.specs.Checks.{NoFile}
use Rattle.good_files.specs.declared.answers.Checked.{Checked}
use Rattle.good_files.specs.declared.answers.Checked.TheVariants.{Faults, False}
use Rattle.good_files.specs.declared.answers.Clause.TheVariants as clause
use Rattle.good_files.specs.declared.answers.CheckFault.{CheckFault}
use Rattle.good_files.specs.declared.answers.CheckFault.TheVariants as fault
use Rattle.transition_report.specs.declared.reporting.TransitionReport.{TransitionReport}
use Rattle.transition_report.specs.Reading.{IsTransitionCertificate, IsTransitionReport, NoTransitionCertificate}
use Rattle.transition_report.specs.Texts.{transition_report_text}
use Rattle.good_slow_files.specs.GoodSlowFiles.{AreGoodSlowFiles, AreSlowTotals, AreTrueSlowFaults, HasLaunchPatterns, HasSlowHolds, HasSlowScan, IsSlowTested, SlowContents, StandForSlow, slow_chains_in, slow_limit_said, slow_test_in}
use Rattle.good_slow_files.specs.Clauses.{IsFalseSlowFault}
use Rattle.good_slow_files.specs.Theorem.{TransitionTheorem}

-- THE FIRST CLAUSE THAT IS FALSE, or how many faults there are where none is
abbrev pub IsSlowAnswer : SlowContents → Checked → Type 0
IsSlowAnswer c (False clause.ScanDiffers) = ¬ HasSlowScan c
IsSlowAnswer c (False clause.HoldDiffers) = HasSlowScan c × ((holds : Holds) → ¬ HasSlowHolds c holds)
IsSlowAnswer c (False clause.StilDiffers) =
    HasSlowScan c × ((holds : Holds) × HasSlowHolds c holds × ((patterns : List Pattern) → ¬ HasLaunchPatterns c holds patterns))
IsSlowAnswer c (False (clause.Fault text)) = (t : IsSlowTested c) × IsFalseSlowFault (slow_test_in c t) c.said.lines text.items
IsSlowAnswer c (False clause.TotalsDiffer) =
    (t : IsSlowTested c) × AreTrueSlowFaults (slow_test_in c t) c.said.lines × (¬ AreSlowTotals (slow_test_in c t) c.said)
IsSlowAnswer c (Faults count) =
    (t : IsSlowTested c) × AreTrueSlowFaults (slow_test_in c t) c.said.lines × AreSlowTotals (slow_test_in c t) c.said
    × (count ≡ length (universe_of c.netlist))

-- ---- texts outside their grammars

abbrev pub NoSlowReport : Text → Type 0
NoSlowReport text = (r : TransitionReport) → IsTransitionReport r → ¬ (text ≡ transition_report_text r)

-- the first text outside its grammar; want of memory may come at any time
abbrev pub IsSlowOutside : FiveFiles → CheckFault → Type 0
IsSlowOutside files (fault.Netlist refusal) = IsRead Design files.net (Err (Refused refusal))
IsSlowOutside files fault.NotStil = (n : Netlist) × IsRead Design files.net (Ok n) × NoFile files.stil
IsSlowOutside files fault.NotCertificate =
    (n : Netlist) × (f : StilFile) × IsRead Design files.net (Ok n) × StandsFor files.stil f × NoTransitionCertificate n files.certificate
IsSlowOutside files fault.NotReport =
    (n : Netlist) × (f : StilFile) × (evidence : List (Fault × Evidence)) × IsRead Design files.net (Ok n) × StandsFor files.stil f
    × IsTransitionCertificate n files.certificate evidence × NoSlowReport files.report
IsSlowOutside files fault.NoMemory = ⊤

abbrev pub IsSlowChecked : FiveFiles → Result Checked CheckFault → Type 0
IsSlowChecked files (Ok answer) = (c : SlowContents) × StandForSlow files c × IsSlowAnswer c answer
IsSlowChecked files (Err refusal) = IsSlowOutside files refusal

-- ---- what passing means

-- the same files, with the netlist's text as a run writes it
abbrev pub with_canonical_net : FiveFiles → Netlist → FiveFiles
with_canonical_net files n =
    record { net = canonical n; scan = files.scan; stil = files.stil; certificate = files.certificate; report = files.report }

-- The files are good for what they stand for, whoever made them: the netlist of the first, and the held inputs, the chains and the backtrack limit
-- of the report. So they say of the chip's slow lines what comes true.
pub record ArePassedSlow (files : FiveFiles) : Type 0 where
  pub contents : SlowContents
  pub holds : Holds
  pub sound : IsSound contents.netlist
  pub design : IsDesign contents.netlist
  pub held : HasSlowHolds contents holds
  pub good : AreGoodSlowFiles files contents
  pub truth : TransitionTheorem contents.netlist holds (slow_chains_in contents) (slow_limit_said contents.said) true (with_canonical_net files contents.netlist)

abbrev pub PassesWhereTrueSlow : FiveFiles → Checked → Type 0
PassesWhereTrueSlow files (Faults count) = ArePassedSlow files
PassesWhereTrueSlow files (False clause) = ⊤
