-- The texts of verdicts and patterns.
use Rattle.std.specs.Prelude.{ℕ, ◌≡◌, Bool, List}
use Rattle.std.specs.List.{All}
use Rattle.statement.specs.declared.lines.Fault.{Fault}
use Rattle.statement.specs.Netlists.{Netlist}
use Rattle.statement.specs.Patterns.{Holds, Pattern}
use Rattle.statement.specs.Benches.{canonical}
use Rattle.scan_insert.specs.Scanned.{scanned_of}
use Rattle.stil_write.specs.StilFiles.{IsStilFile}
use Rattle.statement.specs.Stils.{StilFile, stil_text}
use Rattle.statement.specs.Tests.{IsFileOf}
use Rattle.fault_collapse.specs.Numbers.{Classes}
use Rattle.evidence.specs.declared.kinds.Evidence.{Evidence}
use Rattle.certificate.specs.Certificates.{HasSmallNumbers, certificate_text}
use Rattle.report.specs.Reports.{IsReport, Report}
use Rattle.report.specs.Texts.{report_text}
use Rattle.list_core.specs.declared.verdicts.Verdict.{Verdict}
use Rattle.run_files.specs.declared.files.RunFiles.{RunFiles}
use Rattle.run_files.specs.declared.texts.NetlistTexts.{NetlistTexts}
use Rattle.run_files.specs.declared.texts.TestTexts.{TestTexts}
use Rattle.run_files.specs.inner.Reports.{AreTimes, IsSaid}
use Rattle.run_files.specs.inner.Verdicts.{leaves_of}

-- the text of the file that applies these patterns
pub record IsTestText (n : Netlist) (holds : Holds) (chains : List (List ℕ)) (patterns : List Pattern) (text : List ℕ) : Type 0 where
  pub file : StilFile
  pub is_file : IsStilFile file
  pub of_patterns : IsFileOf n holds chains patterns file
  pub text_is : text ≡ stil_text file

pub record IsWritten (n : Netlist) (holds : Holds) (chains : List (List ℕ)) (classes : Classes) (limit times : ℕ) (marks : List Bool) (patterns : List Pattern) (verdicts : List Verdict)
    (made : RunFiles) : Type 0 where
  pub net : made.net.items ≡ canonical n
  pub scan : made.scan.items ≡ canonical (scanned_of n chains)
  pub stil : IsTestText n holds chains patterns made.stil.items
  pub certificate : made.certificate.items ≡ certificate_text n (leaves_of classes.representatives verdicts)
  pub small : All (λ (p : Fault × Evidence). HasSmallNumbers p.1) (leaves_of classes.representatives verdicts)
  pub report : made.report.items ≡ report_text made.said
  pub is_report : IsReport made.said
  pub said : IsSaid n chains holds classes limit marks patterns verdicts made.said
  pub counted : AreTimes n patterns times made.said.times

-- the texts of a netlist and of the scanned one
pub record AreNetlistTexts (n scanned : Netlist) (t : NetlistTexts) : Type 0 where
  pub net : t.net.items ≡ canonical n
  pub scan : t.scan.items ≡ canonical scanned

-- the texts of a test and of its certificate
pub record AreTestTexts (n : Netlist) (holds : Holds) (chains : List (List ℕ)) (classes : Classes) (patterns : List Pattern) (verdicts : List Verdict) (t : TestTexts) : Type 0 where
  pub stil : IsTestText n holds chains patterns t.stil.items
  pub certificate : t.certificate.items ≡ certificate_text n (leaves_of classes.representatives verdicts)
  pub small : All (λ (p : Fault × Evidence). HasSmallNumbers p.1) (leaves_of classes.representatives verdicts)

-- these four texts, and that of the report beside them
pub record IsMadeOf (netlists : NetlistTexts) (test : TestTexts) (report : Report) (made : RunFiles) : Type 0 where
  pub net : made.net ≡ netlists.net
  pub scan : made.scan ≡ netlists.scan
  pub stil : made.stil ≡ test.stil
  pub certificate : made.certificate ≡ test.certificate
  pub text : made.report.items ≡ report_text report
  pub is_report : IsReport report
  pub said : made.said ≡ report
