-- The texts of patterns and verdicts.
use Rattle.std.specs.Prelude.{ℕ, ◌≡◌, List, length}
use Rattle.std.specs.List.{All}
use Rattle.statement.specs.declared.lines.Fault.{Fault}
use Rattle.statement.specs.Netlists.{Netlist}
use Rattle.statement.specs.Patterns.{Holds, Pattern}
use Rattle.statement.specs.Benches.{canonical}
use Rattle.scan_insert.specs.Scanned.{scanned_of}
use Rattle.stil_write.specs.StilFiles.{IsStilFile}
use Rattle.statement.specs.Stils.{StilFile, stil_text}
use Rattle.statement.specs.Faults.{universe_of}
use Rattle.evidence.specs.declared.kinds.Evidence.{Evidence}
use Rattle.certificate.specs.Certificates.{HasSmallNumbers}
use Rattle.report.specs.Counts.{AreSmallCounts}
use Rattle.run_report.specs.Heads.{holds_named}
use Rattle.transition_files.specs.LaunchFiles.{IsLaunchFileOf}
use Rattle.transition_tests.specs.declared.verdicts.TransitionVerdict.{TransitionVerdict}
use Rattle.transition_report.specs.declared.reporting.TransitionReport.{TransitionReport}
use Rattle.transition_tests.specs.Lines.{AreLines, leaves_of}
use Rattle.transition_report.specs.Numbers.{IsReportOf, HasWritableShares}
use Rattle.transition_report.specs.Texts.{transition_certificate, transition_report_text}
use Rattle.transition_run.specs.declared.files.TransitionFiles.{TransitionFiles}

-- the text of the file that applies these patterns
pub record IsLaunchText (n : Netlist) (holds : Holds) (chains : List (List ℕ)) (patterns : List Pattern) (text : List ℕ) : Type 0 where
  pub file : StilFile
  pub is_file : IsStilFile file
  pub of_patterns : IsLaunchFileOf n holds chains patterns file
  pub text_is : text ≡ stil_text file

-- the report of these verdicts, with these inputs held
pub record IsSaid (n : Netlist) (holds : Holds) (chains : List (List ℕ)) (limit : ℕ) (patterns : List Pattern) (verdicts : List TransitionVerdict) (r : TransitionReport) : Type 0 where
  pub lines : AreLines n chains (universe_of n) verdicts r.lines
  pub held : r.holds ≡ holds_named n holds
  pub numbers : IsReportOf n chains (length patterns) limit r.lines r
  pub sized : HasWritableShares r
  pub counts : AreSmallCounts r.counts

-- the texts of both netlists and of the report
pub record IsTold (n : Netlist) (holds : Holds) (chains : List (List ℕ)) (limit : ℕ) (patterns : List Pattern) (verdicts : List TransitionVerdict) (net scan report : List ℕ) (said : TransitionReport) : Type 0 where
  pub net_is : net ≡ canonical n
  pub scan_is : scan ≡ canonical (scanned_of n chains)
  pub report_is : report ≡ transition_report_text said
  pub told : IsSaid n holds chains limit patterns verdicts said

-- the texts of the patterns and of the evidence
pub record IsShown (n : Netlist) (holds : Holds) (chains : List (List ℕ)) (patterns : List Pattern) (verdicts : List TransitionVerdict) (stil certificate : List ℕ) : Type 0 where
  pub launch : IsLaunchText n holds chains patterns stil
  pub certificate_is : certificate ≡ transition_certificate n (leaves_of (universe_of n) verdicts)
  pub small : All (λ (p : Fault × Evidence). HasSmallNumbers p.1) (leaves_of (universe_of n) verdicts)

pub record IsWritten (n : Netlist) (holds : Holds) (chains : List (List ℕ)) (limit : ℕ) (patterns : List Pattern) (verdicts : List TransitionVerdict) (made : TransitionFiles) : Type 0 where
  pub net : made.net.items ≡ canonical n
  pub scan : made.scan.items ≡ canonical (scanned_of n chains)
  pub stil : IsLaunchText n holds chains patterns made.stil.items
  pub certificate : made.certificate.items ≡ transition_certificate n (leaves_of (universe_of n) verdicts)
  pub small : All (λ (p : Fault × Evidence). HasSmallNumbers p.1) (leaves_of (universe_of n) verdicts)
  pub report : made.report.items ≡ transition_report_text made.said
  pub said : IsSaid n holds chains limit patterns verdicts made.said
