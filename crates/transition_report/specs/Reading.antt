-- What the texts of a report and of a certificate of transition faults stand for.
use Rattle.std.specs.Prelude.{ℕ, ◌≡◌, ◌≢◌, ◌<◌, ◌/◌, ◌^◌, ⊤, List, Result, Ok, Err}
use Rattle.std.specs.List.{All, Contains}
use Rattle.statement.specs.declared.lines.Fault.{Fault}
use Rattle.statement.specs.Netlists.{Netlist}
use Rattle.statement.specs.Faults.{universe_of}
use Rattle.evidence.specs.declared.kinds.Evidence.{Evidence}
use Rattle.certificate.specs.Certificates.{IsWellFormed}
use Rattle.report.specs.declared.models.FaultModel.TheVariants.{Transition}
use Rattle.report.specs.declared.reading.ReportFault.{ReportFault}
use Rattle.report.specs.declared.reading.ReportFault.TheVariants as fault
use Rattle.report.specs.Counts.{AreAllAsked}
use Rattle.report.specs.Reports.{Hold, IsBenchWord, IsLineBy}
use Rattle.transition_frames.specs.Frames.{frames_of}
use Rattle.transition_report.specs.declared.reporting.TransitionReport.{TransitionReport}
use Rattle.transition_report.specs.Texts.{transition_certificate, transition_report_text}

-- what every report of transition faults is
pub record IsTransitionReport (r : TransitionReport) : Type 0 where
  pub counts : AreAllAsked r.counts
  pub coverage : r.coverage / 100 < 2 ^ 64
  pub efficiency : r.efficiency / 100 < 2 ^ 64
  pub holds : All (λ (h : Hold). IsBenchWord h.name) r.holds
  pub lines : All (IsLineBy Transition) r.lines

-- what reading answers: the report with this text, or that no report has it
abbrev pub IsTransitionReportRead : List ℕ → Result TransitionReport ReportFault → Type 0
IsTransitionReportRead bytes (Ok r) = IsTransitionReport r × (bytes ≡ transition_report_text r)
IsTransitionReportRead bytes (Err fault.NotReport) = (r : TransitionReport) → IsTransitionReport r → bytes ≢ transition_report_text r
IsTransitionReportRead bytes (Err fault.NoMemory) = ⊤

-- a fault of the netlist, and a tree on signals of its two frames or the steps of a refutation
pub record IsTransitionEvidence (n : Netlist) (p : Fault × Evidence) : Type 0 where
  pub fault : Contains (universe_of n) p.0
  pub formed : IsWellFormed (frames_of n p.0) p.1

-- the bytes are the certificate of this evidence, in this order
pub record IsTransitionCertificate (n : Netlist) (bytes : List ℕ) (evidence : List (Fault × Evidence)) : Type 0 where
  pub each : All (IsTransitionEvidence n) evidence
  pub text : bytes ≡ transition_certificate n evidence

abbrev pub NoTransitionCertificate : Netlist → List ℕ → Type 0
NoTransitionCertificate n bytes = (evidence : List (Fault × Evidence)) → ¬ IsTransitionCertificate n bytes evidence
