-- Laws of the texts of reports and certificates of transition faults.
use Rattle.std.specs.Prelude.{ℕ, ◌≡◌, List}
use Rattle.statement.specs.declared.lines.Fault.{Fault}
use Rattle.statement.specs.Netlists.{Netlist}
use Rattle.netlist.specs.Conditions.{IsSound}
use Rattle.netlist.specs.Designs.{IsDesign}
use Rattle.evidence.specs.declared.kinds.Evidence.{Evidence}
use Rattle.transition_report.specs.declared.reporting.TransitionReport.{TransitionReport}
use Rattle.transition_report.specs.Texts.{transition_report_text}
use Rattle.transition_report.specs.Reading.{IsTransitionCertificate, IsTransitionReport}

-- at most one report has a given text
abbrev pub TransitionTextsTellReports : Type 0
TransitionTextsTellReports =
    (r s : TransitionReport) → IsTransitionReport r → IsTransitionReport s → transition_report_text r ≡ transition_report_text s → r ≡ s

-- bytes are the certificate of one list of evidence at most
abbrev pub OneTransitionCertificate : Type 0
OneTransitionCertificate =
    (n : Netlist) (bytes : List ℕ) (evidence others : List (Fault × Evidence)) → IsSound n → IsDesign n
    → IsTransitionCertificate n bytes evidence → IsTransitionCertificate n bytes others → evidence ≡ others
