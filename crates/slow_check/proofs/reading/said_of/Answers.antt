use Rattle.std.proofs.Common.{subst}
use Rattle.statement.specs.Netlists.{Netlist}
use Rattle.transition_report.specs.Reading.{IsTransitionCertificate}
use Rattle.check_parts.specs.Texts.{files_of}
use Rattle.slow_check.specs.inner.Reading.{IsCertificateFault}
use Rattle.slow_check.proofs.ReadingLemmas.{certificate_outside, report_outside, stil_outside}
use Rattle.slow_check.proofs.reading.said_of.Goals as goal

pub returns-in-Err-file_of : goal.returns-in-Err-file_of
returns-in-Err-file_of c = stil_outside (files_of c.args.texts.now) c.in-Ok.core c.in-Ok.ensures.read c.in-Err-file_of.fault c.in-Err-file_of.ensures

pub returns-in-Err-evidence_of : goal.returns-in-Err-evidence_of
returns-in-Err-evidence_of c =
    certificate_outside (files_of c.args.texts.now) c.in-Ok.core c.in-Ok.ensures.read c.in-Ok-file_of.file c.in-Ok-file_of.ensures c.in-Err-evidence_of.fault
    (subst (λ (n : Netlist). IsCertificateFault n c.args.texts.now.certificate.now c.in-Err-evidence_of.fault) c.netlist.ensures c.in-Err-evidence_of.ensures)

pub returns-in-Err-report_of : goal.returns-in-Err-report_of
returns-in-Err-report_of c =
    report_outside (files_of c.args.texts.now) c.in-Ok.core c.in-Ok.ensures.read c.in-Ok-file_of.file c.in-Ok-file_of.ensures c.in-Ok-evidence_of.evidence.items
    (subst (λ (n : Netlist). IsTransitionCertificate n c.args.texts.now.certificate.now c.in-Ok-evidence_of.evidence.items) c.netlist.ensures c.in-Ok-evidence_of.ensures)
    c.in-Err-report_of.fault c.in-Err-report_of.ensures
