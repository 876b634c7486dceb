use Rattle.std.proofs.Common.{subst}
use Rattle.std.proofs.lemmas.Result.{err_from_is_err_and}
use Rattle.netlist.specs.Conditions.{IsSound}
use Rattle.certificate.proofs.EvidenceTexts.{refused_more}
use Rattle.certificate.proofs.LineTexts.{no_evidence_line, no_fault_line}
use Rattle.certificate.proofs.line.read_line.Goals as goal

pub returns-in_default : goal.returns-in_default
returns-in_default c = no_fault_line c.args.names.now (subst IsSound c.netlist.ensures c.sound.ensures) c.args.line.now c.in_default.ensures

pub returns-in_err-evidence : goal.returns-in_err-evidence
returns-in_err-evidence c =
    let p = err_from_is_err_and c.from_residual.result c.from_residual.ensures.1 in
    rw (p.1, p.2)
    (refused_more (no_evidence_line c.args.names.now (subst IsSound c.netlist.ensures c.sound.ensures) c.args.line.now c.in-Some.fault.0 c.in-Some.fault.1.now c.in-Some.ensures)
    c.in_err-evidence.field-0.0 c.in_err-evidence.ensures)
