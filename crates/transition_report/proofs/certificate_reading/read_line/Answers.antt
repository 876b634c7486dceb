use Rattle.std.proofs.Common.{subst}
use Rattle.std.proofs.lemmas.Option.{MatchOption-at_none, MatchOption-at_some}
use Rattle.std.proofs.lemmas.Result.{err_from_is_err_and}
use Rattle.netlist.specs.Conditions.{IsSound}
use Rattle.certificate.proofs.EvidenceTexts.{refused_more}
use Rattle.transition_report.proofs.EvidenceLines.{no_evidence_line, no_fault_line}
use Rattle.transition_report.proofs.certificate_reading.read_line.Goals as goal

pub returns-in_default-found : goal.returns-in_default-found
returns-in_default-found c =
    no_fault_line c.args.names.now c.args.two.now (subst IsSound c.netlist.ensures c.sound.ensures) (subst IsSound c.netlist-2.ensures c.sound-2.ensures) c.args.line.now
    (MatchOption-at_none _ _ c.in_default-found.is c.in-Ok.ensures)

pub returns-in_err-evidence : goal.returns-in_err-evidence
returns-in_err-evidence c =
    let p = err_from_is_err_and c.from_residual.result c.from_residual.ensures.1 in
    rw (p.1, p.2)
    (refused_more (no_evidence_line c.args.names.now c.args.two.now (subst IsSound c.netlist.ensures c.sound.ensures) (subst IsSound c.netlist-2.ensures c.sound-2.ensures) c.args.line.now
    c.in-Some.fault c.in-Some.rest.now (MatchOption-at_some _ _ _ c.in-Some.is c.in-Ok.ensures))
    c.in_err-evidence.field-0.0 c.in_err-evidence.ensures)
