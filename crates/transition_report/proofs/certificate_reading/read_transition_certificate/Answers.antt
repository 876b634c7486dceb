use Rattle.std.proofs.Common.{◌∙◌, ap}
use Rattle.std.proofs.Math.Bool.{beq}
use Rattle.std.specs.Cmp.{booleans_Decides}
use Rattle.std.proofs.lemmas.Bool.{both_ways}
use Rattle.std.proofs.lemmas.Result.{err_from_is_err_and}
use Rattle.certificate.specs.Certificates.{has_refutation}
use Rattle.certificate.proofs.EvidenceTexts.{refused_more}
use Rattle.transition_report.proofs.EvidenceLines.{no_slow_lines, other_version}
use Rattle.transition_report.proofs.FirstFrames.{first_framed, first_slow}
use Rattle.transition_report.proofs.certificate_reading.read_transition_certificate.Goals as goal

pub returns-in_err-evidence : goal.returns-in_err-evidence
returns-in_err-evidence c =
    let p = err_from_is_err_and c.from_residual.result c.from_residual.ensures.1 in
    rw (p.1, p.2)
    (refused_more (no_slow_lines c.args.netlist.now c.args.bytes.now c.in-Some.refutes c.in-Some.lines.now c.in-Some.ensures) c.in_err-evidence.field-0.0 c.in_err-evidence.ensures)

pub returns-else-has_refutation-refutes : goal.returns-else-has_refutation-refutes
returns-else-has_refutation-refutes c =
    let n = c.args.netlist.now in
    let told = c.has_refutation.ensures ∙ ap has_refutation c.deref.ensures.value in
    other_version n c.args.bytes.now c.in-Some.refutes c.in-Some.lines.now c.in-Some.ensures (first_slow n) c.sound.ensures (first_framed n c.sound.ensures c.requires.design)
    c.in_ok-evidence.evidence.items c.in_ok-evidence.ensures
    (λ e. both_ways (beq c.has_refutation.result c.in-Some.refutes) c.if-has_refutation-refutes.false ((booleans_Decides c.has_refutation.result c.in-Some.refutes).1 (told ∙ e)))
