use Rattle.std.proofs.Common.{◌∙◌, ap, subst}
use Rattle.std.proofs.Math.Bool.{beq}
use Rattle.std.specs.Cmp.{booleans_Decides}
use Rattle.std.proofs.lemmas.Bool.{both_ways}
use Rattle.netlist.specs.Conditions.{IsSound}
use Rattle.certificate.specs.Certificates.{has_refutation}
use Rattle.certificate.proofs.FirstLines.{other_version}
use Rattle.certificate.proofs.reading.read_evidence.Goals as goal

pub returns-else-has_refutation-first : goal.returns-else-has_refutation-first
returns-else-has_refutation-first c =
    let told = c.has_refutation.ensures ∙ ap has_refutation c.deref.ensures.value in
    other_version c.args.core.now c.args.bytes.now c.in-Some.first.0 c.in-Some.first.1.now c.in-Some.ensures (subst IsSound c.netlist.ensures c.sound.ensures)
    c.in_ok-evidence.evidence.items c.in_ok-evidence.ensures
    (λ e. both_ways (beq c.has_refutation.result c.in-Some.first.0) c.if-has_refutation-first.false ((booleans_Decides c.has_refutation.result c.in-Some.first.0).1 (told ∙ e)))
