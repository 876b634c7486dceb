use Rattle.std.proofs.Common.{◌∙◌}
use Rattle.std.proofs.lemmas.Result.{MatchResult-weaker}
use Rattle.certificate.proofs.EvidenceTexts.{refused_more}
use Rattle.transition_report.proofs.EvidenceLines.{no_own_lines, own_lines}
use Rattle.transition_report.proofs.certificate_reading.lines_by.Goals as goal

pub returns : goal.returns
returns c =
    let n = c.args.netlist.now in
    let names = c.in-Ok.names in
    let two = c.in-Ok-of.index in
    let slow = c.requires.0 in
    let framed = c.in-Ok-of.ensures ∙ c.requires.1 in
    MatchResult-weaker c.read_lines-evidence.result c.read_lines-evidence.ensures (λ evidence w. own_lines n names two slow c.in-Ok.ensures framed c.args.lines.now evidence.items w)
    (λ fault w. refused_more (no_own_lines n names two slow c.in-Ok.ensures framed c.args.lines.now) fault w)
