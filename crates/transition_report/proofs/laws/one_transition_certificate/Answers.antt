use Rattle.std.specs.List.{flat_map}
use Rattle.certificate.specs.Certificates.{has_refutation}
use Rattle.transition_report.proofs.EvidenceLines.{one_certificate, own_line}
use Rattle.transition_report.proofs.FirstFrames.{first_framed, first_slow}
use Rattle.transition_report.proofs.laws.one_transition_certificate.Goals as goal

pub returns : goal.returns
returns c n bytes evidence others sound design v w =
    one_certificate n bytes (has_refutation evidence) (flat_map (own_line n) evidence) v.text (first_slow n) sound (first_framed n sound design) evidence others v w
