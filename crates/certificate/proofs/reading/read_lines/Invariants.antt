use Rattle.std.proofs.Common.{◌≡◌, ◌++◌, length}
use Rattle.std.specs.List.{All, flat_map}
use Rattle.certificate.specs.Certificates.{evidence_line, IsEvidence}
use Rattle.certificate.proofs.reading.read_lines.Given as goal

abbrev pub invariant-loop-rest : goal.invariant-loop-rest
invariant-loop-rest l = record {
  are : All (IsEvidence l.names) l.evidence.items;
  is : l.lines ≡ flat_map (evidence_line l.names) l.evidence.items ++ l.rest;
}

abbrev pub decreases-loop-rest : goal.decreases-loop-rest
decreases-loop-rest l = length l.rest
