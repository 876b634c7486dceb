use Rattle.std.proofs.Common.{◌≡◌, ◌++◌, length}
use Rattle.std.specs.List.{All, flat_map}
use Rattle.transition_report.specs.Texts.{transition_line}
use Rattle.transition_report.specs.inner.Parts.{IsWrittenIn}
use Rattle.transition_report.proofs.certificate_reading.read_lines.Given as goal

abbrev pub invariant-loop-rest : goal.invariant-loop-rest
invariant-loop-rest l = record {
  are : All (IsWrittenIn l.names l.two) l.evidence.items;
  is : l.lines ≡ flat_map (transition_line l.names l.two) l.evidence.items ++ l.rest;
}

abbrev pub decreases-loop-rest : goal.decreases-loop-rest
decreases-loop-rest l = length l.rest
