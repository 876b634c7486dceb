use Rattle.std.proofs.Common.{◌≡◌, ◌++◌, take}
use Rattle.std.specs.List.{All, flat_map}
use Rattle.statement.specs.declared.lines.Fault.{Fault}
use Rattle.evidence.specs.declared.kinds.Evidence.{Evidence}
use Rattle.certificate.specs.Certificates.{evidence_line, HasSmallNumbers}
use Rattle.certificate.proofs.writing.push_lines.Given as goal

abbrev pub invariant-loop-pair : goal.invariant-loop-pair
invariant-loop-pair l = record {
  text : l.text.items ≡ l.initial.text.items ++ flat_map (evidence_line l.netlist) (take l.pair-index l.evidence);
  within : All (λ (p : Fault × Evidence). HasSmallNumbers p.1) (take l.pair-index l.evidence);
}
