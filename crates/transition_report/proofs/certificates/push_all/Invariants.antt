use Rattle.std.proofs.Common.{◌≡◌, ◌++◌, take}
use Rattle.std.specs.List.{All, flat_map}
use Rattle.statement.specs.declared.lines.Fault.{Fault}
use Rattle.evidence.specs.declared.kinds.Evidence.{Evidence}
use Rattle.certificate.specs.Certificates.{HasSmallNumbers}
use Rattle.transition_report.specs.Texts.{transition_line}
use Rattle.transition_report.proofs.certificates.push_all.Given as goal

abbrev pub invariant-loop-pair : goal.invariant-loop-pair
invariant-loop-pair l = record {
  text : l.text.items ≡ l.initial.text.items ++ flat_map (transition_line l.netlist l.two) (take l.pair-index l.evidence);
  within : All (λ (p : Fault × Evidence). HasSmallNumbers p.1) (take l.pair-index l.evidence);
}
