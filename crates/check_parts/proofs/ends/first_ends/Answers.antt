use Rattle.std.proofs.Common.{subst, sym}
use Rattle.std.specs.List.{All}
use Rattle.std.proofs.lemmas.List.Elements.{All-weaker}
use Rattle.statement.specs.declared.lines.Fault.{Fault}
use Rattle.statement.specs.Netlists.{Netlist}
use Rattle.evidence.specs.declared.kinds.Evidence.{Evidence}
use Rattle.certificate.specs.Certificates.{IsEvidence}
use Rattle.check_parts.specs.Firsts.{IsOfFault}
use Rattle.check_parts.proofs.ends.first_ends.Goals as goal

pub of-requires : goal.of-requires
of-requires c =
    let n = c.args.core.now in
    subst (λ (m : Netlist). All (IsOfFault m) c.args.evidence.now) (sym c.netlist-2.ensures)
    (All-weaker (IsEvidence n) (IsOfFault n) (λ (p : Fault × Evidence) is. is.fault) c.args.evidence.now c.requires.each)
