use Rattle.std.proofs.Common.{subst}
use Rattle.netlist.specs.Conditions.{IsSound}
use Rattle.certificate.proofs.FaultTexts.{fault_here, no_cut, no_member_text}
use Rattle.certificate.proofs.line.fault_at.Goals as goal

pub returns-in_default : goal.returns-in_default
returns-in_default c = no_cut c.args.names.now (subst IsSound c.netlist.ensures c.sound.ensures) c.args.line.now c.in_default.ensures

pub returns-in-None : goal.returns-in-None
returns-in-None c =
    no_member_text c.args.names.now (subst IsSound c.netlist.ensures c.sound.ensures) c.args.line.now c.in-Some.parts.0.now c.in-Some.parts.1.now c.in-Some.ensures c.in-None.ensures

pub returns-in-Some-fault_named : goal.returns-in-Some-fault_named
returns-in-Some-fault_named c =
    fault_here c.args.names.now (subst IsSound c.netlist.ensures c.sound.ensures) c.args.line.now c.in-Some.parts.0.now c.in-Some.parts.1.now c.in-Some-fault_named.fault c.in-Some.ensures
    c.in-Some-fault_named.ensures.0 c.in-Some-fault_named.ensures.1
