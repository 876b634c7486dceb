use Rattle.std.proofs.Common.{subst}
use Rattle.netlist.specs.Conditions.{IsSound}
use Rattle.certificate.specs.Certificates.{HasSignal}
use Rattle.certificate.proofs.EvidenceTexts.{no_nodes, node_more, push_more, some_left}
use Rattle.certificate.proofs.line.read_nodes.Goals as goal

pub returns-in_default : goal.returns-in_default
returns-in_default c =
    let i = c.loop-rest.invariant in
    no_nodes c.args.names.now (subst IsSound c.netlist.ensures c.sound.ensures) c.args.text.now c.loop-rest.nodes.items c.loop-rest.rest.now i.signals i.is i.end
    (some_left c.loop-rest.rest.now c.is_empty.result c.is_empty.ensures c.loop-rest-test.true) c.in_default.ensures

pub loop-rest-preserved : goal.loop-rest-preserved
loop-rest-preserved c =
    let i = c.loop-rest.invariant in
    let n = c.args.names.now in
    let at = c.in-Some.ensures in
    record {
      signals = push_more (HasSignal n) c.loop-rest.nodes.items c.push.new.self.items c.in-Some.next.0 c.in-Ok.ensures.items i.signals at.signal;
      is = node_more n c.args.text.now c.loop-rest.nodes.items c.push.new.self.items c.loop-rest.rest.now c.in-Some.next.1.now c.in-Some.next.0 c.in-Ok.ensures.items i.is at;
      end = at.end;
    }
