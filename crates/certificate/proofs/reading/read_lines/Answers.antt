use Rattle.std.proofs.Common.{subst}
use Rattle.std.proofs.lemmas.Result.{err_from_is_err_and}
use Rattle.netlist.specs.Conditions.{IsSound}
use Rattle.certificate.specs.Certificates.{IsEvidence}
use Rattle.certificate.proofs.EvidenceTexts.{push_more, refused_more, some_left}
use Rattle.certificate.proofs.LineTexts.{line_more, no_line, no_line_end}
use Rattle.certificate.proofs.reading.read_lines.Goals as goal

pub returns-in_default : goal.returns-in_default
returns-in_default c =
    let i = c.loop-rest.invariant in
    no_line_end c.args.names.now (subst IsSound c.netlist.ensures c.sound.ensures) c.args.lines.now c.loop-rest.evidence.items c.loop-rest.rest.now i.are i.is
    (some_left c.loop-rest.rest.now c.is_empty.result c.is_empty.ensures c.loop-rest-test.true) c.in_default.ensures

pub returns-in_err-pair : goal.returns-in_err-pair
returns-in_err-pair c =
    let i = c.loop-rest.invariant in
    let p = err_from_is_err_and c.from_residual.result c.from_residual.ensures.1 in
    rw (p.1, p.2)
    (refused_more (no_line c.args.names.now (subst IsSound c.netlist.ensures c.sound.ensures) c.args.lines.now c.loop-rest.evidence.items c.loop-rest.rest.now i.are i.is
    c.in-Some.parts.0.now c.in-Some.parts.1.now c.in-Some.ensures.0 c.in-Some.ensures.1) c.in_err-pair.field-0.0 c.in_err-pair.ensures)

pub loop-rest-preserved : goal.loop-rest-preserved
loop-rest-preserved c =
    let i = c.loop-rest.invariant in
    let n = c.args.names.now in
    record {
      are = push_more (IsEvidence n) c.loop-rest.evidence.items c.push.new.self.items c.in_ok-pair.pair c.in-Ok.ensures.items i.are c.in_ok-pair.ensures.evidence;
      is = line_more n (subst IsSound c.netlist.ensures c.sound.ensures) c.args.lines.now c.loop-rest.evidence.items c.loop-rest.rest.now i.are i.is
          c.in-Some.parts.0.now c.in-Some.parts.1.now c.in-Some.ensures.0 c.in-Some.ensures.1 c.in_ok-pair.pair c.push.new.self.items c.in-Ok.ensures.items c.in_ok-pair.ensures;
    }
