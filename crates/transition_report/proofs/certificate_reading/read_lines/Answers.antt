use Rattle.std.proofs.Common.{sym, subst, ◌∙◌}
use Rattle.std.proofs.lemmas.Result.{err_from_is_err_and}
use Rattle.netlist.specs.Conditions.{IsSound}
use Rattle.certificate.proofs.EvidenceTexts.{refused_more, some_left}
use Rattle.report.proofs.LineLemmas.{next_valid, no_end, no_words}
use Rattle.transition_report.specs.Texts.{transition_line}
use Rattle.transition_report.specs.inner.Parts.{IsWrittenIn, slow_words}
use Rattle.transition_report.proofs.EvidenceLines.{slow_line_read, slow_lined, slow_lists_told}
use Rattle.transition_report.proofs.certificate_reading.read_lines.Goals as goal

pub returns-in_default : goal.returns-in_default
returns-in_default c =
    let n = c.args.names.now in
    let two = c.args.two.now in
    let sound = subst IsSound c.netlist.ensures c.sound.ensures in
    let framed = subst IsSound c.netlist-2.ensures c.sound-2.ensures in
    let i = c.loop-rest.invariant in
    λ others w.
    some_left c.loop-rest.rest.now c.is_empty.result c.is_empty.ensures c.loop-rest-test.true
    (slow_lists_told n two sound framed c.loop-rest.evidence.items others c.loop-rest.rest.now i.are w.each
    (no_end (IsWrittenIn n two) (slow_words n two) (transition_line n two) (slow_lined n two sound framed) c.loop-rest.rest.now c.in_default.ensures) (sym i.is ∙ w.is)).1

pub returns-in_err-pair : goal.returns-in_err-pair
returns-in_err-pair c =
    let n = c.args.names.now in
    let two = c.args.two.now in
    let sound = subst IsSound c.netlist.ensures c.sound.ensures in
    let framed = subst IsSound c.netlist-2.ensures c.sound-2.ensures in
    let i = c.loop-rest.invariant in
    let p = err_from_is_err_and c.from_residual.result c.from_residual.ensures.1 in
    rw (p.1, p.2)
    (refused_more
    (λ none others w.
    some_left c.loop-rest.rest.now c.is_empty.result c.is_empty.ensures c.loop-rest-test.true
    (slow_lists_told n two sound framed c.loop-rest.evidence.items others c.loop-rest.rest.now i.are w.each
    (no_words (IsWrittenIn n two) (slow_words n two) (transition_line n two) (slow_lined n two sound framed) c.loop-rest.rest.now c.in-Some.parts.0.now c.in-Some.parts.1.now
    c.in-Some.ensures.0 c.in-Some.ensures.1 (λ q v e. none q (record { written = v; text = e }))) (sym i.is ∙ w.is)).1)
    c.in_err-pair.field-0.0 c.in_err-pair.ensures)

pub loop-rest-preserved : goal.loop-rest-preserved
loop-rest-preserved c =
    let n = c.args.names.now in
    let two = c.args.two.now in
    let sound = subst IsSound c.netlist.ensures c.sound.ensures in
    let framed = subst IsSound c.netlist-2.ensures c.sound-2.ensures in
    let i = c.loop-rest.invariant in
    record {
      are = next_valid (IsWrittenIn n two) c.loop-rest.evidence.items c.push.new.self.items c.in_ok-pair.pair i.are c.in_ok-pair.ensures.written c.in-Ok.ensures.items;
      is = slow_line_read n two sound framed c.loop-rest.evidence.items c.push.new.self.items c.in_ok-pair.pair c.args.lines.now c.loop-rest.rest.now
          c.in-Some.parts.0.now c.in-Some.parts.1.now i.is c.in-Some.ensures.1 c.in_ok-pair.ensures c.in-Ok.ensures.items;
    }
