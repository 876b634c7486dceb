use Rattle.std.proofs.lemmas.List.Elements.{All-more}
use Rattle.std.proofs.lemmas.Option.{slice_get_read}
use Rattle.std.proofs.Common.{refl, subst}
use Rattle.statement.specs.declared.lines.Fault.{Fault}
use Rattle.evidence.specs.declared.kinds.Evidence.{Evidence}
use Rattle.certificate.specs.Certificates.{HasSmallNumbers}
use Rattle.report.proofs.WriteLemmas.{next_written}
use Rattle.transition_report.specs.Texts.{transition_line}
use Rattle.transition_report.proofs.certificates.push_all.Goals as goal

pub loop-pair-preserved : goal.loop-pair-preserved
loop-pair-preserved c =
    let es = c.args.evidence.now in
    let i = c.loop-pair.pair-index in
    let p = c.pair-item.result in
    record {
      text = next_written (transition_line c.args.netlist.now c.args.two.now) es i p c.args.text.now.items c.loop-pair.text.items c.push_one.new.text.items
          (slice_get_read es _ i p refl c.loop-pair-test.true c.pair-item.is) c.loop-pair.invariant.text c.in_ok-push_one.ensures.text;
      within = All-more (λ (q : Fault × Evidence). HasSmallNumbers q.1) es i p c.loop-pair-test.true c.loop-pair.invariant.within
          (subst (λ (q : Fault × Evidence). HasSmallNumbers q.1) c.pair-item.is c.in_ok-push_one.ensures.within);
    }
