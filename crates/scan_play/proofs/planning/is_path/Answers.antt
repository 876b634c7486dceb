use Rattle.std.proofs.Common.{◌<◌, List, ℕ, length, sym, ◌∙◌, subst, arith}
use Rattle.std.proofs.lemmas.List.{get_or_default, take_all}
use Rattle.scan_play.specs.inner.Plans.{AreMarked, AreReady}
use Rattle.scan_play.proofs.PlanMarks.{reads_step, ready_step}
use Rattle.scan_play.proofs.planning.is_path.Goals as goal

pub loop-gate-init : goal.loop-gate-init
loop-gate-init c = record { reads = λ k g l gate e. absurd (omega (arith, l)); ready = c.requires.ready }

pub reads_marked-requires-clause-gate : goal.reads_marked-requires-clause-gate
reads_marked-requires-clause-gate c =
    let l : c.loop-gate.gate-index < length c.args.steps.now = c.loop-gate-test.true in
    let w = c.requires.gates c.loop-gate.gate-index 0 l in
    (w.0, w.1, w.2 ∙ sym (c.gate-item.is ∙ get_or_default c.args.steps.now c.loop-gate.gate-index c.gate-item.result 0 l))

pub loop-gate-preserved : goal.loop-gate-preserved
loop-gate-preserved c =
    let n = c.args.netlist.now in
    let steps = c.args.steps.now in
    let m = c.loop-gate.gate-index in
    let x = c.gate-item.result in
    let old = c.loop-gate.ready.items in
    record {
      reads = reads_step n c.args.base.now steps m x old c.loop-gate-test.true c.gate-item.is c.loop-gate.invariant.ready
          (λ g gate same. subst (λ marks. AreMarked marks g.pins) c.deref.ensures.value (c.reads_marked.ensures c.if-not-reads_marked.false g gate same))
          c.loop-gate.invariant.reads;
      ready = ready_step n c.args.base.now steps m x old c.mark.new.marks.items c.loop-gate-test.true c.gate-item.is c.loop-gate.invariant.ready c.mark.ensures;
    }

pub returns : goal.returns
returns c e =
    let n = c.args.netlist.now in
    let steps = c.args.steps.now in
    let m = c.loop-gate.gate-index in
    let f = c.loop-gate-test.false in (
      record {
        are_gates = c.requires.gates;
        reads = λ k g l gate same. c.loop-gate.invariant.reads k g (omega (arith, l, f)) gate same;
      },
      subst (λ (done : List ℕ). AreReady n c.args.base.now done c.loop-gate.ready.items) (take_all m steps (omega arith)) c.loop-gate.invariant.ready,
    )
