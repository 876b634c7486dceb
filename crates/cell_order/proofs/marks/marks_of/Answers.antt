use Rattle.std.proofs.Common.{◌<◌, take, subst, sym, ◌∙◌, arith}
use Rattle.std.proofs.lemmas.List.{take_all}
use Rattle.cell_order.specs.inner.Reads.{AreMarked}
use Rattle.cell_order.proofs.MarkLemmas.{below_here, marked_more}
use Rattle.cell_order.proofs.marks.marks_of.Goals as goal

pub mark-requires : goal.mark-requires
mark-requires c =
    subst (λ m. c.signal-item.result < m) (sym c.loop-signal.invariant.size)
    (below_here c.args.signals.now c.loop-signal.signal-index c.signal-item.result c.loop-signal-test.true c.signal-item.is c.args.bound c.requires)

pub loop-signal-preserved : goal.loop-signal-preserved
loop-signal-preserved c = record {
  size = c.mark.ensures.size ∙ c.loop-signal.invariant.size;
  marked = marked_more c.args.signals.now c.loop-signal.signal-index c.signal-item.result c.loop-signal-test.true c.signal-item.is c.mark.new.marks.items
      (c.mark.ensures.marks (take c.loop-signal.signal-index c.args.signals.now) c.loop-signal.invariant.marked);
}

pub returns-clause-marks : goal.returns-clause-marks
returns-clause-marks c =
    let last = c.loop-signal-test.false in
    subst (λ done. AreMarked done c.loop-signal.marks.items) (take_all c.loop-signal.signal-index c.args.signals.now (omega arith)) c.loop-signal.invariant.marked
