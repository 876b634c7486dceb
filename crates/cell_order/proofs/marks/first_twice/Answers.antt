use Rattle.std.proofs.Common.{◌<◌, ◌≢◌, Bool, List, length, take, ap, subst, sym, ◌∙◌, arith}
use Rattle.std.specs.List.{AllPairs}
use Rattle.std.proofs.lemmas.List.{take_all}
use Rattle.cell_order.specs.inner.Reads.{is_marked}
use Rattle.cell_order.proofs.MarkLemmas.{below_here, marked_more, once_more, stands_twice}
use Rattle.cell_order.proofs.marks.first_twice.Goals as goal

pub is_marked-requires : goal.is_marked-requires
is_marked-requires c =
    subst (λ (ms : List Bool). c.index-signals-place.result < length ms) (sym c.as_slice.ensures.value)
    (subst (λ m. c.index-signals-place.result < m) (sym c.loop-place.invariant.size)
    (below_here c.args.signals.now c.loop-place.place c.index-signals-place.result c.loop-place-test.true c.index-signals-place.is c.args.bound c.requires))

pub returns-then-is_marked : goal.returns-then-is_marked
returns-then-is_marked c =
    stands_twice c.args.signals.now c.loop-place.place c.index-signals-place.result c.loop-place-test.true c.index-signals-place.is c.loop-place.marks.items
    c.loop-place.invariant.marked c.loop-place.invariant.once (ap (λ (ms : List Bool). is_marked ms c.index-signals-place.result) (sym c.as_slice.ensures.value) ∙ (sym c.is_marked.ensures ∙ c.if-is_marked.true))

pub mark-requires : goal.mark-requires
mark-requires c =
    subst (λ m. c.index-signals-place.result < m) (sym c.loop-place.invariant.size)
    (below_here c.args.signals.now c.loop-place.place c.index-signals-place.result c.loop-place-test.true c.index-signals-place.is c.args.bound c.requires)

pub loop-place-preserved : goal.loop-place-preserved
loop-place-preserved c = record {
  size = c.mark.ensures.size ∙ c.loop-place.invariant.size;
  marked = marked_more c.args.signals.now c.loop-place.place c.index-signals-place.result c.loop-place-test.true c.index-signals-place.is c.mark.new.marks.items
      (c.mark.ensures.marks (take c.loop-place.place c.args.signals.now) c.loop-place.invariant.marked);
  once = once_more c.args.signals.now c.loop-place.place c.index-signals-place.result c.loop-place-test.true c.index-signals-place.is c.loop-place.marks.items
      c.loop-place.invariant.marked c.loop-place.invariant.once (ap (λ (ms : List Bool). is_marked ms c.index-signals-place.result) (sym c.as_slice.ensures.value) ∙ (sym c.is_marked.ensures ∙ c.if-is_marked.false));
}

pub returns : goal.returns
returns c =
    let last = c.loop-place-test.false in
    subst (AllPairs (λ x y. x ≢ y)) (take_all c.loop-place.place c.args.signals.now (omega arith)) c.loop-place.invariant.once
