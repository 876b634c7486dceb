use Rattle.std.proofs.Common.{◌≡◌, true, length, subst, sym, ◌∙◌, arith}
use Rattle.std.specs.List.{All}
use Rattle.std.proofs.lemmas.List.{take_all}
use Rattle.cell_order.specs.inner.Reads.{is_marked}
use Rattle.cell_order.proofs.MarkLemmas.{all_more, below_here, first_unmarked}
use Rattle.cell_order.proofs.marks.first_unmarked.Goals as goal

pub is_marked-requires : goal.is_marked-requires
is_marked-requires c =
    below_here c.args.signals.now c.loop-place.place c.index-signals-place.result c.loop-place-test.true c.index-signals-place.is (length c.args.marks.now) c.requires

pub returns-then-not-is_marked : goal.returns-then-not-is_marked
returns-then-not-is_marked c =
    first_unmarked c.args.signals.now c.loop-place.place c.index-signals-place.result c.loop-place-test.true c.index-signals-place.is c.args.marks.now c.loop-place.invariant
    (sym c.is_marked.ensures ∙ c.if-not-is_marked.true)

pub loop-place-preserved : goal.loop-place-preserved
loop-place-preserved c =
    all_more c.args.signals.now c.loop-place.place c.index-signals-place.result c.loop-place-test.true c.index-signals-place.is (λ x. is_marked c.args.marks.now x ≡ true) c.loop-place.invariant
    (sym c.is_marked.ensures ∙ c.if-not-is_marked.false)

pub returns : goal.returns
returns c =
    let last = c.loop-place-test.false in
    subst (All (λ x. is_marked c.args.marks.now x ≡ true)) (take_all c.loop-place.place c.args.signals.now (omega arith)) c.loop-place.invariant
