use Rattle.std.proofs.Common.{◌<◌, get_or, sym, subst, refl}
use Rattle.events.proofs.Fans.{marks_nothing, marks_more}
use Rattle.events.proofs.resettling.call.Goals as goal

pub loop-place-init : goal.loop-place-init
loop-place-init c = marks_nothing c.args.agenda.now

pub insert-requires : goal.insert-requires
insert-requires c = subst (λ n. get_or c.args.row.now c.loop-place.place-index 0 < n) (sym c.loop-place.invariant.size)
    (c.requires c.loop-place.place-index 0 c.loop-place-test.true)

pub loop-place-preserved : goal.loop-place-preserved
loop-place-preserved c =
    marks_more c.args.row.now c.loop-place.place-index (get_or c.args.row.now c.loop-place.place-index 0) c.args.agenda.now c.loop-place.agenda c.insert.new.self c.loop-place-test.true refl
    (subst (λ n. get_or c.args.row.now c.loop-place.place-index 0 < n) (sym c.loop-place.invariant.size) (c.requires c.loop-place.place-index 0 c.loop-place-test.true))
    c.insert.ensures c.loop-place.invariant
