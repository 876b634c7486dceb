use Rattle.stil_write.proofs.PieceLemmas.{joined_first, joined_more}
use Rattle.stil_write.proofs.pieces.push_joined.Goals as goal

pub loop-place-init : goal.loop-place-init
loop-place-init c = joined_first c.args.between.now c.args.names.now c.get.result.now c.args.out.now.items c.push_quoted.new.out.items c.get.ensures c.in_ok-push_quoted.ensures

pub loop-place-preserved : goal.loop-place-preserved
loop-place-preserved c =
    joined_more c.args.between.now c.args.names.now c.loop-place.place c.get-in-loop-place.result.now c.args.out.now.items c.loop-place.out.items c.extend_from_slice.new.self.items c.push_quoted-in-loop-place.new.out.items
    c.get-in-loop-place.ensures c.loop-place.auto.place c.loop-place.invariant c.in_ok-extend_from_slice.ensures.items c.in_ok-push_quoted-2.ensures
