use Rattle.std.proofs.Common.{ap, ◌∙◌, ◌++◌, ◌∷◌, []}
use Rattle.stil_read.proofs.AssignLemmas.{quoted_more}
use Rattle.stil_read.proofs.assigned.in_quotes.Goals as goal

pub loop-place-preserved : goal.loop-place-preserved
loop-place-preserved c =
    quoted_more c.args.names.now c.loop-place.place c.get.result.now c.loop-place.labels c.push-in-loop-place-2.new.self c.clear.new.self.items c.push.new.self.items c.extend_from_slice.new.self.items c.push-in-loop-place.new.self.items
    c.get.ensures c.loop-place.invariant c.clear.ensures.items c.in_ok-push.ensures.items c.in_ok-extend_from_slice.ensures.items c.in_ok-push-2.ensures.items
    (c.in_ok-push-3.ensures.ok ∙ ap (λ l. c.loop-place.labels ++ l ∷ []) c.deref.ensures.value)
