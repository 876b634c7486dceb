use Rattle.std.proofs.Common.{sym, ◌∙◌}
use Rattle.stil_write.proofs.DistinctLemmas.{not_false, not_true, once, twice}
use Rattle.stil_write.proofs.checking.are_distinct.Goals as goal

pub returns-then-not-added : goal.returns-then-not-added
returns-then-not-added c =
    twice c.args.texts.now c.loop-place.place c.get.result c.loop-place.seen.keys c.get.ensures c.loop-place.invariant.0
    (not_false _ (sym c.in_ok-added.ensures.added ∙ c.if-not-added.true))

pub loop-place-preserved : goal.loop-place-preserved
loop-place-preserved c =
    once c.args.texts.now c.loop-place.place c.get.result c.loop-place.seen.keys c.insert_full.new.self.keys c.get.ensures c.loop-place.invariant.0 c.loop-place.invariant.1
    (not_true _ (sym c.in_ok-added.ensures.added ∙ c.if-not-added.false)) c.in_ok-added.ensures.keys
