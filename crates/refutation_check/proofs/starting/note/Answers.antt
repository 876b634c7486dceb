use Rattle.std.proofs.Common.{refl, inl, inr}
use Rattle.refutation_check.proofs.starting.note.Goals as goal

pub returns-then-is_plain : goal.returns-then-is_plain
returns-then-is_plain c = inl (refl, c.is_plain.ensures c.if-is_plain.true)

pub returns : goal.returns
returns c = inr c.in_ok-push.ensures.items
