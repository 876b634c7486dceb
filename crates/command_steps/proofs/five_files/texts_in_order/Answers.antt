use Rattle.std.proofs.Common.{refl}
use Rattle.command_steps.proofs.five_files.texts_in_order.Goals as goal

pub returns : goal.returns
returns c = record {
  texts = rw (c.in_ok-push-5.ensures.items, c.in_ok-push-4.ensures.items, c.in_ok-push-3.ensures.items, c.in_ok-push-2.ensures.items, c.in_ok-push.ensures.items, c.new-texts.ensures.items) refl;
  count = rw (c.in_ok-push-5.ensures.items, c.in_ok-push-4.ensures.items, c.in_ok-push-3.ensures.items, c.in_ok-push-2.ensures.items, c.in_ok-push.ensures.items, c.new-texts.ensures.items) refl;
}
