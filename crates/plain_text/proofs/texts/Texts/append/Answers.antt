use Rattle.plain_text.proofs.Appending.{append_more}
use Rattle.plain_text.proofs.texts.Texts.append.Goals as goal

pub loop-place-preserved : goal.loop-place-preserved
loop-place-preserved c = append_more c.args.more.now c.loop-place.place c.get.result.now c.args.self.now c.loop-place.self c.push.new.self c.get.ensures c.loop-place.invariant c.in_ok-push.ensures.ok
