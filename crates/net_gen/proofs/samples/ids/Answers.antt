use Rattle.std.proofs.Common.{refl}
use Rattle.net_gen.proofs.DrawLemmas.{ids_more}
use Rattle.net_gen.proofs.samples.ids.Goals as goal

pub loop-k-preserved : goal.loop-k-preserved
loop-k-preserved c = ids_more c.args.first c.loop-k.k c.loop-k.ids.items c.push.new.self.items _ refl c.in_ok-push.ensures.items c.loop-k.invariant
