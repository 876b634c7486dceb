use Rattle.std.proofs.Common.{refl}
use Rattle.head_lines.proofs.Wanting.{wanted_in}
use Rattle.head_lines.proofs.wants.forget.Goals as goal

pub loop-id-init : goal.loop-id-init
loop-id-init c = (refl, wanted_in c.args.wants.now.items c.args.queue.now.items c.requires)
