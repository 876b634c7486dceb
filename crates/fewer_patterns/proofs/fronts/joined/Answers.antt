use Rattle.fewer_patterns.proofs.Joining.{joined_all}
use Rattle.fewer_patterns.proofs.fronts.joined.Goals as goal

pub returns : goal.returns
returns c =
    joined_all c.args.start c.args.less c.args.last.now c.args.front.now c.args.never.now c.loop-k.k c.loop-k.next.front c.loop-k.next.never c.loop-k.told.items c.loop-k-test.false
    c.loop-k.invariant.2
