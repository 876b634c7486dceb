use Rattle.stil_write.specs.StilFiles.{item_of}
use Rattle.stil_read.proofs.ItemLemmas.{item_more, item_shorter}
use Rattle.stil_read.proofs.items.items.Goals as goal

pub items-smaller : goal.items-smaller
items-smaller c =
    let next = rw c.in-Some.is at c.in_ok-next.ensures in
    item_shorter c.args.called.now c.args.assigned.now (item_of c.in-Some.kind c.item_at.new.words) _ _ next.1

pub items-preserved : goal.items-preserved
items-preserved c =
    let next = rw c.in-Some.is at c.in_ok-next.ensures in
    item_more _ _ _ c.items.items c.push.new.self (item_of c.in-Some.kind c.item_at.new.words) _ _ c.items.invariant next.0 next.1 c.in_ok-push.ensures
