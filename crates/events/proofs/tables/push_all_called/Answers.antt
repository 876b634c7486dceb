use Rattle.events.proofs.Fans.{called_more}
use Rattle.events.proofs.tables.push_all_called.Goals as goal

pub loop-line-preserved : goal.loop-line-preserved
loop-line-preserved c =
    called_more c.args.places.now c.args.bound c.args.lines.now c.loop-line.line-index c.line-item.result c.args.fan.now.items c.loop-line.fan.items c.push_called.new.fan.items
    c.loop-line-test.true c.line-item.is c.loop-line.invariant c.in_ok-push_called.ensures
