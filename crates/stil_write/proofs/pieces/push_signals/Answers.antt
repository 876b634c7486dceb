use Rattle.stil_write.specs.Pieces.{signal_line}
use Rattle.stil_write.proofs.LoopLemmas.{flat_more}
use Rattle.stil_write.proofs.pieces.push_signals.Goals as goal

pub loop-place-preserved : goal.loop-place-preserved
loop-place-preserved c =
    flat_more (signal_line c.args.kind.now) c.args.names.now c.loop-place.place c.get.result.now c.args.out.now.items c.loop-place.out.items c.push_signal.new.out.items c.get.ensures c.loop-place.invariant c.in_ok-push_signal.ensures
