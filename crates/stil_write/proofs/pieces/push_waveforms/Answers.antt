use Rattle.stil_write.specs.Pieces.{waveform_line}
use Rattle.stil_write.proofs.LoopLemmas.{flat_more}
use Rattle.stil_write.proofs.pieces.push_waveforms.Goals as goal

pub loop-place-preserved : goal.loop-place-preserved
loop-place-preserved c =
    flat_more (waveform_line c.args.kind.now) c.args.names.now c.loop-place.place c.get.result.now c.args.out.now.items c.loop-place.out.items c.push_waveform.new.out.items c.get.ensures c.loop-place.invariant c.in_ok-push_waveform.ensures
