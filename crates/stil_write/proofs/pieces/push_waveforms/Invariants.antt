use Rattle.std.proofs.Common.{◌≡◌, ◌++◌, take}
use Rattle.stil_write.specs.Pieces.{waveform_lines}
use Rattle.stil_write.proofs.pieces.push_waveforms.Given as goal

abbrev pub invariant-loop-place : goal.invariant-loop-place
invariant-loop-place l = l.out.items ≡ l.fn.out.items ++ waveform_lines l.kind (take l.place l.names)
