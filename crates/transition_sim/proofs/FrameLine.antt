-- The fault of two frames stands on a line of theirs.
use Rattle.std.proofs.Common.{◌≡◌, sym, subst, arith}
use Rattle.statement.specs.declared.lines.Fault.{Fault}
use Rattle.statement.specs.Netlists.{Netlist}
use Rattle.netlist.specs.Conditions.{IsSound}
use Rattle.netlist.specs.Lines.{IsLineOf}
use Rattle.netlist.proofs.Placed.{signal_from}
use Rattle.transition_frames.specs.Frames.{frames_of, frame_fault, tie}
use Rattle.transition_frames.proofs.Numbered.{frames_count}

-- the tie stands in the frames
tie_there : (n : Netlist) (f : Fault) → IsSound (frames_of n f) → IsLineOf (frames_of n f) (frame_fault n f).line
tie_there n f sound = signal_from (frames_of n f) sound.formed.numbered (tie n) (omega (arith, frames_count n f))

-- and so in a netlist that is these
pub frame_line : (n : Netlist) (f : Fault) (core : Netlist) (t : Fault) → core ≡ frames_of n f → IsSound core → t ≡ frame_fault n f → IsLineOf core t.line
frame_line n f core t same sound is =
    subst (λ (m : Netlist). IsLineOf m t.line) (sym same)
    (subst (λ (g : Fault). IsLineOf (frames_of n f) g.line) (sym is) (tie_there n f (subst IsSound same sound)))
