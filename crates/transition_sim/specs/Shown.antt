-- Evidence for a slow line, on its two frames. Their inputs are those of the netlist, so held inputs are the same of both.
use Rattle.std.specs.Prelude.{List}
use Rattle.statement.specs.declared.lines.Fault.{Fault}
use Rattle.statement.specs.Netlists.{Netlist}
use Rattle.statement.specs.Patterns.{Holds}
use Rattle.redundancy_cert.specs.declared.nodes.Node.{Node}
use Rattle.redundancy_cert.specs.Fits.{Fits}
use Rattle.evidence.specs.declared.kinds.Evidence.{Evidence}
use Rattle.evidence.specs.Evidence.{Shows}
use Rattle.transition_frames.specs.Frames.{frames_of, frame_fault}

-- the tree fits the stuck-at fault of the two frames under these held inputs
abbrev pub FitsFrames : Netlist → Holds → Fault → List Node → Type 0
FitsFrames n holds f tree = Fits (frame_fault n f) (frames_of n f) holds tree

-- the tree fits it, or the steps refute it
abbrev pub ShowsFrames : Netlist → Holds → Fault → Evidence → Type 0
ShowsFrames n holds f e = Shows (frame_fault n f) (frames_of n f) holds e
