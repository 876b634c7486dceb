-- The law of batches, the contract of a function of its name.
use Rattle.std.specs.Prelude.{ℕ, ◌≡◌, List, Some}
use Rattle.std.specs.List.{All, AllPairs, slice_get}
use Rattle.statement.specs.declared.lines.Fault.{Fault}
use Rattle.statement.specs.Netlists.{Netlist}
use Rattle.statement.specs.Patterns.{Holds}
use Rattle.netlist.specs.Conditions.{IsSound}
use Rattle.netlist.specs.Designs.{IsDesign}
use Rattle.netlist.specs.Lines.{IsLineOf}
use Rattle.evidence.specs.declared.engine.Found.{Found}
use Rattle.evidence.specs.Answers.{HasEvidence}
use Rattle.transition_frames.specs.Frames.{frames_of, frame_fault}
use Rattle.transition_batches.specs.Batches.{batch_of, batch_fault, AreApart, DecidesFrames}

-- What is evidence for a slow line in a batch of such that stand apart is evidence on its own two frames, under the same held inputs.
abbrev pub BatchCarries : Type 0
BatchCarries =
    (n : Netlist) (holds : Holds) (fs : List Fault) (j : ℕ) (f : Fault) (limit : ℕ) (found : Found)
    → IsSound n → IsDesign n → All (λ (g : Fault). IsLineOf n g.line) fs → AllPairs (AreApart n) fs → IsSound (batch_of n fs)
    → slice_get fs j ≡ Some f → DecidesFrames n found
    → HasEvidence (batch_fault n j f) (batch_of n fs) holds limit found
    → HasEvidence (frame_fault n f) (frames_of n f) holds limit found
