-- The search for a slow line on its own two frames.
use Rattle.std.proofs.Common.{ℕ, Bool, ◌≡◌, ◌∙◌, length, ap, sym, subst}
use Rattle.statement.specs.declared.lines.Fault.{Fault}
use Rattle.statement.specs.Netlists.{Netlist}
use Rattle.statement.specs.Patterns.{Holds}
use Rattle.netlist.specs.Holds.{AreHoldsOf}
use Rattle.evidence.specs.declared.engine.Found.{Found}
use Rattle.evidence.specs.Answers.{HasEvidence, MayAnswer}
use Rattle.transition_frames.specs.Frames.{frames_of, frame_fault}
use Rattle.transition.specs.Searches.{HasFrameEvidence}

-- held inputs of the netlist are such of its frames, whose inputs are the same
pub held_in_frames : (n : Netlist) (f : Fault) (core : Netlist) (holds : Holds) → core ≡ frames_of n f → AreHoldsOf n holds → AreHoldsOf core holds
held_in_frames n f core holds same held = held ∙ sym (ap (λ (m : Netlist). length m.inputs) same)

-- what it answers is evidence on them
pub frame_evidence : (n : Netlist) (holds : Holds) (limit : ℕ) (refutes : Bool) (f : Fault) (core : Netlist) (t : Fault) (found : Found) → core ≡ frames_of n f → t ≡ frame_fault n f
    → HasEvidence t core holds limit found → MayAnswer refutes found → HasFrameEvidence n holds limit refutes f found
frame_evidence n holds limit refutes f core t found same is evidence kind = record {
  evidence = subst (λ (m : Netlist). HasEvidence (frame_fault n f) m holds limit found) same (subst (λ (g : Fault). HasEvidence g core holds limit found) is evidence);
  kind = kind;
}
