-- What is found of a slow line's first evidence.
use Rattle.std.proofs.Common.{◌≡◌, ℕ, List, length, get_or, Option, Some, Result, IfOk, sym, subst}
use Rattle.std.specs.List.{All}
use Rattle.std.proofs.lemmas.List.Elements.{All-get_or}
use Rattle.statement.specs.declared.lines.Fault.{Fault}
use Rattle.statement.specs.Netlists.{Netlist}
use Rattle.statement.specs.Patterns.{Holds}
use Rattle.netlist.specs.Holds.{AreHoldsOf}
use Rattle.redundancy_cert.specs.declared.counts.Counts.{Counts}
use Rattle.evidence.specs.declared.kinds.Evidence.{Evidence}
use Rattle.evidence.specs.Evidence.{Shows}
use Rattle.certificate.specs.Certificates.{IsWellFormed}
use Rattle.transition_frames.specs.Frames.{frames_of, frame_fault}
use Rattle.transition_sim.specs.Shown.{ShowsFrames}
use Rattle.transition_report.specs.Reading.{IsTransitionEvidence}
use Rattle.check_parts.specs.Checkers.{AreShown}
use Rattle.check_parts.specs.Firsts.{IsFirst}
use Rattle.check_parts.proofs.EndLemmas.{is_fault}

-- on the two frames of a slow line
pub shown_frames : {E : Type 0} (n : Netlist) (holds : Holds) (f : Fault) (core : Netlist) (slow : Fault) (e : Evidence) (r : Result (Option Counts) E) → core ≡ frames_of n f → slow ≡ frame_fault n f
    → IfOk r (AreShown (Shows slow core holds e) e) → IfOk r (AreShown (ShowsFrames n holds f e) e)
shown_frames n holds f core slow e r same is shown =
    subst (λ (g : Fault). IfOk r (AreShown (Shows g (frames_of n f) holds e) e)) is
    (subst (λ (m : Netlist). IfOk r (AreShown (Shows slow m holds e) e)) same shown)

-- whose inputs are those of the netlist
pub held_frames : (n : Netlist) (holds : Holds) (f : Fault) (core : Netlist) → core ≡ frames_of n f → AreHoldsOf n holds → AreHoldsOf core holds
held_frames n holds f core same held = subst (λ (m : Netlist). AreHoldsOf m holds) (sym same) held

-- evidence that is read is well formed on the two frames of its slow line
pub formed : (n : Netlist) (evidence : List (Fault × Evidence)) (f : Fault) (k : ℕ) (p : Fault × Evidence) → IsFirst evidence (length evidence) f (Some k) → All (IsTransitionEvidence n) evidence
    → IsWellFormed (frames_of n f) (get_or evidence k p).1
formed n evidence f k p first each =
    subst (λ (g : Fault). IsWellFormed (frames_of n g) (get_or evidence k p).1) (is_fault evidence f k p first) (All-get_or (IsTransitionEvidence n) evidence k p first.within each).formed
