-- What the answers on two frames say of a slow line.
use Rattle.evidence.specs.Laws.{ShownIsRedundant}
use Rattle.transition_frames.specs.Frames.{frames_of, frame_fault}
use Rattle.transition_frames.proofs.Detecting.{frames_detect}
use Rattle.transition_frames.proofs.Soundness.{frames_sound}
use Rattle.transition_sim.specs.Laws.{TestDetectsTransition, ShownHasNoTransition}

pub test_detects_transition : TestDetectsTransition
test_detects_transition n holds f cube point p sound valid test agrees = (frames_detect n f p.inputs p.cells point sound valid).0 (test.detects p agrees)

pub shown_has_no_transition : ShownIsRedundant → ShownHasNoTransition
shown_has_no_transition law n holds f e sound design valid shows none inputs state point obeys t =
    law (frame_fault n f) (frames_of n f) holds e (frames_sound n sound design f valid) shows none inputs state point obeys
    ((frames_detect n f inputs state point sound valid).1 t)
