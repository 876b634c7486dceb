-- What is evidence for a slow line in a batch is evidence on its own two frames.
use Rattle.std.proofs.Common.{◌≡◌, ℕ, ◌+◌, ◌*◌, List, length, Some, sym, ◌∙◌, ap, inl, inr, arith, cond}
use Rattle.std.proofs.lemmas.Bool.{lt-ltb}
use Rattle.std.proofs.lemmas.List.{length-map}
use Rattle.std.specs.List.{All, AllPairs, slice_get}
use Rattle.statement.specs.declared.lines.Fault.{Fault}
use Rattle.statement.specs.Netlists.{Netlist, cells}
use Rattle.statement.specs.Patterns.{Holds}
use Rattle.netlist.specs.Conditions.{IsSound}
use Rattle.netlist.specs.Designs.{IsDesign}
use Rattle.netlist.specs.Lines.{IsLineOf}
use Rattle.netlist.proofs.Placed.{signal_from}
use Rattle.evidence.specs.declared.engine.Found.{Found}
use Rattle.evidence.specs.declared.engine.Found.TheVariants.{Test, Closed as Complete, Refuted, Partial}
use Rattle.evidence.specs.Answers.{HasEvidence}
use Rattle.transition_frames.specs.Frames.{tie, in_first, frames_of, frame_fault}
use Rattle.transition_frames.proofs.Framed.{cells_framed}
use Rattle.transition_frames.proofs.Numbered.{frames_count}
use Rattle.transition_frames.proofs.Soundness.{frames_are_sound}
use Rattle.transition_batches.specs.Batches.{in_first_of, batch_of, batch_fault, AreApart, DecidesFrames}
use Rattle.transition_batches.proofs.Places.{to_batch, cells_batched}
use Rattle.transition_batches.proofs.Pulling.{pulled_labels, pulled_contradiction, pushed_contradiction, pulled_unobserved, pushed_unobserved, pulled_detects}
use Rattle.transition_batches.proofs.Carrying.{Carries, carried}

module _ (n : Netlist) (sound : IsSound n) (design : IsDesign n) (holds : Holds) (fs : List Fault) (valid : All (λ (g : Fault). IsLineOf n g.line) fs)
    (apart : AllPairs (AreApart n) fs) (whole : IsSound (batch_of n fs)) (j : ℕ) (f : Fault) (here : slice_get fs j ≡ Some f) (line : IsLineOf n f.line) where
  two : IsSound (frames_of n f)
  two = frames_are_sound n f sound design line

  carries : Carries (tie n) (batch_of n fs) (frames_of n f) (batch_fault n j f) (frame_fault n f) holds holds (to_batch n j)
  carries = record {
    labels = λ path l low r. pulled_labels n sound design fs valid apart whole j f here path low holds l r;
    closed = λ path l low r c. elim c [
      | inl w ↦ inl (pulled_contradiction n sound design fs valid apart whole j f here path low l w)
      | inr u ↦ inr (pulled_unobserved n sound design fs valid apart whole j f here path low holds l r u)
    ];
    left_open = λ path l low r c. elim c [
      | inl w ↦ inl (pushed_contradiction n sound design fs valid apart whole j f here path low l w)
      | inr u ↦ inr (pushed_unobserved n sound design fs valid apart whole j f here path low holds l r u)
    ];
    same = λ x l. ap (λ b. cond b x (x + 3 * j)) (lt-ltb x (tie n) l);
    signal = λ x l. signal_from (frames_of n f) two.formed.numbered x (omega (arith, l, frames_count n f));
  }

  cell_count : length (cells (batch_of n fs)) ≡ length (cells (frames_of n f))
  cell_count =
      ap (λ ds. length ds) (cells_batched n fs) ∙ (length-map (cells n) (in_first_of n fs)
      ∙ (sym (length-map (cells n) (in_first n f)) ∙ sym (ap (λ ds. length ds) (cells_framed n f))))

  pub evidence_carries : (limit : ℕ) (found : Found) → DecidesFrames n found
      → HasEvidence (batch_fault n j f) (batch_of n fs) holds limit found
      → HasEvidence (frame_fault n f) (frames_of n f) holds limit found
  evidence_carries limit (Test cube point) d w = record {
    is_cube = record { inputs = w.is_cube.inputs; cells = w.is_cube.cells ∙ cell_count; held = w.is_cube.held };
    detects = λ p a. pulled_detects n sound design fs valid apart whole j f here p.inputs p.cells point (w.detects p a);
  }
  evidence_carries limit (Complete tree) d w = (
    carried (tie n) (batch_of n fs) (frames_of n f) (batch_fault n j f) (frame_fault n f) holds holds (to_batch n j) carries whole two tree d w.0,
    w.1,
    w.2,
  )
  evidence_carries limit (Refuted steps) d w = absurd d
  evidence_carries limit (Partial tree) d w = (
    carried (tie n) (batch_of n fs) (frames_of n f) (batch_fault n j f) (frame_fault n f) holds holds (to_batch n j) carries whole two tree d w.0,
    w.1,
    w.2,
  )
