-- What is written of verdicts has the form of a report's lines and of a certificate's evidence.
use Rattle.std.proofs.Common.{◌≡◌, ℕ, zero, suc, List, [], ◌∷◌, Some, refl, ap, arith}
use Rattle.std.specs.List.{All, AllZip, Contains, slice_get}
use Rattle.std.proofs.lemmas.List.Elements.{All-append, All-contains, All-cons, All-nil}
use Rattle.std.proofs.lemmas.List.Sums.{sum_by-cons}
use Rattle.netlist.proofs.Lists.{All-from_contains}
use Rattle.statement.specs.declared.lines.Fault.{Fault}
use Rattle.statement.specs.declared.outcomes.Outcome.{Outcome}
use Rattle.statement.specs.Netlists.{Netlist}
use Rattle.statement.specs.Patterns.{Holds, Pattern}
use Rattle.statement.specs.Faults.{universe_of}
use Rattle.statement.specs.Reports.{Line}
use Rattle.netlist.specs.Conditions.{IsSound}
use Rattle.netlist.specs.Designs.{IsDesign}
use Rattle.fault_universe.specs.Laws.{FaultsHaveLines}
use Rattle.fault_universe.proofs.Elements.{contains_at}
use Rattle.evidence.specs.declared.kinds.Evidence.{Evidence}
use Rattle.evidence.specs.declared.kinds.Evidence.TheVariants.{Tree}
use Rattle.certificate.specs.Certificates.{HasSmallNumbers, IsWellFormed}
use Rattle.certificate.proofs.NamedEvidence.{shown_formed}
use Rattle.report.specs.declared.models.FaultModel.TheVariants.{Transition}
use Rattle.report.specs.Reports.{IsLineBy}
use Rattle.run_report.specs.Heads.{count_of, one_if_unasked}
use Rattle.transition_frames.specs.Frames.{frames_of, frame_fault}
use Rattle.transition_frames.proofs.Soundness.{frames_sound}
use Rattle.transition_sim.specs.Shown.{ShowsFrames}
use Rattle.transition_tests.specs.declared.verdicts.TransitionVerdict.{TransitionVerdict}
use Rattle.transition_tests.specs.declared.verdicts.TransitionVerdict.TheVariants.{Detected, Redundant, Aborted}
use Rattle.transition_tests.specs.Verdicts.{IsVerdict}
use Rattle.transition_tests.specs.Lines.{IsOutcomeOf, IsVerdictLine, leaf_at, leaves_of}
use Rattle.transition_report.specs.Reading.{IsTransitionEvidence}

-- ---- lines

pub all_formed : (n : Netlist) (chains : List (List ℕ)) (pairs : List (Fault × TransitionVerdict)) (lines : List Line) → AllZip (IsVerdictLine n chains) pairs lines
    → All (IsLineBy Transition) lines
all_formed n chains [] [] said = All-nil (IsLineBy Transition)
all_formed n chains [] (l ∷ ls) said = elim said [ ]
all_formed n chains (p ∷ ps) [] said = elim said [ ]
all_formed n chains (p ∷ ps) (l ∷ ls) said = All-cons (IsLineBy Transition) l ls said.0.formed (all_formed n chains ps ls said.1)

is_asked : (n : Netlist) (chains : List (List ℕ)) (v : TransitionVerdict) (o : Outcome) (pin : List ℕ) → IsOutcomeOf n chains v o pin → one_if_unasked o ≡ 0
is_asked n chains (Detected place point) o pin said = ap one_if_unasked said.1
is_asked n chains (Redundant e) o pin said = ap one_if_unasked said.0
is_asked n chains (Aborted tree) o pin said = ap one_if_unasked said.0

-- every slow line is asked for
pub none_unasked : (n : Netlist) (chains : List (List ℕ)) (pairs : List (Fault × TransitionVerdict)) (lines : List Line) → AllZip (IsVerdictLine n chains) pairs lines
    → count_of one_if_unasked lines ≡ 0
none_unasked n chains [] [] said = refl
none_unasked n chains [] (l ∷ ls) said = elim said [ ]
none_unasked n chains (p ∷ ps) [] said = elim said [ ]
none_unasked n chains (p ∷ ps) (l ∷ ls) said =
    let first = sum_by-cons (λ (m : Line). one_if_unasked m.outcome) l ls in
    omega (arith, is_asked n chains p.1 l.outcome l.pin said.0.outcome, none_unasked n chains ps ls said.1, first)

-- ---- evidence

module _ (n : Netlist) (holds : Holds) (limit : ℕ) (patterns : List Pattern) (P : Fault × Evidence → Type 0) where
  leaf_all : (f : Fault) (v : TransitionVerdict) → IsVerdict n holds limit patterns f v → ((e : Evidence) → ShowsFrames n holds f e → P (f, e)) → All P (leaf_at f v)
  leaf_all f (Detected place point) is each = All-nil P
  leaf_all f (Redundant e) is each = All-cons P (f, e) [] (each e is.1) (All-nil P)
  leaf_all f (Aborted tree) is each = All-cons P (f, Tree tree) [] (each (Tree tree) is.1) (All-nil P)

  -- what is so of all evidence that shows one of the faults is so of that of verdicts
  leaves_all : (fs : List Fault) (vs : List TransitionVerdict) → AllZip (IsVerdict n holds limit patterns) fs vs
      → ((k : ℕ) (f : Fault) → slice_get fs k ≡ Some f → (e : Evidence) → ShowsFrames n holds f e → P (f, e)) → All P (leaves_of fs vs)
  leaves_all [] vs are each = All-nil P
  leaves_all (f ∷ fs) [] are each = elim are [ ]
  leaves_all (f ∷ fs) (v ∷ vs) are each =
      All-append P (leaf_at f v) (leaves_of fs vs) (leaf_all f v are.0 (each zero f refl)) (leaves_all fs vs are.1 (λ k g at. each (suc k) g at))

module _ (n : Netlist) (sound : IsSound n) (design : IsDesign n) (lines : FaultsHaveLines) where
  abbrev IsSmall : Fault × Evidence → Type 0
  IsSmall p = HasSmallNumbers p.1

  abbrev MayBeFormed : Fault × Evidence → Type 0
  MayBeFormed p = Contains (universe_of n) p.0 × (HasSmallNumbers p.1 → IsWellFormed (frames_of n p.0) p.1)

  ready : (holds : Holds) (k : ℕ) (f : Fault) → slice_get (universe_of n) k ≡ Some f → (e : Evidence) → ShowsFrames n holds f e → MayBeFormed (f, e)
  ready holds k f at e shows =
      let here = contains_at (universe_of n) k f at in
      (here, shown_formed (frames_of n f) (frames_sound n sound design f (lines n f sound here)) (frame_fault n f) holds e shows)

  -- the evidence of verdicts is a certificate's, each of a slow line of the netlist
  pub all_evident : (holds : Holds) (limit : ℕ) (patterns : List Pattern) (verdicts : List TransitionVerdict)
      → AllZip (IsVerdict n holds limit patterns) (universe_of n) verdicts → All IsSmall (leaves_of (universe_of n) verdicts)
      → All (IsTransitionEvidence n) (leaves_of (universe_of n) verdicts)
  all_evident holds limit patterns verdicts are small =
      let leaves = leaves_of (universe_of n) verdicts in
      let all = leaves_all n holds limit patterns MayBeFormed (universe_of n) verdicts are (ready holds) in
      All-from_contains (IsTransitionEvidence n) leaves (λ p here.
      let may = All-contains MayBeFormed leaves p all here in
      record { fault = may.0; formed = may.1 (All-contains IsSmall leaves p small here) })
