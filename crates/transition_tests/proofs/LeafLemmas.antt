-- The evidence of faults, one more after another, is named in their two frames.
use Rattle.std.proofs.Common.{◌≡◌, ℕ, ◌<◌, Bool, List, [], ◌∷◌, ◌++◌, length, Some, refl, sym, ◌∙◌, ap, append_assoc, append-nil}
use Rattle.std.specs.List.{All, AllZip, slice_get}
use Rattle.std.proofs.lemmas.List.Elements.{All-append, All-nil, All-cons, All-head, All-tail}
use Rattle.statement.specs.declared.lines.Fault.{Fault}
use Rattle.netlist.specs.Conditions.{IsSound}
use Rattle.netlist.specs.Designs.{IsDesign}
use Rattle.netlist.specs.Lines.{IsLineOf, signal_of}
use Rattle.statement.specs.Netlists.{Netlist, signals}
use Rattle.statement.specs.Patterns.{Holds, Pattern}
use Rattle.evidence.specs.declared.kinds.Evidence.{Evidence}
use Rattle.evidence.specs.declared.kinds.Evidence.TheVariants.{Tree}
use Rattle.evidence.specs.Evidence.{Shows, MayBe}
use Rattle.certificate.proofs.NamedEvidence.{shown_named}
use Rattle.run_report.proofs.PointLemmas.{point_inside}
use Rattle.transition_frames.specs.Frames.{frames_of, frame_fault}
use Rattle.transition_frames.proofs.Soundness.{frames_sound}
use Rattle.transition_tests.specs.declared.verdicts.TransitionVerdict.{TransitionVerdict}
use Rattle.transition_tests.specs.declared.verdicts.TransitionVerdict.TheVariants.{Detected, Redundant, Aborted}
use Rattle.transition_tests.specs.Verdicts.{IsVerdict, MayHave}
use Rattle.transition_tests.specs.Lines.{IsInside, leaf_at, leaves_of}
use Rattle.transition_report.specs.Texts.{IsNamedInFrames}

pub leaves_none : (fs : List Fault) → leaves_of fs [] ≡ []
leaves_none [] = refl
leaves_none (f ∷ fs) = refl

leaves_next : (fs : List Fault) (vs : List TransitionVerdict) (f : Fault) (v : TransitionVerdict) → slice_get fs (length vs) ≡ Some f
    → leaves_of fs (vs ++ v ∷ []) ≡ leaves_of fs vs ++ leaf_at f v
leaves_next [] vs f v at = cc
leaves_next (g ∷ fs) [] f v at =
    let same : g ≡ f = cc in
    ap (λ ls. leaf_at g v ++ ls) (leaves_none fs) ∙ (append-nil (leaf_at g v) ∙ ap (λ h. leaf_at h v) same)
leaves_next (g ∷ fs) (w ∷ vs) f v at =
    ap (λ ls. leaf_at g w ++ ls) (leaves_next fs vs f v at) ∙ sym (append_assoc (leaf_at g w) (leaves_of fs vs) (leaf_at f v))

-- one more
pub leaves_more : (fs : List Fault) (vs : List TransitionVerdict) (f : Fault) (v : TransitionVerdict) (k : ℕ) (old new : List (Fault × Evidence)) → k ≡ length vs → slice_get fs k ≡ Some f
    → old ≡ leaves_of fs vs → new ≡ old ++ leaf_at f v → new ≡ leaves_of fs (vs ++ v ∷ [])
leaves_more fs vs f v k old new count at before after =
    after ∙ (ap (λ ls. ls ++ leaf_at f v) before ∙ sym (leaves_next fs vs f v (ap (slice_get fs) (sym count) ∙ at)))

-- ---- of verdicts that are true

module _ (n : Netlist) (sound : IsSound n) (design : IsDesign n) (holds : Holds) (limit : ℕ) (patterns : List Pattern) where
  one_named : (f : Fault) (e : Evidence) → IsLineOf n f.line → signal_of f.line < length (signals n)
      → Shows (frame_fault n f) (frames_of n f) holds e → All (IsNamedInFrames n) ((f, e) ∷ [])
  one_named f e line low shows =
      All-cons (IsNamedInFrames n) (f, e) []
      (record { line = line; signal = low; signals = shown_named (frames_of n f) (frames_sound n sound design f line) (frame_fault n f) holds e shows })
      (All-nil (IsNamedInFrames n))

  leaf_named : (f : Fault) (v : TransitionVerdict) → IsLineOf n f.line → signal_of f.line < length (signals n) → IsVerdict n holds limit patterns f v → All (IsNamedInFrames n) (leaf_at f v)
  leaf_named f (Detected place point) line low is = All-nil (IsNamedInFrames n)
  leaf_named f (Redundant e) line low is = one_named f e line low is.1
  leaf_named f (Aborted tree) line low is = one_named f (Tree tree) line low is.1

  pub leaves_named : (fs : List Fault) (vs : List TransitionVerdict) → All (λ (f : Fault). IsLineOf n f.line × (signal_of f.line < length (signals n))) fs
      → AllZip (IsVerdict n holds limit patterns) fs vs → All (IsNamedInFrames n) (leaves_of fs vs)
  leaves_named [] vs lines are = All-nil (IsNamedInFrames n)
  leaves_named (f ∷ fs) [] lines are = elim are [ ]
  leaves_named (f ∷ fs) (v ∷ vs) lines are =
      let P : Fault → Type 0 = λ g. IsLineOf n g.line × (signal_of g.line < length (signals n)) in
      let here = All-head P f fs lines in
      All-append (IsNamedInFrames n) (leaf_at f v) (leaves_of fs vs) (leaf_named f v here.0 here.1 are.0) (leaves_named fs vs (All-tail P f fs lines) are.1)

  inside : (f : Fault) (v : TransitionVerdict) → IsVerdict n holds limit patterns f v → IsInside n v
  inside f (Detected place point) is = point_inside n sound f is.here.pattern.inputs _ point is.here.detects.detects
  inside f (Redundant e) is = tt
  inside f (Aborted tree) is = tt

  pub all_inside : (fs : List Fault) (vs : List TransitionVerdict) → AllZip (IsVerdict n holds limit patterns) fs vs → All (IsInside n) vs
  all_inside [] [] are = All-nil (IsInside n)
  all_inside [] (v ∷ vs) are = elim are [ ]
  all_inside (f ∷ fs) [] are = elim are [ ]
  all_inside (f ∷ fs) (v ∷ vs) are = All-cons (IsInside n) v vs (inside f v are.0) (all_inside fs vs are.1)

-- ---- kinds

leaf_kind : (refutes : Bool) (f : Fault) (v : TransitionVerdict) → MayHave refutes v → All (λ (p : Fault × Evidence). MayBe refutes p.1) (leaf_at f v)
leaf_kind refutes f (Detected place point) may = All-nil (λ (p : Fault × Evidence). MayBe refutes p.1)
leaf_kind refutes f (Redundant e) may = All-cons (λ (p : Fault × Evidence). MayBe refutes p.1) (f, e) [] may (All-nil (λ (p : Fault × Evidence). MayBe refutes p.1))
leaf_kind refutes f (Aborted tree) may = All-cons (λ (p : Fault × Evidence). MayBe refutes p.1) (f, Tree tree) [] tt (All-nil (λ (p : Fault × Evidence). MayBe refutes p.1))

-- a refutation only where refutations are given
pub leaves_kinds : (refutes : Bool) (fs : List Fault) (vs : List TransitionVerdict) → All (MayHave refutes) vs → All (λ (p : Fault × Evidence). MayBe refutes p.1) (leaves_of fs vs)
leaves_kinds refutes [] vs may = All-nil (λ (p : Fault × Evidence). MayBe refutes p.1)
leaves_kinds refutes (f ∷ fs) [] may = All-nil (λ (p : Fault × Evidence). MayBe refutes p.1)
leaves_kinds refutes (f ∷ fs) (v ∷ vs) may =
    All-append (λ (p : Fault × Evidence). MayBe refutes p.1) (leaf_at f v) (leaves_of fs vs)
    (leaf_kind refutes f v (All-head (MayHave refutes) v vs may))
    (leaves_kinds refutes fs vs (All-tail (MayHave refutes) v vs may))
