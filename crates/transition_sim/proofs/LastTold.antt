-- Transition faults last detected among some of the patterns, and among all.
use Rattle.std.proofs.Common.{◌≡◌, ℕ, ◌+◌, ◌-◌, ◌<◌, ◌≤◌, false, List, length, take, drop, get_or, set, replicate, Option, Some, None, refl, sym, ◌∙◌, ap, subst, inl, inr, arith}
use Rattle.std.specs.List.{All, AllZip, slice_get}
use Rattle.std.specs.Option.{is_some, option_map}
use Rattle.std.proofs.lemmas.Bool.{cases_eq}
use Rattle.std.proofs.lemmas.List.{length-set, length-replicate, get_or_default, get_or-replicate, get_or-set_same, get_or-set_other}
use Rattle.std.proofs.lemmas.Option.{slice_get-get_or}
use Rattle.statement.specs.declared.lines.Fault.{Fault}
use Rattle.statement.specs.declared.lines.Point.{Point}
use Rattle.netlist.specs.Conditions.{IsSound}
use Rattle.netlist.specs.Lines.{IsLineOf}
use Rattle.statement.specs.Netlists.{Netlist}
use Rattle.netlist.proofs.Settling.{zip_from}
use Rattle.statement.specs.Patterns.{Pattern, IsDetectedAt}
use Rattle.word_sim.specs.Hits.{LastMarked}
use Rattle.word_sim.specs.inner.Packed.{AreGoodFor, IsMarked, IsUsed}
use Rattle.observed_points.specs.Points.{point_of}
use Rattle.word_sim.specs.inner.Found.{IsFrom, IsMoved, IsTold}
use Rattle.word_sim.proofs.LastFrom.{from_part}
use Rattle.word_sim.proofs.WordDetection.{some_below}
use Rattle.transition_frames.specs.Frames.{frames_of, frame_fault}
use Rattle.transition_frames.proofs.Detecting.{frames_detect}
use Rattle.transition_sim.specs.Detections.{IsTransitionDetectedAt, LastTransition}
use Rattle.transition_sim.specs.inner.Launches.{AreFramesFrom, AreSecond, AreTold, AreToldBelow, IsLaunched}
use Rattle.transition_sim.proofs.WordsLaunched.{all_again, second_good, marks_marked, last_on_frames}

-- nothing is told yet
pub none_from : (n : Netlist) (patterns : List Pattern) (faults : List Fault) (m : ℕ) → m ≡ length patterns → AreFramesFrom n patterns m faults (replicate (length faults) None)
none_from n patterns faults m e = record {
  size = length-replicate (length faults) None;
  each = λ k f at.
      subst (IsFrom (frames_of n f) patterns m (frame_fault n f)) (sym (get_or-replicate (length faults) k None None (some_below faults k f at)))
      (λ place q l t. let b = some_below patterns place t.pattern t.at in absurd (omega arith));
}

-- one fault more
pub one_told : (n : Netlist) (part : List Pattern) (start : ℕ) (faults : List Fault) (known told : List (Option (ℕ × Point))) (m : ℕ) (f : Fault) (last : Option (ℕ × Point))
    → AreToldBelow n part start faults known told m → m < length told → slice_get faults m ≡ Some f → IsTold (frames_of n f) part start (frame_fault n f) (get_or told m None) last
    → AreToldBelow n part start faults known (set told m last) (m + 1)
one_told n part start faults known told m f last h within at t = record {
  size = length-set told m last ∙ h.size;
  below = λ k g l at_k. elim (cases_eq k m) [
    | inl e ↦
        let same : f ≡ g = some_same f g (sym at ∙ (ap (slice_get faults) (sym e) ∙ at_k)) in
        let was : get_or told m None ≡ get_or known k None = h.others m (omega arith) ∙ ap (λ j. get_or known j None) (sym e) in
        let is : get_or (set told m last) k None ≡ last = ap (λ j. get_or (set told m last) j None) e ∙ get_or-set_same told m last None within in
        subst (λ (b : Fault). IsTold (frames_of n b) part start (frame_fault n b) (get_or known k None) (get_or (set told m last) k None)) same
        (subst (λ o. IsTold (frames_of n f) part start (frame_fault n f) (get_or known k None) o) (sym is)
        (subst (λ o. IsTold (frames_of n f) part start (frame_fault n f) o last) was t))
    | inr ne ↦
        subst (λ o. IsTold (frames_of n g) part start (frame_fault n g) (get_or known k None) o) (sym (get_or-set_other told m k last None ne))
        (h.below k g (omega arith) at_k)
  ];
  others = λ k l. get_or-set_other told m k last None (λ e. omega arith) ∙ h.others k (omega arith);
} where
  some_same : (a b : Fault) → Some a ≡ Some b → a ≡ b
  some_same a b e = cc

-- all were gone over
pub told_all : (n : Netlist) (part : List Pattern) (start : ℕ) (faults : List Fault) (known told : List (Option (ℕ × Point))) (m : ℕ) → length faults ≤ m
    → AreToldBelow n part start faults known told m → AreTold n part start faults known told
told_all n part start faults known told m all h = record { size = h.size; each = λ k f at. let l = some_below faults k f at in h.below k f (omega arith) at }

-- what some of the patterns tell, where the later ones tell nothing
pub part_up : (n : Netlist) (patterns part : List Pattern) (start end : ℕ) → start ≤ end → part ≡ take (end - start) (drop start patterns) → (faults : List Fault) (known told : List (Option (ℕ × Point)))
    → AreFramesFrom n patterns end faults known → AreTold n part start faults known told → AreFramesFrom n patterns start faults told
part_up n patterns part start end order is faults known told later are = record {
  size = are.size ∙ later.size;
  each = λ k f at. told_from f (get_or known k None) (get_or told k None) (later.each k f at) (are.each k f at);
} where
  told_from : (f : Fault) (known last : Option (ℕ × Point)) → IsFrom (frames_of n f) patterns end (frame_fault n f) known → IsTold (frames_of n f) part start (frame_fault n f) known last
      → IsFrom (frames_of n f) patterns start (frame_fault n f) last
  told_from f None last none m = from_part (frames_of n f) patterns part start end order is (frame_fault n f) last none m
  told_from f (Some w) last was m = subst (IsFrom (frames_of n f) patterns start (frame_fault n f)) (sym m) was

-- ---- from the two frames to the transition fault

module _ (n : Netlist) (sound : IsSound n) (patterns : List Pattern) (f : Fault) (valid : IsLineOf n f.line) where
  pub to_frames : (place : ℕ) (q : Point) → IsTransitionDetectedAt n patterns f place q → IsDetectedAt (frames_of n f) patterns (frame_fault n f) place q
  to_frames place q h = record { pattern = h.pattern; at = h.at; detects = (frames_detect n f h.pattern.inputs h.pattern.cells q sound valid).1 h.detects }

  pub from_frames : (place : ℕ) (q : Point) → IsDetectedAt (frames_of n f) patterns (frame_fault n f) place q → IsTransitionDetectedAt n patterns f place q
  from_frames place q h = record { pattern = h.pattern; at = h.at; detects = (frames_detect n f h.pattern.inputs h.pattern.cells q sound valid).0 h.detects }

  last_from : (m : ℕ) → m ≡ 0 → (told : Option (ℕ × Point)) → IsFrom (frames_of n f) patterns m (frame_fault n f) told → LastTransition n patterns f told
  last_from m e None h = λ place q t. h place q (omega arith) (to_frames place q t)
  last_from m e (Some w) h = record {
    here = from_frames w.0 w.1 h.here;
    last = λ later q l t. h.last later q l (to_frames later q t);
    first = λ q before t. h.first q before (to_frames w.0 q t);
  }

-- all that is told
pub all_told : (n : Netlist) → IsSound n → (patterns : List Pattern) (faults : List Fault) (told : List (Option (ℕ × Point))) (m : ℕ) → m ≡ 0
    → All (λ (f : Fault). IsLineOf n f.line) faults → AreFramesFrom n patterns m faults told → AllZip (LastTransition n patterns) faults told
all_told n sound patterns faults told m e lines h =
    zip_from (LastTransition n patterns) faults told (sym h.size) (λ k f o l.
    let size = h.size in
    last_from n sound patterns (get_or faults k f) (lines k f l) m e (get_or told k o)
    (subst (λ t. IsFrom (frames_of n (get_or faults k f)) patterns m (frame_fault n (get_or faults k f)) t) (get_or_default told k None o (omega arith))
    (h.each k (get_or faults k f) (slice_get-get_or faults k f l))))

-- ---- one fault, by the words of some patterns

map_twice : {X Y Z : Type 0} (f : X → Y) (g : Y → Z) (o : Option X) → option_map (λ x. g (f x)) o ≡ option_map g (option_map f o)
map_twice f g None = refl
map_twice f g (Some x) = refl

pub told_by_words : (n : Netlist) (sound : IsSound n) (patterns : List Pattern) (first second : List ℕ) (good : AreGoodFor n patterns first) (behind : AreSecond n first second)
    (f : Fault) (valid : IsLineOf n f.line) (used marks : ℕ) (is_used : IsUsed (length patterns) used) (launched : IsLaunched n f first used marks)
    (start : ℕ) (found : Option (ℕ × ℕ)) (known last : Option (ℕ × Point)) → known ≡ None
    → ((ps : List Pattern) → AreGoodFor n ps second → IsMarked (length ps) marks → LastMarked n ps marks f (option_map (λ (w : ℕ × ℕ). (w.0, point_of n w.1)) found))
    → last ≡ option_map (λ (w : ℕ × ℕ). (start + w.0, point_of n w.1)) found
    → IsTold (frames_of n f) patterns start (frame_fault n f) known last
told_by_words n sound patterns first second good behind f valid used marks is_used launched start found known last none marked is =
    let here : Option (ℕ × Point) = option_map (λ (w : ℕ × ℕ). (w.0, point_of n w.1)) found in
    let moved : IsMoved (frames_of n f) patterns start (frame_fault n f) last = record {
      found = here;
      detected = last_on_frames n sound patterns first second good behind f valid used marks is_used launched here
          (marked (all_again n first 0 patterns) (second_good n sound patterns first second good behind) (marks_marked n sound patterns first second good behind f valid used marks is_used launched));
      last_is = is ∙ map_twice (λ (w : ℕ × ℕ). (w.0, point_of n w.1)) (λ (w : ℕ × Point). (start + w.0, w.1)) found;
    } in
    subst (λ o. IsTold (frames_of n f) patterns start (frame_fault n f) o last) (sym none) moved

pub no_value : {X : Type 0} (o : Option X) → is_some o ≡ false → o ≡ None
no_value None e = refl
no_value (Some x) e = cc
