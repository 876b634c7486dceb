-- What comes of the faults is true of the patterns that are kept.
use Rattle.std.proofs.Common.{◌≡◌, ◌⊎◌, inl, inr, ℕ, zero, suc, ◌+◌, ◌<◌, ◌≤◌, ◌^◌, Bool, true, false, not, map, List, [], ◌∷◌, ◌++◌, length, get_or, Option, Some, None, refl, sym, ap, ◌∙◌, subst, arith}
use Rattle.std.specs.Prelude.{IfSome}
use Rattle.std.specs.List.{All, AllZip, Contains, slice_get}
use Rattle.std.specs.Option.{is_some}
use Rattle.std.proofs.lemmas.List.Elements.{All-nil, All-cons, All-head, All-tail}
use Rattle.std.proofs.lemmas.Option.{slice_get_read, slice_get_within, slice_get-get_or}
use Rattle.std.proofs.lemmas.Slice.Zip.{AllZip-long}
use Rattle.statement.specs.declared.lines.Fault.{Fault}
use Rattle.statement.specs.declared.lines.Point.{Point}
use Rattle.netlist.specs.Conditions.{IsSound}
use Rattle.netlist.specs.Designs.{IsDesign}
use Rattle.netlist.specs.Lines.{IsLineOf}
use Rattle.statement.specs.Netlists.{Netlist}
use Rattle.netlist.proofs.Lists.{contains_head}
use Rattle.cubes.specs.Cubes.{Cube, IsCubeOf, IsPatternOf}
use Rattle.statement.specs.Patterns.{Holds, Pattern}
use Rattle.evidence.specs.declared.engine.Found.{Found}
use Rattle.evidence.specs.declared.engine.Found.TheVariants.{Test, Closed, Refuted, Partial}
use Rattle.list_core.specs.Kept.{is_last_at, kept_from, new_place}
use Rattle.list_core.specs.inner.Marks.{last_at}
use Rattle.list_core.proofs.KeepLemmas.{kept_all, source}
use Rattle.list_core.proofs.LastPlaces.{last_kept, marked_by, marked_where, never_kept, some_marked}
use Rattle.statement.specs.Faults.{universe_of}
use Rattle.transition_frames.specs.Frames.{frames_of, frame_fault}
use Rattle.transition_sim.specs.Detections.{IsLastTransition, LastTransition}
use Rattle.transition.specs.Searches.{AreFoundWhereLeft, IsFoundIfLeft}
use Rattle.transition_sim.proofs.Answering.{test_detects_transition}
use Rattle.transition_sim.proofs.LastTold.{to_frames, from_frames}
use Rattle.transition_tests.specs.declared.verdicts.TransitionVerdict.{TransitionVerdict}
use Rattle.transition_tests.specs.Batches.{AreLeftBy, IsLeftBy}
use Rattle.transition_tests.specs.Verdicts.{AreKnown, AreTests, IsKnown, IsNeededForTransitions, IsVerdict, MayHave}
use Rattle.transition_tests.specs.Making.{AreFilledFrom, AreMadeFrom, cubes_in}
use Rattle.transition_tests.specs.inner.Cubes.{BeginsWith, HasAgreeing}
use Rattle.transition_tests.specs.inner.Ends.{AreVerdictsOf, IsVerdictOf, IsDetectedIfTested}
use Rattle.transition_tests.proofs.CubeLemmas.{all_cubes, few_faults, few_patterns, frame_cube, other_cube}

-- ---- which faults a batch leaves

pub left_where_none : (n : Netlist) (batch : List Pattern) (faults : List Fault) (lasts : List (Option (ℕ × Point))) → AllZip (LastTransition n batch) faults lasts
    → AreLeftBy n batch faults (map (λ (l : Option (ℕ × Point)). not (is_some l)) lasts)
left_where_none n batch [] [] are = tt
left_where_none n batch [] (l ∷ lasts) are = elim are [ ]
left_where_none n batch (f ∷ faults) [] are = elim are [ ]
left_where_none n batch (f ∷ faults) (None ∷ lasts) are = (are.0, left_where_none n batch faults lasts are.1)
left_where_none n batch (f ∷ faults) (Some l ∷ lasts) are = ((l.0, l.1, are.0), left_where_none n batch faults lasts are.1)

-- ---- what is known of faults, once those that a batch leaves were searched

module _ (n : Netlist) (holds : Holds) (limit : ℕ) (refutes : Bool) (batch : List Pattern) where
  known_one : (f : Fault) (left : Bool) (x : Option Found) → IsLeftBy n batch f left → IsFoundIfLeft n holds limit refutes f left x → IsKnown n holds limit refutes batch f x
  known_one f true (Some x) by is = is
  known_one f true None by is = elim is [ ]
  known_one f false x by is = subst (IsKnown n holds limit refutes batch f) (sym is) by

  pub all_known : (faults : List Fault) (left : List Bool) (found : List (Option Found)) → AreLeftBy n batch faults left → AreFoundWhereLeft n holds limit refutes faults left found
      → AllZip (IsKnown n holds limit refutes batch) faults found
  all_known [] left [] by are = tt
  all_known [] left (x ∷ found) by are = absurd (let size = are.size in omega arith)
  all_known (f ∷ faults) [] found by are = elim by [ ]
  all_known (f ∷ faults) (b ∷ left) [] by are = absurd (let size = are.size in omega arith)
  all_known (f ∷ faults) (b ∷ left) (x ∷ found) by are = (
    known_one f b x by.0 (are.each zero f refl),
    all_known faults left found by.1 (record { size = let size = are.size in omega arith; each = λ k g at. are.each (suc k) g at }),
  )

  -- the cubes of what is known are cubes of the netlist
  known_fit : (faults : List Fault) (found : List (Option Found)) → AllZip (IsKnown n holds limit refutes batch) faults found → All (IsCubeOf n holds) (cubes_in found)
  known_fit [] [] are = All-nil (IsCubeOf n holds)
  known_fit [] (x ∷ found) are = elim are [ ]
  known_fit (f ∷ faults) [] are = elim are [ ]
  known_fit (f ∷ faults) (None ∷ found) are = known_fit faults found are.1
  known_fit (f ∷ faults) (Some (Test c o) ∷ found) are = All-cons (IsCubeOf n holds) c (cubes_in found) (frame_cube n holds f c are.0.evidence.is_cube) (known_fit faults found are.1)
  known_fit (f ∷ faults) (Some (Closed t) ∷ found) are = known_fit faults found are.1
  known_fit (f ∷ faults) (Some (Refuted s) ∷ found) are = known_fit faults found are.1
  known_fit (f ∷ faults) (Some (Partial t) ∷ found) are = known_fit faults found are.1

-- the same of answers as they are seen
pub seen_fit : (n : Netlist) (holds : Holds) (limit : ℕ) (refutes : Bool) (batch : List Pattern) (found seen : List (Option Found)) → seen ≡ found
    → AreKnown n holds limit refutes batch found → All (IsCubeOf n holds) (cubes_in seen)
seen_fit n holds limit refutes batch found seen same known =
    subst (λ (xs : List (Option Found)). All (IsCubeOf n holds) (cubes_in xs)) (sym same) (known_fit n holds limit refutes batch (universe_of n) found known)

-- behind the batch their patterns are few
pub known_few : (n : Netlist) → IsSound n → IsDesign n → (holds : Holds) (limit : ℕ) (refutes : Bool) (batch patterns : List Pattern) (found seen : List (Option Found)) → seen ≡ found
    → AreKnown n holds limit refutes batch found → length batch ≤ length (universe_of n) + 64 → length patterns ≤ length batch + length (cubes_in seen) → length patterns + 64 ≤ 2 ^ 32
known_few n sound design holds limit refutes batch patterns found seen same known small fewer =
    let size = AllZip-long (IsKnown n holds limit refutes batch) (universe_of n) found known in
    let cubes = ap (λ (xs : List (Option Found)). length (cubes_in xs)) same in
    few_patterns (universe_of n) found batch patterns (omega (arith, size)) (few_faults n sound design) small (omega (arith, fewer, cubes))

-- the cubes of what was found are cubes of the netlist
pub cubes_fit : (n : Netlist) (holds : Holds) (limit : ℕ) (refutes : Bool) (left : List Bool) (found : List (Option Found))
    → AreFoundWhereLeft n holds limit refutes (universe_of n) left found → All (IsCubeOf n holds) (cubes_in found)
cubes_fit n holds limit refutes left found are = all_cubes n holds limit refutes (universe_of n) (λ k. get_or left k true) found are.size are.each

-- ---- where a test was found, or the batch detects, some pattern detects

-- where each fault of the netlist is last detected, by the names of what was simulated
pub last_along : (n : Netlist) (patterns seen : List Pattern) (faults : List Fault) (lasts seen_lasts : List (Option (ℕ × Point))) → faults ≡ universe_of n → seen ≡ patterns
    → seen_lasts ≡ lasts → AllZip (LastTransition n seen) faults lasts → AllZip (LastTransition n patterns) (universe_of n) seen_lasts
last_along n patterns seen faults lasts seen_lasts all same told are =
    subst (λ (fs : List Fault). AllZip (LastTransition n patterns) fs seen_lasts) all
    (subst (λ (ps : List Pattern). AllZip (LastTransition n ps) faults seen_lasts) same
    (subst (λ (ls : List (Option (ℕ × Point))). AllZip (LastTransition n seen) faults ls) (sym told) are))

-- a pattern of the batch has its place among all
at_front : (xs ys : List Pattern) (k : ℕ) (p : Pattern) → slice_get xs k ≡ Some p → slice_get (xs ++ ys) k ≡ Some p
at_front [] ys k p e = cc
at_front (x ∷ xs) ys zero p e = e
at_front (x ∷ xs) ys (suc k) p e = at_front xs ys k p e

module _ (n : Netlist) (sound : IsSound n) (holds : Holds) (limit : ℕ) (refutes : Bool) (batch patterns : List Pattern) (begins : BeginsWith batch patterns) where
  told_one : (f : Fault) (x : Option Found) (last : Option (ℕ × Point)) → IsLineOf n f.line → IsKnown n holds limit refutes batch f x → LastTransition n patterns f last
      → ((c : Cube) → Contains (cubes_in (x ∷ [])) c → HasAgreeing patterns c) → IsDetectedIfTested x last
  told_one f x (Some l) line known is agree = tt
  told_one f None None line known never agree =
      let here = known.2.here in
      never known.0 known.1 (record {
        pattern = here.pattern;
        at = subst (λ (ps : List Pattern). slice_get ps known.0 ≡ Some here.pattern) (sym begins.1) (at_front batch begins.0 known.0 here.pattern here.at);
        detects = here.detects;
      })
  told_one f (Some (Test c o)) None line evidence never agree =
      let p = agree c (contains_head c []) in
      never p.1.0 o (record {
        pattern = p.0;
        at = slice_get_read patterns (length patterns) p.1.0 p.0 refl p.1.1 (sym p.1.2);
        detects = test_detects_transition n holds f c o p.0 sound line evidence.evidence p.2;
      })
  told_one f (Some (Closed t)) None line evidence is agree = tt
  told_one f (Some (Refuted s)) None line evidence is agree = tt
  told_one f (Some (Partial t)) None line evidence is agree = tt

  first_cube : (x : Option Found) (xs : List (Option Found)) (c : Cube) → Contains (cubes_in (x ∷ [])) c → Contains (cubes_in (x ∷ xs)) c
  first_cube None xs c is = absurd (let lt = is.1 in omega arith)
  first_cube (Some (Test d o)) xs c is = only d xs c is
    where
      only : (d : Cube) (xs : List (Option Found)) (c : Cube) → Contains (d ∷ []) c → Contains (d ∷ cubes_in xs) c
      only d xs c (k, lt, e) =
          let first : k ≡ zero = omega arith in
          (zero, omega arith, subst (λ (i : ℕ). get_or (d ∷ []) i c ≡ c) first e)
  first_cube (Some (Closed t)) xs c is = absurd (let lt = is.1 in omega arith)
  first_cube (Some (Refuted s)) xs c is = absurd (let lt = is.1 in omega arith)
  first_cube (Some (Partial t)) xs c is = absurd (let lt = is.1 in omega arith)

  pub all_told : (faults : List Fault) (found : List (Option Found)) (lasts : List (Option (ℕ × Point))) → All (λ (f : Fault). IsLineOf n f.line) faults
      → AllZip (IsKnown n holds limit refutes batch) faults found → AllZip (LastTransition n patterns) faults lasts → ((c : Cube) → Contains (cubes_in found) c → HasAgreeing patterns c)
      → AllZip IsDetectedIfTested found lasts
  all_told [] [] [] lines are is agree = tt
  all_told [] [] (l ∷ lasts) lines are is agree = elim is [ ]
  all_told [] (x ∷ found) lasts lines are is agree = elim are [ ]
  all_told (f ∷ faults) [] lasts lines are is agree = elim are [ ]
  all_told (f ∷ faults) (x ∷ found) [] lines are is agree = elim is [ ]
  all_told (f ∷ faults) (x ∷ found) (l ∷ lasts) lines are is agree = (
    told_one f x l (All-head (λ (g : Fault). IsLineOf n g.line) f faults lines) are.0 is.0 (λ c c_is. agree c (first_cube x found c c_is)),
    all_told faults found lasts (All-tail (λ (g : Fault). IsLineOf n g.line) f faults lines) are.1 is.1 (λ c c_is. agree c (other_cube x found c c_is)),
  )

-- each last place is one of the patterns
pub last_within : (n : Netlist) (patterns : List Pattern) (faults : List Fault) (lasts : List (Option (ℕ × Point))) → AllZip (LastTransition n patterns) faults lasts
    → All (λ (l : Option (ℕ × Point)). IfSome l (λ p. p.0 < length patterns)) lasts
last_within n patterns [] [] are = All-nil (λ (l : Option (ℕ × Point)). IfSome l (λ p. p.0 < length patterns))
last_within n patterns [] (l ∷ lasts) are = elim are [ ]
last_within n patterns (f ∷ faults) [] are = elim are [ ]
last_within n patterns (f ∷ faults) (None ∷ lasts) are =
    All-cons (λ (m : Option (ℕ × Point)). IfSome m (λ p. p.0 < length patterns)) None lasts tt (last_within n patterns faults lasts are.1)
last_within n patterns (f ∷ faults) (Some l ∷ lasts) are =
    All-cons (λ (m : Option (ℕ × Point)). IfSome m (λ p. p.0 < length patterns)) (Some l) lasts
    (slice_get_within patterns l.0 are.0.here.pattern are.0.here.at) (last_within n patterns faults lasts are.1)

-- ---- among the patterns that are kept

module _ (n : Netlist) (sound : IsSound n) (holds : Holds) (limit : ℕ) (refutes : Bool) (batch patterns : List Pattern) (marked : ℕ → Bool) where
  kept_last : (f : Fault) (k : ℕ) (o : Point) → IsLineOf n f.line → marked k ≡ true → IsLastTransition n patterns f k o
      → IsLastTransition n (kept_from marked 0 patterns) f (new_place marked k) o
  kept_last f k o line mark is =
      let before = last_kept (frames_of n f) patterns marked (frame_fault n f) k o mark (record {
        here = to_frames n sound patterns f line k o is.here;
        last = λ later q lt t. is.last later q lt (from_frames n sound patterns f line later q t);
        first = λ q lt t. is.first q lt (from_frames n sound patterns f line k q t);
      }) in
      let left = kept_from marked 0 patterns in
      record {
        here = from_frames n sound left f line (new_place marked k) o before.here;
        last = λ later q lt t. before.last later q lt (to_frames n sound left f line later q t);
        first = λ q lt t. before.first q lt (to_frames n sound left f line (new_place marked k) q t);
      }

  kept_never : (f : Fault) → IsLineOf n f.line → LastTransition n patterns f None → LastTransition n (kept_from marked 0 patterns) f None
  kept_never f line never place q t =
      never_kept (frames_of n f) patterns marked (frame_fault n f) (λ p o d. never p o (from_frames n sound patterns f line p o d)) place q
      (to_frames n sound (kept_from marked 0 patterns) f line place q t)

  verdict_is : (f : Fault) (x : Option Found) (last : Option (ℕ × Point)) (v : TransitionVerdict) → IsLineOf n f.line → IsKnown n holds limit refutes batch f x → LastTransition n patterns f last
      → ((l : ℕ × Point) → last ≡ Some l → marked l.0 ≡ true) → IsVerdictOf (new_place marked) x last v → IsVerdict n holds limit (kept_from marked 0 patterns) f v
  verdict_is f x (Some l) v line evidence is mark end =
      subst (IsVerdict n holds limit (kept_from marked 0 patterns) f) (sym end) (kept_last f l.0 l.1 line (mark l refl) is)
  verdict_is f None None v line known never mark end = elim end [ ]
  verdict_is f (Some (Test c o)) None v line evidence never mark end = elim end [ ]
  verdict_is f (Some (Closed t)) None v line evidence never mark end =
      subst (IsVerdict n holds limit (kept_from marked 0 patterns) f) (sym end) (kept_never f line never, evidence.evidence.0, evidence.evidence.1)
  verdict_is f (Some (Refuted s)) None v line evidence never mark end =
      subst (IsVerdict n holds limit (kept_from marked 0 patterns) f) (sym end) (kept_never f line never, evidence.evidence, refl)
  verdict_is f (Some (Partial t)) None v line evidence never mark end =
      subst (IsVerdict n holds limit (kept_from marked 0 patterns) f) (sym end) (kept_never f line never, evidence.evidence.0, evidence.evidence.1, evidence.evidence.2)

  verdicts_are : (faults : List Fault) (found : List (Option Found)) (lasts : List (Option (ℕ × Point))) (vs : List TransitionVerdict) → All (λ (f : Fault). IsLineOf n f.line) faults
      → AllZip (IsKnown n holds limit refutes batch) faults found → AllZip (LastTransition n patterns) faults lasts → ((c : ℕ) (l : ℕ × Point) → last_at lasts c ≡ Some l → marked l.0 ≡ true)
      → AreVerdictsOf (new_place marked) found lasts vs → AllZip (IsVerdict n holds limit (kept_from marked 0 patterns)) faults vs
  verdicts_are [] [] [] [] lines are is mark ends = tt
  verdicts_are [] [] [] (v ∷ vs) lines are is mark ends = elim ends [ ]
  verdicts_are [] [] (l ∷ lasts) vs lines are is mark ends = elim is [ ]
  verdicts_are [] (x ∷ found) lasts vs lines are is mark ends = elim are [ ]
  verdicts_are (f ∷ faults) [] lasts vs lines are is mark ends = elim are [ ]
  verdicts_are (f ∷ faults) (x ∷ found) [] vs lines are is mark ends = elim is [ ]
  verdicts_are (f ∷ faults) (x ∷ found) (l ∷ lasts) [] lines are is mark ends = elim ends [ ]
  verdicts_are (f ∷ faults) (x ∷ found) (l ∷ lasts) (v ∷ vs) lines are is mark ends = (
    verdict_is f x l v (All-head (λ (g : Fault). IsLineOf n g.line) f faults lines) are.0 is.0 (λ w e. mark zero w e) ends.0,
    verdicts_are faults found lasts vs (All-tail (λ (g : Fault). IsLineOf n g.line) f faults lines) are.1 is.1 (λ c w e. mark (suc c) w e) ends.1,
  )

-- ---- kinds

module _ (n : Netlist) (holds : Holds) (limit : ℕ) (refutes : Bool) (batch : List Pattern) (new : ℕ → ℕ) where
  verdict_kind : (f : Fault) (x : Option Found) (last : Option (ℕ × Point)) (v : TransitionVerdict) → IsKnown n holds limit refutes batch f x → IsVerdictOf new x last v → MayHave refutes v
  verdict_kind f x (Some l) v known end = subst (MayHave refutes) (sym end) tt
  verdict_kind f None None v known end = elim end [ ]
  verdict_kind f (Some (Test c o)) None v known end = elim end [ ]
  verdict_kind f (Some (Closed t)) None v known end = subst (MayHave refutes) (sym end) tt
  verdict_kind f (Some (Refuted s)) None v known end = subst (MayHave refutes) (sym end) known.kind
  verdict_kind f (Some (Partial t)) None v known end = subst (MayHave refutes) (sym end) tt

  pub verdicts_kinds : (faults : List Fault) (found : List (Option Found)) (lasts : List (Option (ℕ × Point))) (vs : List TransitionVerdict)
      → AllZip (IsKnown n holds limit refutes batch) faults found → AreVerdictsOf new found lasts vs → All (MayHave refutes) vs
  verdicts_kinds [] [] [] [] are ends = All-nil (MayHave refutes)
  verdicts_kinds [] [] [] (v ∷ vs) are ends = elim ends [ ]
  verdicts_kinds [] [] (l ∷ lasts) vs are ends = elim ends [ ]
  verdicts_kinds [] (x ∷ found) lasts vs are ends = elim are [ ]
  verdicts_kinds (f ∷ faults) [] lasts vs are ends = elim are [ ]
  verdicts_kinds (f ∷ faults) (x ∷ found) [] vs are ends = elim ends [ ]
  verdicts_kinds (f ∷ faults) (x ∷ found) (l ∷ lasts) [] are ends = elim ends [ ]
  verdicts_kinds (f ∷ faults) (x ∷ found) (l ∷ lasts) (v ∷ vs) are ends =
      All-cons (MayHave refutes) v vs (verdict_kind f x l v are.0 ends.0) (verdicts_kinds faults found lasts vs are.1 ends.1)

-- ---- which are needed

-- each pattern that is kept is needed
needed_at : (n : Netlist) (sound : IsSound n) (patterns : List Pattern) (faults : List Fault) (lasts : List (Option (ℕ × Point)))
    → ((f : Fault) → Contains faults f → IsLineOf n f.line) → AllZip (LastTransition n patterns) faults lasts
    → (place : ℕ) (p : Pattern) → slice_get (kept_from (is_last_at lasts) 0 patterns) place ≡ Some p → IsNeededForTransitions n faults (kept_from (is_last_at lasts) 0 patterns) place
needed_at n sound patterns faults lasts lines are place p at =
    let marked : ℕ → Bool = is_last_at lasts in
    let s = source marked 0 patterns place p at in
    let start : 0 + s.place ≡ s.place = omega arith in
    let mark : marked s.place ≡ true = subst (λ (i : ℕ). marked i ≡ true) start s.mark in
    let by = marked_by (LastTransition n patterns) faults lasts s.place are mark in
    let last = kept_last n sound [] 0 false patterns patterns marked by.0 s.place by.2.0 (lines by.0 by.1) mark by.2.1 in
    (by.0, by.1, (by.2.0, subst (λ (k : ℕ). IsLastTransition n (kept_from marked 0 patterns) by.0 k by.2.0) s.new last))

pub tests_are : (n : Netlist) (sound : IsSound n) (holds : Holds) (limit : ℕ) (refutes : Bool) (batch patterns : List Pattern) (found : List (Option Found)) (lasts : List (Option (ℕ × Point))) (kept : List Pattern) (vs : List TransitionVerdict)
    → All (IsPatternOf n holds) patterns → ((f : Fault) → Contains (universe_of n) f → IsLineOf n f.line) → All (λ (f : Fault). IsLineOf n f.line) (universe_of n)
    → AllZip (IsKnown n holds limit refutes batch) (universe_of n) found → AllZip (LastTransition n patterns) (universe_of n) lasts
    → kept ≡ kept_from (is_last_at lasts) 0 patterns → AreVerdictsOf (new_place (is_last_at lasts)) found lasts vs → AreTests n holds limit kept vs
tests_are n sound holds limit refutes batch patterns found lasts kept vs obey lines all are is kept_is ends =
    subst (λ (ps : List Pattern). AreTests n holds limit ps vs) (sym kept_is) (record {
      obey = kept_all (IsPatternOf n holds) (is_last_at lasts) 0 patterns obey;
      needed = λ place lt.
          let left = kept_from (is_last_at lasts) 0 patterns in
          let nothing : Pattern = record { inputs = []; cells = [] } in
          needed_at n sound patterns (universe_of n) lasts lines is place (get_or left place nothing) (slice_get-get_or left place nothing lt);
      each = verdicts_are n sound holds limit refutes batch patterns (is_last_at lasts) (universe_of n) found lasts vs all are is (some_marked lasts) ends;
    })

-- ---- of which patterns they are made

-- two last patterns of one transition fault are one
same_last : (n : Netlist) (patterns : List Pattern) (f : Fault) (a b : ℕ) (o p : Point) → IsLastTransition n patterns f a o → IsLastTransition n patterns f b p → a ≡ b
same_last n patterns f a b o p x y =
    elim (three a b) [ inl lt ↦ absurd (x.last b p lt y.here) | inr r ↦ elim r [ inl e ↦ e | inr gt ↦ absurd (y.last a o gt x.here) ] ]
  where
    three : (i j : ℕ) → (i < j) ⊎ ((i ≡ j) ⊎ (j < i))
    three i j = grind arith

alone : (n : Netlist) (patterns : List Pattern) (k : ℕ) (f : Fault) (l : Option (ℕ × Point)) (o : Point) → LastTransition n patterns f l → LastTransition n patterns f (Some (k, o))
    → (p : Point) × (l ≡ Some (k, p))
alone n patterns k f None o never last = absurd (never k o last.here)
alone n patterns k f (Some l) o other last = (l.1, ap (λ (i : ℕ). Some (i, l.1)) (same_last n patterns f l.0 k l.1 o other last))

pub made_from : (n : Netlist) (batch patterns others : List Pattern) (found : List (Option Found)) (seed : ℕ) (lasts : List (Option (ℕ × Point))) (kept : List Pattern)
    → AreFilledFrom (cubes_in found) 0 seed others → patterns ≡ batch ++ others → AllZip (LastTransition n patterns) (universe_of n) lasts
    → kept ≡ kept_from (is_last_at lasts) 0 patterns → AreMadeFrom n batch found seed kept
made_from n batch patterns others found seed lasts kept filled is told kept_is = record {
  others = others;
  filled = filled;
  needed = is_last_at lasts;
  exactly = λ place. (
    (λ m. subst (λ (ps : List Pattern). IsNeededForTransitions n (universe_of n) ps place) is (marked_by (LastTransition n patterns) (universe_of n) lasts place told m)),
    (λ need.
        marked_where (LastTransition n patterns) (universe_of n) lasts place told (alone n patterns place)
        (subst (λ (ps : List Pattern). IsNeededForTransitions n (universe_of n) ps place) (sym is) need)),
  );
  are = kept_is ∙ ap (kept_from (is_last_at lasts) 0) is;
}
