-- Cubes, patterns and hits of a batch.
use Rattle.std.proofs.Common.{zero, suc, ◌≡◌, ◌≢◌, true≢false, inl, inr, ℕ, ◌<◌, List, [], ◌∷◌, get_or, refl, sym, ◌∙◌, subst, arith, Bor}
use Rattle.std.specs.List.{All, AllPairs}
use Rattle.std.specs.Prelude.{true, false, Bool, Result, Ok, Err, Option, Some, None, IfNone}
use Rattle.std.specs.Option.{option_copied}
use Rattle.std.specs.Result.{OnOk}
use Rattle.std.proofs.lemmas.List.Elements.{All-cons, All-head, All-tail}
use Rattle.std.proofs.lemmas.List.Kept.{AllPairs-cons}
use Rattle.std.proofs.lemmas.Option.{get_or_from_slice_get, slice_get_within}
use Rattle.statement.specs.declared.lines.Fault.{Fault}
use Rattle.statement.specs.declared.lines.Point.{Point}
use Rattle.statement.specs.Netlists.{Netlist}
use Rattle.statement.specs.Patterns.{Holds, Pattern}
use Rattle.netlist.specs.Lines.{IsLineOf}
use Rattle.cubes.specs.Cubes.{Cube, HaveSameWidths, AgreesWith, IsCubeOf, IsPatternOf}
use Rattle.word_sim.specs.declared.batches.Hit.{Hit}
use Rattle.word_sim.specs.Hits.{AreHits}
use Rattle.redundancy_cert.specs.declared.nodes.Node.{Node}
use Rattle.evidence.specs.declared.kinds.Evidence.TheVariants.{Tree, Refutation}
use Rattle.evidence.specs.declared.engine.Found.{Found}
use Rattle.evidence.specs.declared.engine.Found.TheVariants.{Closed, Refuted, Partial}
use Rattle.evidence.specs.Answers.{HasEvidence, MayAnswer}
use Rattle.redundancy_cert.specs.TestCubes.{IsTestCube}
use Rattle.list_core.specs.States.{MaySettle}
use Rattle.list_core.specs.Subjects.{Subject, RepresentsIn, HaveLines}
use Rattle.list_core.specs.Batches.{IsTrueHit, IsTrueBatch}
use Rattle.list_core.specs.declared.goals.Goal.{Goal}
use Rattle.list_core.specs.declared.verdicts.Verdict.{Verdict}
use Rattle.worker.specs.Working.{IsDone, MaySearch, NoneOpen}

-- cubes of one netlist have the same widths
pub same_widths : (n : Netlist) (holds : Holds) (cubes : List Cube) → All (IsCubeOf n holds) cubes → AllPairs HaveSameWidths cubes
same_widths n holds cubes all i j d a b =
    let x = all i d (omega arith) in
    let y = all j d b in
    record { inputs = x.inputs ∙ sym y.inputs; cells = x.cells ∙ sym y.cells }

-- the faults of the classes that were left stand on lines
pub lines_of_left : (j : Subject) (left : List (ℕ × Fault)) → HaveLines j
    → All (λ (p : ℕ × Fault). RepresentsIn j p.0 p.1) left → All (λ (p : ℕ × Fault). IsLineOf j.netlist p.1.line) left
lines_of_left j left lines reps k d lt =
    let faults : List Fault = j.faults in
    let place : ℕ = (get_or left k d).0 in
    let fault : Fault = (get_or left k d).1 in
    let there = reps k d lt in
    let P : Fault → Type 0 = λ f. IsLineOf j.netlist f.line in
    subst P (get_or_from_slice_get faults place fault fault there) (lines place fault (slice_get_within faults place fault there))

-- ---- hits of the classes that were left

pub none_of : {X : Type 0} (P : X → Type 0) → All P []
none_of P k d lt = absurd (omega (arith, lt))

pairs_head : {X : Type 0} (R : X → X → Type 0) (x : X) (xs : List X) → AllPairs R (x ∷ xs) → All (R x) xs
pairs_head R x xs pairs k d lt = pairs 0 (suc k) d (omega arith) (omega (arith, lt))

pairs_tail : {X : Type 0} (R : X → X → Type 0) (x : X) (xs : List X) → AllPairs R (x ∷ xs) → AllPairs R xs
pairs_tail R x xs pairs i k d a b = pairs (suc i) (suc k) d (omega (arith, a)) (omega (arith, b))

hits_true : (j : Subject) (ps : List Pattern) (given : List (ℕ × Fault)) (hits : List Hit) → All (λ (p : ℕ × Fault). RepresentsIn j p.0 p.1) given
    → AreHits j.netlist ps given hits → All (IsTrueHit j ps) hits
hits_true j ps [] hits reps none = subst (All (IsTrueHit j ps)) (sym none) (none_of (IsTrueHit j ps))
hits_true j ps (g ∷ gs) hits reps (inl w) = hits_true j ps gs hits (All-tail (λ (p : ℕ × Fault). RepresentsIn j p.0 p.1) g gs reps) w.1
hits_true j ps (g ∷ gs) hits reps (inr (h, rest, is, class, last, more)) =
    let rep : RepresentsIn j g.0 g.1 = All-head (λ (p : ℕ × Fault). RepresentsIn j p.0 p.1) g gs reps in
    let here : IsTrueHit j ps h = record {
      fault = g.1;
      represents = (let P : ℕ → Type 0 = λ c. RepresentsIn j c g.1 in subst P (sym class) rep);
      pattern = last.here.pattern;
      at = last.here.at;
      detects = last.here.detects;
    } in
    subst (All (IsTrueHit j ps)) (sym is) (All-cons (IsTrueHit j ps) h rest here (hits_true j ps gs rest (All-tail (λ (p : ℕ × Fault). RepresentsIn j p.0 p.1) g gs reps) more))

-- hits name classes that were given
hits_above : (n : Netlist) (ps : List Pattern) (bound : ℕ) (given : List (ℕ × Fault)) (hits : List Hit) → All (λ (p : ℕ × Fault). bound < p.0) given
    → AreHits n ps given hits → All (λ (h : Hit). bound < h.class) hits
hits_above n ps bound [] hits above none = subst (All (λ (h : Hit). bound < h.class)) (sym none) (none_of (λ (h : Hit). bound < h.class))
hits_above n ps bound (g ∷ gs) hits above (inl w) = hits_above n ps bound gs hits (All-tail (λ (p : ℕ × Fault). bound < p.0) g gs above) w.1
hits_above n ps bound (g ∷ gs) hits above (inr (h, rest, is, class, last, more)) =
    let low : bound < g.0 = All-head (λ (p : ℕ × Fault). bound < p.0) g gs above in
    let here : bound < h.class = omega (arith, low, class) in
    subst (All (λ (x : Hit). bound < x.class)) (sym is)
    (All-cons (λ (x : Hit). bound < x.class) h rest here (hits_above n ps bound gs rest (All-tail (λ (p : ℕ × Fault). bound < p.0) g gs above) more))

hits_once : (n : Netlist) (ps : List Pattern) (given : List (ℕ × Fault)) (hits : List Hit) → AllPairs (λ (p q : ℕ × Fault). p.0 < q.0) given
    → AreHits n ps given hits → AllPairs (λ (g h : Hit). g.class ≢ h.class) hits
hits_once n ps [] hits rising none =
    subst (AllPairs (λ (g h : Hit). g.class ≢ h.class)) (sym none) (λ i k d a b. absurd (omega (arith, b)))
hits_once n ps (g ∷ gs) hits rising (inl w) = hits_once n ps gs hits (pairs_tail (λ (p q : ℕ × Fault). p.0 < q.0) g gs rising) w.1
hits_once n ps (g ∷ gs) hits rising (inr (h, rest, is, class, last, more)) =
    let above = hits_above n ps g.0 gs rest (pairs_head (λ (p q : ℕ × Fault). p.0 < q.0) g gs rising) more in
    let apart : All (λ (x : Hit). h.class ≢ x.class) rest = (λ k d lt e. let up = above k d lt in absurd (omega (arith, up, e, class))) in
    subst (AllPairs (λ (x y : Hit). x.class ≢ y.class)) (sym is)
    (AllPairs-cons (λ (x y : Hit). x.class ≢ y.class) h rest apart (hits_once n ps gs rest (pairs_tail (λ (p q : ℕ × Fault). p.0 < q.0) g gs rising) more))

pub true_batch : (j : Subject) (ps : List Pattern) (left : List (ℕ × Fault)) (hits : List Hit) → All (IsPatternOf j.netlist j.holds) ps
    → All (λ (p : ℕ × Fault). RepresentsIn j p.0 p.1) left → AllPairs (λ (p q : ℕ × Fault). p.0 < q.0) left
    → AreHits j.netlist ps left hits → IsTrueBatch j (record { patterns = ps; hits = hits })
true_batch j ps left hits are reps rising h = record {
  patterns = are;
  hits = hits_true j ps left hits reps h;
  once = hits_once j.netlist ps left hits rising h;
}

-- ---- what a search found may settle the claim

pub closed_settles : (j : Subject) (f : Fault) (t : List Node) → HasEvidence f j.netlist j.holds j.limit (Closed t) → MaySettle j f (Tree t)
closed_settles j f t h = record { shows = h.0; closed = λ some. absurd (omega (arith, some, h.1)); kind = tt }

pub partial_settles : (j : Subject) (f : Fault) (t : List Node) → HasEvidence f j.netlist j.holds j.limit (Partial t) → MaySettle j f (Tree t)
partial_settles j f t h = record { shows = h.0; closed = λ some. h.1; kind = tt }

pub refuted_settles : (j : Subject) (f : Fault) (steps : _) → HasEvidence f j.netlist j.holds j.limit (Refuted steps) → MayAnswer j.refutes (Refuted steps) → MaySettle j f (Refutation steps)
refuted_settles j f steps h may = record { shows = h; closed = λ some. absurd (omega (arith, some)); kind = may }

-- ---- the netlist, the held inputs and the limit at hand are those of the list

pub line_there : (j : Subject) (n : Netlist) (class : ℕ) (f : Fault) → n ≡ j.netlist → HaveLines j → RepresentsIn j class f → IsLineOf n f.line
line_there j n class f e lines rep =
    let faults : List Fault = j.faults in
    let P : Fault → Type 0 = λ x. IsLineOf j.netlist x.line in
    let Q : Netlist → Type 0 = λ m. IsLineOf m f.line in
    subst Q (sym e) (subst P (get_or_from_slice_get faults class f f rep) (lines class f (slice_get_within faults class f rep)))

pub evidence_there : (j : Subject) (f g : Fault) (n : Netlist) (holds : Holds) (limit : ℕ) (refutes : Bool) (found : Found) → f ≡ g → limit ≡ j.limit → MaySearch j n holds refutes
    → HasEvidence f n holds limit found → HasEvidence g j.netlist j.holds j.limit found
evidence_there j f g n holds limit refutes found ef el may h =
    let P : ℕ → Type 0 = λ k. HasEvidence g j.netlist j.holds k found in
    let Q : Holds → Type 0 = λ k. HasEvidence g j.netlist k limit found in
    let R : Netlist → Type 0 = λ m. HasEvidence g m holds limit found in
    let S : Fault → Type 0 = λ x. HasEvidence x n holds limit found in
    subst P el (subst Q may.3 (subst R may.0 (subst S ef h)))

pub kind_there : (j : Subject) (n : Netlist) (holds : Holds) (refutes : Bool) (found : Found) → MaySearch j n holds refutes → MayAnswer refutes found → MayAnswer j.refutes found
kind_there j n holds refutes found may kind = let P : Bool → Type 0 = λ b. MayAnswer b found in subst P may.5 kind

-- ---- one pattern with one hit

only : {A : Type 0} (P : A → Type 0) (x : A) → P x → All P (x ∷ [])
only P x h zero d lt = h
only P x h (suc k) d lt = absurd (omega (arith, lt))

pub single_true : (j : Subject) (f : Fault) (c : Cube) (p : Pattern) (o : Point) (class : ℕ) → RepresentsIn j class f
    → IsTestCube f j.netlist j.holds c o → AgreesWith p c → IsPatternOf j.netlist j.holds p
    → IsTrueBatch j (record { patterns = p ∷ []; hits = record { class = class; pattern = 0; point = o } ∷ [] })
single_true j f c p o class rep test agrees is =
    let h : Hit = record { class = class; pattern = 0; point = o } in
    record {
      patterns = only (IsPatternOf j.netlist j.holds) p is;
      hits = only (IsTrueHit j (p ∷ [])) h (record {
        fault = f;
        represents = rep;
        pattern = p;
        at = refl;
        detects = test.detects p agrees;
      });
      once = λ i k d less lt. absurd (omega (arith, less, lt));
    }

pub whatever_comes : {A E P : Type 0} (r : Result A E) → P → OnOk r P
whatever_comes (Ok x) p = p
whatever_comes (Err e) p = tt

-- ---- where there is no goal

-- no class is Open: enough whatever the goal
pub done_with_none : (o : Option Goal) (verdicts : List Verdict) → NoneOpen verdicts → IsDone o verdicts
done_with_none None verdicts none = none
done_with_none (Some goal) verdicts none = inl none

pub if_none_given : {T P Q : Type 0} (o : Option (Bor T)) → (P → Q) → IfNone (option_copied o) P → IfNone o Q
if_none_given None f p = f p
if_none_given (Some x) f p = tt

pub if_none_still : {T P Q : Type 0} (o : Option T) → (P → Q) → IfNone o P → IfNone o Q
if_none_still None f p = f p
if_none_still (Some x) f p = tt

pub whether_none : {T P : Type 0} (o : Option T) → P → IfNone o P
whether_none None p = p
whether_none (Some x) p = tt

-- where there is no goal it isn't said that enough is detected
pub not_enough : {T : Type 0} (P : Type 0) (o : Option T) (b : Bool) → IfNone o (b ≡ false) → b ≡ true → IfNone o P
not_enough P None b none is = absurd (true≢false (sym is ∙ none))
not_enough P (Some x) b none is = tt
