-- What a search knows of faults, before compaction and after.
use Rattle.std.proofs.Common.{◌≡◌, ℕ, zero, suc, ◌+◌, ◌<◌, ◌≤◌, inl, inr, Bool, false, true, true≢false, List, [], ◌∷◌, ◌++◌, length, map, get_or, Some, refl, sym, ◌∙◌, ap, subst, arith}
use Rattle.std.specs.List.{All, slice_get}
use Rattle.std.proofs.lemmas.List.{length-map}
use Rattle.std.proofs.lemmas.List.Elements.{All-append, All-from_get_or}
use Rattle.std.proofs.lemmas.Option.{slice_get-get_or, slice_get_within}
use Rattle.std.proofs.Math.ListN.{get_or-map}
use Rattle.statement.specs.declared.lines.Line.TheVariants.{Stem}
use Rattle.statement.specs.declared.lines.Fault.{Fault}
use Rattle.statement.specs.Netlists.{Netlist}
use Rattle.netlist.specs.Conditions.{IsSound}
use Rattle.statement.specs.Patterns.{Holds, Detects, Pattern}
use Rattle.cubes.specs.Cubes.{IsPatternOf}
use Rattle.redundancy_cert.specs.Fits.{Fits}
use Rattle.evidence.specs.Evidence.{Shows}
use Rattle.evidence.specs.Laws.{ShownIsRedundant}
use Rattle.word_sim.specs.Hits.{IsNeverDetected}
use Rattle.word_sim.specs.Never.{AreNever, unmarked}
use Rattle.list_core.specs.Finished.{IsLastTold}
use Rattle.list_core.specs.Subjects.{Subject, RepresentsIn}
use Rattle.list_core.specs.States.{State, IsTrueList}
use Rattle.list_core.specs.declared.verdicts.Verdict.{Verdict}
use Rattle.list_core.specs.declared.verdicts.Verdict.TheVariants.{Open, Detected, Redundant, Aborted}
use Rattle.list_core.specs.Verdicts.{VerdictHolds, is_open, one_if_class_detected, verdict_at}
use Rattle.fewer_patterns.specs.Fewer.{IsNoWorse, IsSeenBy, Keeps}
use Rattle.run_files.specs.inner.Often.{AreChosen}
use Rattle.run_files.specs.inner.Searches.{AreKnown, IsKnown}
use Rattle.run_files.specs.inner.Spread.{spread}
use Rattle.run_files.specs.inner.Verdicts.{AreVerdicts, IsVerdict, MayHave, is_redundant}
use Rattle.run_files.proofs.SpreadLemmas.{spread_each, spread_open, spread_size}

pub blank : Fault
blank = record { line = Stem 0; value = false }

-- ---- of a list

same_fault : (j : Subject) (class : ℕ) (f g : Fault) → RepresentsIn j class f → RepresentsIn j class g → f ≡ g
same_fault j class f g p q = let both : Some f ≡ Some g = sym p ∙ q in cc

known_at : (j : Subject) (patterns : List Pattern) (class : ℕ) (f : Fault) → RepresentsIn j class f → (v : Verdict) → VerdictHolds j patterns class v
    → IsKnown j.netlist j.holds j.limit j.refutes patterns f v
known_at j patterns class f represents Open holds = tt
known_at j patterns class f represents (Detected place point) holds =
    let same = same_fault j class holds.fault f holds.represents represents in
    (place, point, record { pattern = holds.pattern; at = holds.at; detects = subst (λ g. Detects j.netlist g holds.pattern.inputs holds.pattern.cells point) same holds.detects })
known_at j patterns class f represents (Redundant e) holds =
    let same = same_fault j class holds.0.fault f holds.0.represents represents in
    (subst (λ g. Shows g j.netlist j.holds e) same holds.0.shows, holds.1, holds.0.kind)
known_at j patterns class f represents (Aborted tree) holds =
    let same = same_fault j class holds.0.fault f holds.0.represents represents in
    (subst (λ g. Fits g j.netlist j.holds tree) same holds.0.shows, holds.1, holds.2)

pub known_of : (j : Subject) (s : State) → IsTrueList j s → AreKnown j.netlist j.holds j.limit j.refutes j.faults s.patterns s.verdicts
known_of j s list = record {
  count = list.count;
  obey = list.patterns;
  each = λ class f represents. known_at j s.patterns class f represents (verdict_at s.verdicts class) (list.hold class);
}

-- ---- by other patterns that detect as much of what isn't marked

module _ (n : Netlist) (old new : List Pattern) where
  keeps_all : (marks : List Bool) (faults : List Fault) → AreNever n old faults marks → Keeps n (unmarked marks faults) old new → Keeps n faults old new
  keeps_all marks [] never keep k d lt = absurd (omega (arith, lt))
  keeps_all [] (f ∷ fs) never keep k d lt = absurd (let s = never.size in omega arith)
  keeps_all (m ∷ ms) (f ∷ fs) never keep k d lt =
      let rest : AreNever n old fs ms = record { size = (let s = never.size in omega arith); each = λ i g at marked. never.each (suc i) g at marked } in
      by m k (λ is seen. never.each 0 f refl is seen.0 seen.1 seen.2) keep (keeps_all ms fs rest) lt where
        by : (mark : Bool) (i : ℕ) → (mark ≡ true → IsSeenBy n old f → ⊥) → Keeps n (unmarked (mark ∷ ms) (f ∷ fs)) old new
            → (Keeps n (unmarked ms fs) old new → Keeps n fs old new) → i < length (f ∷ fs) → IsSeenBy n old (get_or (f ∷ fs) i d) → IsSeenBy n new (get_or (f ∷ fs) i d)
        by true zero none those others low seen = absurd (none refl seen)
        by true (suc i) none those others low seen = others those i d (omega (arith, low)) seen
        by false zero none those others low seen = those 0 f (omega arith) seen
        by false (suc i) none those others low seen = others (λ j e lt. those (suc j) e (omega (arith, lt))) i d (omega (arith, low)) seen

pub no_worse_of_all : (n : Netlist) (holds : Holds) (faults : List Fault) (old new : List Pattern) (marks : List Bool) → AreNever n old faults marks
    → IsNoWorse n holds (unmarked marks faults) old new → IsNoWorse n holds faults old new
no_worse_of_all n holds faults old new marks never is = record { obey = is.obey; few = is.few; keeps = keeps_all n old new marks faults never is.keeps }

-- ---- behind the first patterns

left_place : {X : Type 0} (xs ys : List X) (k : ℕ) (x : X) → slice_get xs k ≡ Some x → slice_get (xs ++ ys) k ≡ Some x
left_place [] ys k x e = cc
left_place (a ∷ xs) ys zero x e = e
left_place (a ∷ xs) ys (suc k) x e = left_place xs ys k x e

right_place : {X : Type 0} (xs ys : List X) (k i : ℕ) (x : X) → i ≡ length xs + k → slice_get ys k ≡ Some x → slice_get (xs ++ ys) i ≡ Some x
right_place [] ys k i x is e = (let same : i ≡ k = omega arith in ap (λ j. slice_get ys j) same ∙ e)
right_place (a ∷ xs) ys k zero x is e = absurd (omega arith)
right_place (a ∷ xs) ys k (suc i) x is e = right_place xs ys k i x (omega arith) e

pub seen_before : (n : Netlist) (first more : List Pattern) (f : Fault) → IsSeenBy n first f → IsSeenBy n (first ++ more) f
seen_before n first more f seen =
    let d = seen.2 in
    (seen.0, seen.1, record { pattern = d.pattern; at = left_place first more seen.0 d.pattern d.at; detects = d.detects })

seen_behind : (n : Netlist) (first more : List Pattern) (f : Fault) → IsSeenBy n more f → IsSeenBy n (first ++ more) f
seen_behind n first more f seen =
    let d = seen.2 in
    (length first + seen.0, seen.1, record { pattern = d.pattern; at = right_place first more seen.0 (length first + seen.0) d.pattern refl d.at; detects = d.detects })

pattern_at : (n : Netlist) (holds : Holds) (patterns : List Pattern) → All (IsPatternOf n holds) patterns → (place : ℕ) (p : Pattern) → slice_get patterns place ≡ Some p → IsPatternOf n holds p
pattern_at n holds patterns all place p at =
    let lt = slice_get_within patterns place p at in
    let same : get_or patterns place p ≡ p = (let both : Some (get_or patterns place p) ≡ Some p = sym (slice_get-get_or patterns place p lt) ∙ at in cc) in
    subst (IsPatternOf n holds) same (all place p lt)

module _ (n : Netlist) (holds : Holds) (limit : ℕ) (refutes : Bool) where
  known_behind : (first more : List Pattern) (f : Fault) (v : Verdict) → IsKnown n holds limit refutes more f v → IsKnown n holds limit refutes (first ++ more) f v
  known_behind first more f Open known = tt
  known_behind first more f (Detected place point) known = seen_behind n first more f known
  known_behind first more f (Redundant e) known = known
  known_behind first more f (Aborted tree) known = known

  -- where some faults are left out
  pub known_spread : (faults : List Fault) (marks : List Bool) (first more : List Pattern) (verdicts : List Verdict) → length marks ≡ length faults
      → All (IsPatternOf n holds) first → AreKnown n holds limit refutes (unmarked marks faults) more verdicts
      → AreKnown n holds limit refutes faults (first ++ more) (spread marks verdicts)
  known_spread faults marks first more verdicts size obey known = record {
    count = spread_size marks verdicts ∙ size;
    obey = All-append (IsPatternOf n holds) first more obey known.obey;
    each = λ class f at. by_mark class f at (get_or marks class false) refl;
  }
    where
      by_mark : (class : ℕ) (f : Fault) → slice_get faults class ≡ Some f → (mark : Bool) → get_or marks class false ≡ mark
          → IsKnown n holds limit refutes (first ++ more) f (verdict_at (spread marks verdicts) class)
      by_mark class f at true mark = subst (IsKnown n holds limit refutes (first ++ more) f) (sym (spread_open marks verdicts class mark)) tt
      by_mark class f at false mark =
          spread_each (IsKnown n holds limit refutes (first ++ more)) marks faults verdicts size
          (λ i g there. known_behind first more g (verdict_at verdicts i) (known.each i g there)) class f at mark

  -- ---- by other patterns that detect as much

  fault_at : (P : Fault → Type 0) (faults : List Fault) → All P faults → (class : ℕ) (f : Fault) → slice_get faults class ≡ Some f → P f
  fault_at P faults all class f at =
      let lt = slice_get_within faults class f at in
      let same : get_or faults class f ≡ f = (let both : Some (get_or faults class f) ≡ Some f = sym (slice_get-get_or faults class f lt) ∙ at in cc) in
      subst P same (all class f lt)

  pub seen_again : (faults : List Fault) (old new : List Pattern) → IsNoWorse n holds faults old new → (class : ℕ) (f : Fault) → slice_get faults class ≡ Some f → IsSeenBy n old f → IsSeenBy n new f
  seen_again faults old new is class f at = fault_at (λ (g : Fault). IsSeenBy n old g → IsSeenBy n new g) faults is.keeps class f at

  known_again : (old new : List Pattern) (f : Fault) (v : Verdict) → (IsSeenBy n old f → IsSeenBy n new f) → IsKnown n holds limit refutes old f v → IsKnown n holds limit refutes new f v
  known_again old new f Open seen known = tt
  known_again old new f (Detected place point) seen known = seen known
  known_again old new f (Redundant e) seen known = known
  known_again old new f (Aborted tree) seen known = known

  pub known_by : (faults : List Fault) (old new : List Pattern) (verdicts : List Verdict) → IsNoWorse n holds faults old new → AreKnown n holds limit refutes faults old verdicts
      → AreKnown n holds limit refutes faults new verdicts
  known_by faults old new verdicts is known = record {
    count = known.count;
    obey = is.obey;
    each = λ class f at. known_again old new f (verdict_at verdicts class) (seen_again faults old new is class f at) (known.each class f at);
  }

  -- ---- no pattern detects a redundant one

  module _ (faults : List Fault) (patterns : List Pattern) (verdicts : List Verdict) (known : AreKnown n holds limit refutes faults patterns verdicts) where
    undetected : IsSound n → ShownIsRedundant → (f : Fault) (v : Verdict) → is_redundant v ≡ true → IsKnown n holds limit refutes patterns f v → IsNeverDetected n patterns f
    undetected sound law f Open is shown = absurd (true≢false (sym is))
    undetected sound law f (Detected place point) is shown = absurd (true≢false (sym is))
    undetected sound law f (Aborted tree) is shown = absurd (true≢false (sym is))
    undetected sound law f (Redundant e) is shown = λ place point seen.
        let p = pattern_at n holds patterns known.obey place seen.pattern seen.at in
        law f n holds e sound shown.0 shown.1 seen.pattern.inputs seen.pattern.cells point p.obeys seen.detects

    pub never_redundant : IsSound n → ShownIsRedundant → AreNever n patterns faults (map is_redundant verdicts)
    never_redundant sound law = record {
      size = length-map verdicts is_redundant ∙ known.count;
      each = λ k f at marked. undetected sound law f (verdict_at verdicts k) (sym (get_or-map is_redundant verdicts k Open) ∙ marked) (known.each k f at);
    }

    -- ---- after compaction

    module _ (times : ℕ) (kept : List Pattern) (new : List Verdict) (done : AreChosen n holds times faults patterns verdicts kept new) where
      told_detected : (f : Fault) (v : Verdict) → IsLastTold n kept f v → one_if_class_detected v ≡ 1
      told_detected f v told = ap one_if_class_detected told.2

      -- what some pattern detected is Detected
      pub seen_stays : (class : ℕ) (f : Fault) → slice_get faults class ≡ Some f → IsSeenBy n patterns f → one_if_class_detected (verdict_at new class) ≡ 1
      seen_stays class f at seen = told_detected f (verdict_at new class) (done.detected class f at seen.0 seen.1 seen.2)

      -- where no kept pattern detects the fault
      stays : (class : ℕ) (f : Fault) → slice_get faults class ≡ Some f → IsNeverDetected n kept f → (v : Verdict) → IsKnown n holds limit refutes patterns f v → IsVerdict n holds limit kept f v
      stays class f at never Open is = tt
      stays class f at never (Detected place point) is =
          let told = done.detected class f at is.0 is.1 is.2 in
          absurd (never told.0 told.1 told.3.here)
      stays class f at never (Redundant e) is = (never, is.0, is.1)
      stays class f at never (Aborted tree) is = (never, is.0, is.1, is.2)

      pub verdicts_of : AreVerdicts n holds faults limit kept new
      verdicts_of = record {
        count = done.count ∙ known.count;
        obey = done.obey;
        each = λ class f at. elim (done.each class f at) [
          | inl told ↦ subst (IsVerdict n holds limit kept f) (sym told.2) told.3
          | inr same ↦
              subst (IsVerdict n holds limit kept f) (sym same.0) (stays class f at same.1 (verdict_at verdicts class) (known.each class f at))
        ];
      }

      kind_of : (f : Fault) (v : Verdict) → IsKnown n holds limit refutes patterns f v → MayHave refutes v
      kind_of f Open is = tt
      kind_of f (Detected place point) is = tt
      kind_of f (Redundant e) is = is.2
      kind_of f (Aborted tree) is = tt

      pub kinds_of : All (MayHave refutes) new
      kinds_of = All-from_get_or (MayHave refutes) new Open (λ class lt.
          let f = get_or faults class blank in
          let at : slice_get faults class ≡ Some f = slice_get-get_or faults class blank (omega (arith, lt, done.count, known.count)) in
          elim (done.each class f at) [
            | inl told ↦ subst (MayHave refutes) (sym told.2) tt
            | inr same ↦ subst (MayHave refutes) (sym same.0) (kind_of f (verdict_at verdicts class) (known.each class f at))
          ])

      -- no class becomes Open
      pub shut_stays : (class : ℕ) (f : Fault) → slice_get faults class ≡ Some f → is_open (verdict_at verdicts class) ≡ false → is_open (verdict_at new class) ≡ false
      shut_stays class f at shut = elim (done.each class f at) [
        | inl told ↦ ap is_open told.2
        | inr same ↦ ap is_open same.0 ∙ shut
      ]

      known_detected : (class : ℕ) (f : Fault) → slice_get faults class ≡ Some f → (v : Verdict) → IsKnown n holds limit refutes patterns f v
          → one_if_class_detected v ≤ one_if_class_detected (verdict_at new class)
      known_detected class f at Open is = omega arith
      known_detected class f at (Detected place point) is = let one = seen_stays class f at is in omega arith
      known_detected class f at (Redundant e) is = omega arith
      known_detected class f at (Aborted tree) is = omega arith

      -- and what was Detected still is
      pub detected_stays : (class : ℕ) (f : Fault) → slice_get faults class ≡ Some f → one_if_class_detected (verdict_at verdicts class) ≤ one_if_class_detected (verdict_at new class)
      detected_stays class f at = known_detected class f at (verdict_at verdicts class) (known.each class f at)
