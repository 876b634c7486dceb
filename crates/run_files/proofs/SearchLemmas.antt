-- What is found of the faults that are asked for, and so of all classes.
use Rattle.std.proofs.Common.{◌≡◌, ℕ, zero, suc, ◌+◌, ◌-◌, ◌*◌, ◌<◌, ◌≤◌, inl, inr, ◌⊎◌, Bool, false, true, true≢false, cond, List, [], ◌∷◌, ◌++◌, length, get_or, Option, Some, None, refl, sym, ◌∙◌, ap, subst, arith}
use Rattle.std.specs.Int.{div_ceil}
use Rattle.std.specs.List.{All, Contains, slice_get}
use Rattle.std.proofs.lemmas.Bool.{cases_order}
use Rattle.std.proofs.lemmas.Bool.Decides.{nat_tests}
use Rattle.std.proofs.lemmas.Grind.{div_ceil_times}
use Rattle.std.proofs.lemmas.List.{get_or-map, length-map}
use Rattle.std.proofs.lemmas.List.Elements.{All-cons, All-get_or, All-head, All-nil, All-tail}
use Rattle.std.proofs.lemmas.Option.{get_or_from_slice_get, slice_get-get_or, slice_get_within}
use Rattle.netlist.proofs.Lists.{contains_cases, contains_head, contains_nil, contains_tail}
use Rattle.statement.specs.declared.lines.Fault.{Fault}
use Rattle.statement.specs.Netlists.{Netlist}
use Rattle.statement.specs.Patterns.{Holds, Pattern}
use Rattle.statement.specs.Faults.{universe_of}
use Rattle.fault_collapse.specs.Classes.{AreClasses}
use Rattle.fault_collapse.specs.Numbers.{Classes}
use Rattle.word_sim.specs.Never.{unmarked}
use Rattle.list_core.specs.declared.goals.Goal.{Goal}
use Rattle.list_core.specs.declared.verdicts.Verdict.{Verdict}
use Rattle.list_core.specs.declared.verdicts.Verdict.TheVariants.{Open, Detected, Redundant, Aborted}
use Rattle.list_core.specs.Enough.{IsEnough, detected_weight}
use Rattle.list_core.specs.Verdicts.{is_open, one_if_class_detected, verdict_at}
use Rattle.worker.specs.Working.{IsDone, NoneOpen}
use Rattle.run_files.specs.declared.asked.AskedClasses.{AskedClasses}
use Rattle.run_files.specs.inner.Classes.{AreAskedClasses, IsAskedClass, asked_in, detected_in, is_zero}
use Rattle.run_files.specs.inner.Often.{AreChosen}
use Rattle.run_files.specs.inner.Searches.{AreAdded, AreDetectedMarks, AreFound, AreKnown, AreSearched, IsGoal, IsGoalOf, IsMet, IsSeenBy}
use Rattle.run_files.specs.inner.Spread.{marked_weight, spread, unmarked_weights}
use Rattle.run_files.specs.inner.Verdicts.{IsVerdict, MayHave}
use Rattle.run_files.proofs.CountLemmas.{asked_some, some_asked, weighed}
use Rattle.run_files.proofs.KnownLemmas.{blank, detected_stays, kinds_of, seen_before, seen_stays, shut_stays, verdicts_of}
use Rattle.run_files.proofs.SpreadLemmas.{outweighs, spread_each, spread_open, spread_size, spread_weight}

detected_shut : (v : Verdict) → one_if_class_detected v ≡ 1 → is_open v ≡ false
detected_shut Open one = absurd (omega arith)
detected_shut (Detected place point) one = refl
detected_shut (Redundant e) one = refl
detected_shut (Aborted tree) one = refl

one_at_most : (v : Verdict) → one_if_class_detected v ≤ 1
one_at_most Open = omega arith
one_at_most (Detected place point) = omega arith
one_at_most (Redundant e) = omega arith
one_at_most (Aborted tree) = omega arith

-- ---- of those that are asked for

-- a goal that is reached is enough, with what the marked ones weigh
reached : (percent asked found before after enough : ℕ) → enough ≡ div_ceil (percent * asked) 100 - found → enough ≤ before → found + before ≤ after → percent * asked ≤ 100 * after
reached percent asked found before after enough is le sum =
    let up = div_ceil_times (percent * asked) 100 (omega arith) in
    let most : percent * asked ≤ div_ceil (percent * asked) 100 * 100 = up.0 in
    omega arith

ended : (percent : Option ℕ) (asked : ℕ) (weights : List ℕ) (marks : List Bool) (goal : Option Goal) (verdicts new : List Verdict) → IsGoalOf percent asked weights marks goal → IsDone goal verdicts
    → (NoneOpen verdicts → NoneOpen new)
    → ((p : ℕ) (g : Goal) → IsGoal p asked weights marks g → IsEnough g verdicts → p * asked ≤ 100 * detected_weight weights new)
    → NoneOpen new ⊎ IsMet percent asked (detected_weight weights new)
ended None asked weights marks None verdicts new is done shut met = inl (shut done)
ended None asked weights marks (Some g) verdicts new is done shut met = absurd is
ended (Some p) asked weights marks None verdicts new is done shut met = absurd is
ended (Some p) asked weights marks (Some g) verdicts new is done shut met = elim done [
  | inl none ↦ inl (shut none)
  | inr enough ↦ inr (met p g is enough)
]

module _ (n : Netlist) (holds : Holds) (limit : ℕ) (refutes : Bool) (times : ℕ) (faults : List Fault) (weights : List ℕ) (first more patterns : List Pattern) (marks : List Bool) (verdicts : List Verdict)
    (kept : List Pattern) (new : List Verdict) (sized : length weights ≡ length faults) (are : AreDetectedMarks n first faults marks)
    (known : AreKnown n holds limit refutes (unmarked marks faults) more verdicts) (known_all : AreKnown n holds limit refutes faults patterns (spread marks verdicts))
    (through : (class : ℕ) (f : Fault) → slice_get faults class ≡ Some f → IsSeenBy n first f → IsSeenBy n patterns f)
    (done : AreChosen n holds times faults patterns (spread marks verdicts) kept new) where
  abbrev before : List Verdict
  before = spread marks verdicts

  first_detected : (class : ℕ) (f : Fault) → slice_get faults class ≡ Some f → IsSeenBy n first f → one_if_class_detected (verdict_at new class) ≡ 1
  first_detected class f at seen = seen_stays n holds limit refutes faults patterns before known_all times kept new done class f at (through class f at seen)

  shut_at : NoneOpen verdicts → (class : ℕ) (f : Fault) → slice_get faults class ≡ Some f → (mark : Bool) → get_or marks class false ≡ mark → is_open (verdict_at new class) ≡ false
  shut_at none class f at true mark = detected_shut (verdict_at new class) (first_detected class f at ((are.each class f at).0 mark))
  shut_at none class f at false mark =
      shut_stays n holds limit refutes faults patterns before known_all times kept new done class f at
      (spread_each (λ (g : Fault) (v : Verdict). is_open v ≡ false) marks faults verdicts are.size
      (λ i g there. none i (let lt = slice_get_within (unmarked marks faults) i g there in omega (arith, known.count))) class f at mark)

  none_open : NoneOpen verdicts → NoneOpen new
  none_open none class lt =
      let at = slice_get-get_or faults class blank (omega (arith, lt, done.count, known_all.count)) in
      shut_at none class (get_or faults class blank) at (get_or marks class false) refl

  more_at : (class : ℕ) (f : Fault) → slice_get faults class ≡ Some f → (mark : Bool) → get_or marks class false ≡ mark
      → one_if_class_detected (verdict_at before class) + cond mark 1 0 ≤ one_if_class_detected (verdict_at new class)
  more_at class f at true mark =
      let none : one_if_class_detected (verdict_at before class) ≡ 0 = ap one_if_class_detected (spread_open marks verdicts class mark) in
      let one = first_detected class f at ((are.each class f at).0 mark) in
      omega arith
  more_at class f at false mark =
      let stays = detected_stays n holds limit refutes faults patterns before known_all times kept new done class f at in
      omega arith

  heavy : marked_weight marks weights + detected_weight (unmarked_weights marks weights) verdicts ≤ detected_weight weights new
  heavy =
      let sizes : length marks ≡ length weights = omega (arith, are.size, sized) in
      let left = spread_weight marks weights verdicts sizes in
      let all = outweighs marks weights before new sizes (omega (arith, known_all.count, sized)) (omega (arith, done.count, known_all.count, sized))
      (λ class lt.
      let at = slice_get-get_or faults class blank (omega (arith, lt, sized)) in
      more_at class (get_or faults class blank) at (get_or marks class false) refl) in
      omega arith

  met : (asked p : ℕ) (g : Goal) → IsGoal p asked weights marks g → IsEnough g verdicts → p * asked ≤ 100 * detected_weight weights new
  met asked p g goal enough =
      let reach : g.enough ≤ detected_weight (unmarked_weights marks weights) verdicts = subst (λ (ws : List ℕ). g.enough ≤ detected_weight ws verdicts) goal.weights_are enough in
      reached p asked (marked_weight marks weights) (detected_weight (unmarked_weights marks weights) verdicts) (detected_weight weights new) g.enough goal.enough reach heavy

  pub found_of : (percent : Option ℕ) (asked : ℕ) (goal : Option Goal) → IsGoalOf percent asked weights marks goal → IsDone goal verdicts → AreFound n holds limit refutes times percent asked faults weights first kept new
  found_of percent asked goal is ends = record {
    verdicts_are = verdicts_of n holds limit refutes faults patterns before known_all times kept new done;
    kinds = kinds_of n holds limit refutes faults patterns before known_all times kept new done;
    needed = done.needed;
    few = done.few;
    first_kept = first_detected;
    done = ended percent asked weights marks goal verdicts new is ends none_open (met asked);
  }

-- what is found behind patterns is found behind the first of them
pub found_before : (n : Netlist) (holds : Holds) (limit : ℕ) (refutes : Bool) (times : ℕ) (percent : Option ℕ) (asked : ℕ) (faults : List Fault) (weights : List ℕ)
    (first more all kept : List Pattern) (verdicts : List Verdict) → all ≡ first ++ more → AreFound n holds limit refutes times percent asked faults weights all kept verdicts
    → AreFound n holds limit refutes times percent asked faults weights first kept verdicts
found_before n holds limit refutes times percent asked faults weights first more all kept verdicts behind found = record {
  verdicts_are = found.verdicts_are;
  needed = found.needed;
  kinds = found.kinds;
  few = found.few;
  first_kept = λ class f at seen. found.first_kept class f at (subst (λ (ps : List Pattern). IsSeenBy n ps f) (sym behind) (seen_before n first more f seen));
  done = found.done;
}

-- what is chosen of what a search added to patterns
pub found_added : (n : Netlist) (holds : Holds) (limit : ℕ) (refutes : Bool) (times : ℕ) (percent : Option ℕ) (a : AskedClasses) (first patterns : List Pattern) (verdicts : List Verdict)
    (kept : List Pattern) (new : List Verdict) → length a.weights.items ≡ length a.faults.items → AreAdded n holds limit refutes percent a first patterns verdicts
    → AreChosen n holds times a.faults.items patterns verdicts kept new → AreFound n holds limit refutes times percent a.count a.faults.items a.weights.items first kept new
found_added n holds limit refutes times percent a first patterns verdicts kept new sized added done =
    found_of n holds limit refutes times a.faults.items a.weights.items first added.more patterns added.marks added.others kept new sized added.are_marks added.known added.known_all
    (λ class f at seen. subst (λ (ps : List Pattern). IsSeenBy n ps f) (sym added.behind) (seen_before n first added.more f seen))
    (subst (λ (vs : List Verdict). AreChosen n holds times a.faults.items patterns vs kept new) added.spreads done) percent a.count added.goal added.goal_is added.done

-- ---- of all classes

among : (ms : List Bool) (fs : List Fault) (f : Fault) → Contains (unmarked ms fs) f → Contains fs f
among [] fs f c = absurd (contains_nil f c)
among (m ∷ ms) [] f c = absurd (contains_nil f c)
among (true ∷ ms) (g ∷ fs) f c = contains_tail g f fs (among ms fs f c)
among (false ∷ ms) (g ∷ fs) f c = elim (contains_cases g f (unmarked ms fs) c) [
  | inl same ↦ subst (λ (h : Fault). Contains (g ∷ fs) h) same (contains_head g fs)
  | inr later ↦ contains_tail g f fs (among ms fs f later)
]

pub fewer : (ms : List Bool) (fs : List Fault) → length (unmarked ms fs) ≤ length fs
fewer [] fs = omega arith
fewer (m ∷ ms) [] = omega arith
fewer (true ∷ ms) (f ∷ fs) = let rest = fewer ms fs in omega arith
fewer (false ∷ ms) (f ∷ fs) = let rest = fewer ms fs in omega arith

-- a weight for each
pub as_many : (ms : List Bool) (fs : List Fault) (ws : List ℕ) → length ws ≡ length fs → length (unmarked_weights ms ws) ≡ length (unmarked ms fs)
as_many [] fs ws size = refl
as_many (m ∷ ms) [] [] size = refl
as_many (m ∷ ms) [] (w ∷ ws) size = absurd (omega arith)
as_many (m ∷ ms) (f ∷ fs) [] size = absurd (omega arith)
as_many (true ∷ ms) (f ∷ fs) (w ∷ ws) size = as_many ms fs ws (omega arith)
as_many (false ∷ ms) (f ∷ fs) (w ∷ ws) size = ap suc (as_many ms fs ws (omega arith))

kinds_spread : (refutes : Bool) (ms : List Bool) (vs : List Verdict) → All (MayHave refutes) vs → All (MayHave refutes) (spread ms vs)
kinds_spread refutes [] vs may = All-nil (MayHave refutes)
kinds_spread refutes (true ∷ ms) vs may = All-cons (MayHave refutes) Open (spread ms vs) tt (kinds_spread refutes ms vs may)
kinds_spread refutes (false ∷ ms) [] may = All-cons (MayHave refutes) Open (spread ms []) tt (kinds_spread refutes ms [] may)
kinds_spread refutes (false ∷ ms) (v ∷ vs) may =
    All-cons (MayHave refutes) v (spread ms vs) (All-head (MayHave refutes) v vs may) (kinds_spread refutes ms vs (All-tail (MayHave refutes) v vs may))

some_of : (k : ℕ) → is_zero k ≡ false → 0 < k
some_of k e = grind (arith, nat_tests)

not_zero : (k : ℕ) → 0 < k → is_zero k ≡ false
not_zero k lt = grind (arith, nat_tests)

-- past the end all are Open
open_past : (vs : List Verdict) (k : ℕ) → is_open (verdict_at vs k) ≡ false → k < length vs
open_past [] k shut = absurd (true≢false shut)
open_past (v ∷ vs) zero shut = omega arith
open_past (v ∷ vs) (suc k) shut = let rest = open_past vs k shut in omega arith

module _ (n : Netlist) (holds : Holds) (limit : ℕ) (refutes : Bool) (times : ℕ) (percent : Option ℕ) (classes : Classes) (marks : List Bool) (first kept : List Pattern) (verdicts : List Verdict)
    (within : All (λ class. class < length classes.representatives) classes.numbers) (a : AskedClasses) (are : AreAskedClasses classes marks a)
    (found : AreFound n holds limit refutes times percent a.count a.faults.items a.weights.items first kept verdicts) where
  abbrev others : List Bool
  others = a.others.items

  abbrev all : List Verdict
  all = spread others verdicts

  others_size : length others ≡ length classes.representatives
  others_size = ap length are.others ∙ (length-map are.weights is_zero ∙ are.are_weights.size)

  other_at : (class : ℕ) → class < length classes.representatives → get_or others class false ≡ is_zero (asked_in classes.numbers marks class)
  other_at class lt =
      ap (λ (ms : List Bool). get_or ms class false) are.others
      ∙ (get_or-map is_zero are.weights class 0 false (omega (arith, lt, are.are_weights.size)) ∙ ap is_zero (are.are_weights.each class lt))

  asked_mark : (class : ℕ) → class < length classes.representatives → IsAskedClass classes.numbers marks class → get_or others class false ≡ false
  asked_mark class lt asked = other_at class lt ∙ not_zero (asked_in classes.numbers marks class) (asked_some classes.numbers marks class asked)

  class_within : (class : ℕ) → IsAskedClass classes.numbers marks class → class < length classes.representatives
  class_within class asked =
      let lt = slice_get_within classes.numbers asked.place class asked.of_class in
      subst (λ k. k < length classes.representatives) (get_or_from_slice_get classes.numbers asked.place class 0 asked.of_class)
      (All-get_or (λ k. k < length classes.representatives) classes.numbers asked.place 0 lt within)

  -- what is so of each that is asked for is so of its class
  of_left : (P : Fault → Verdict → Type 0) → ((i : ℕ) (f : Fault) → slice_get a.faults.items i ≡ Some f → P f (verdict_at verdicts i))
      → (class : ℕ) (f : Fault) → slice_get classes.representatives class ≡ Some f → get_or others class false ≡ false → P f (verdict_at all class)
  of_left P each class f at mark =
      spread_each P others classes.representatives verdicts others_size
      (λ i g there. each i g (ap (λ (fs : List Fault). slice_get fs i) are.faults_are ∙ there)) class f at mark

  verdict_of : (class : ℕ) (f : Fault) → slice_get classes.representatives class ≡ Some f → (mark : Bool) → get_or others class false ≡ mark → IsVerdict n holds limit kept f (verdict_at all class)
  verdict_of class f at true mark = subst (IsVerdict n holds limit kept f) (sym (spread_open others verdicts class mark)) tt
  verdict_of class f at false mark = of_left (IsVerdict n holds limit kept) found.verdicts_are.each class f at mark

  asked_of : (class : ℕ) → is_open (verdict_at all class) ≡ false → (mark : Bool) → get_or others class false ≡ mark → IsAskedClass classes.numbers marks class
  asked_of class shut true mark =
      let is : is_open (verdict_at all class) ≡ true = ap is_open (spread_open others verdicts class mark) in
      absurd (true≢false (sym is ∙ shut))
  asked_of class shut false mark =
      let inside = open_past all class shut in
      let lt : class < length classes.representatives = omega (arith, inside, spread_size others verdicts, others_size) in
      some_asked classes.numbers marks class (some_of (asked_in classes.numbers marks class) (sym (other_at class lt) ∙ mark))

  all_shut : NoneOpen verdicts → (class : ℕ) → IsAskedClass classes.numbers marks class → is_open (verdict_at all class) ≡ false
  all_shut none class asked =
      let lt = class_within class asked in
      of_left (λ (f : Fault) (v : Verdict). is_open v ≡ false)
      (λ i f there. none i (let low = slice_get_within a.faults.items i f there in omega (arith, found.verdicts_are.count)))
      class (get_or classes.representatives class blank) (slice_get-get_or classes.representatives class blank lt) (asked_mark class lt asked)

  same_weight : detected_weight a.weights.items verdicts ≡ detected_in classes.numbers marks all
  same_weight =
      let size : length others ≡ length are.weights = omega (arith, others_size, are.are_weights.size) in
      ap (λ (ws : List ℕ). detected_weight ws verdicts) are.weights_are
      ∙ (sym (spread_weight others are.weights verdicts size)
      ∙ weighed classes.numbers marks are.weights all (omega (arith, spread_size others verdicts, size))
      (λ class lt. are.are_weights.each class (omega (arith, lt, spread_size others verdicts, others_size))))

  pub searched_of : AreSearched n holds limit refutes times percent classes marks first kept all
  searched_of = record {
    verdicts_are = record {
      count = spread_size others verdicts ∙ others_size;
      obey = found.verdicts_are.obey;
      each = λ class f at. verdict_of class f at (get_or others class false) refl;
    };
    needed = record {
      each = λ place lt.
          let needed = found.needed.each place lt in
          (needed.0, among others classes.representatives needed.0 (subst (λ (fs : List Fault). Contains fs needed.0) are.faults_are needed.1), needed.2);
      differ = found.needed.differ;
    };
    kinds = kinds_spread refutes others verdicts found.kinds;
    few = found.few;
    asked = λ class shut. asked_of class shut (get_or others class false) refl;
    first_kept = λ class f at asked seen.
        of_left (λ (g : Fault) (v : Verdict). IsSeenBy n first g → one_if_class_detected v ≡ 1) (λ i g there now. found.first_kept i g there now) class f at
        (asked_mark class (class_within class asked) asked) seen;
    done = elim found.done [
      | inl none ↦ inl (all_shut none)
      | inr met ↦ inr (subst (λ count. IsMet percent count (detected_in classes.numbers marks all)) are.count (subst (IsMet percent a.count) same_weight met))
    ];
  }

-- ---- few classes

module _ (n : Netlist) (classes : Classes) (are : AreClasses n classes) where
  -- classes are no more than the faults before the first member of the last
  later : (k : ℕ) → (lt : k < length classes.representatives) → k ≤ (are.first k lt).place
  later zero lt = omega arith
  later (suc k) lt =
      let before : k < length classes.representatives = omega arith in
      let low = later k before in
      let a = are.first k before in
      let b = are.first (suc k) lt in
      elim (cases_order a.place b.place) [
        | inl same ↦ let e = sym a.member ∙ (ap (λ i. get_or classes.numbers i 0) same ∙ b.member) in absurd (omega arith)
        | inr o ↦ elim o [
          | inl lower ↦ omega arith
          | inr higher ↦ let e = a.earlier b.place higher in let m = b.member in absurd (omega arith)
        ]
      ]

  by_count : (blank : Fault) (k : ℕ) → length classes.representatives ≡ k → length classes.representatives ≤ length (universe_of n)
  by_count blank zero e = omega arith
  by_count blank (suc k) e =
      let lt : k < length classes.representatives = omega arith in
      let first = are.first k lt in
      let g = get_or classes.representatives k blank in
      let at = slice_get_within (universe_of n) first.place g (first.representative g (slice_get-get_or classes.representatives k blank lt)) in
      let low = later k lt in
      omega arith

  pub few_classes : (blank : Fault) → length classes.representatives ≤ length (universe_of n)
  few_classes blank = by_count blank (length classes.representatives) refl
