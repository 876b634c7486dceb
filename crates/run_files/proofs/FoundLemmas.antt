-- What the steps of a search make of each other's answers, however these are lent.
use Rattle.std.proofs.Common.{◌≡◌, ◌∙◌, ℕ, ◌+◌, ◌<◌, ◌≤◌, Bool, List, length, map, length-append, Option, sym, ap, subst, arith}
use Rattle.std.specs.List.{All}
use Rattle.std.specs.Option.{is_some}
use Rattle.std.proofs.lemmas.List.Elements.{All-append}
use Rattle.statement.specs.declared.lines.Fault.{Fault}
use Rattle.statement.specs.declared.lines.Point.{Point}
use Rattle.statement.specs.Netlists.{Netlist}
use Rattle.statement.specs.Patterns.{Holds, Pattern}
use Rattle.cubes.specs.Cubes.{IsPatternOf}
use Rattle.netlist.specs.Lines.{IsLineOf}
use Rattle.fault_collapse.specs.Classes.{AreClasses}
use Rattle.fault_collapse.specs.Numbers.{Classes}
use Rattle.word_sim.specs.Never.{unmarked}
use Rattle.word_sim.proofs.Leaving.{left_have}
use Rattle.list_core.specs.declared.goals.Goal.{Goal}
use Rattle.list_core.specs.declared.verdicts.Verdict.{Verdict}
use Rattle.worker.specs.Working.{IsDone}
use Rattle.run_files.specs.declared.asked.AskedClasses.{AskedClasses}
use Rattle.run_files.specs.declared.searching.Left.{Left}
use Rattle.run_files.specs.inner.Classes.{AreAskedClasses}
use Rattle.run_files.specs.inner.Often.{AreChosen, AreLastTold}
use Rattle.run_files.specs.inner.Plans.{AreFaultsOf, AreFew, AreRepresented, MayBeSearched}
use Rattle.run_files.specs.inner.Searches.{AreAdded, AreBehind, AreDetectedMarks, AreDrawn, AreFoundBy, AreKnown, AreMarksOf, AreSearched, AreSpread, IsGoalOf, IsLeft, IsLeftBeside, IsSpreadOver}
use Rattle.run_files.specs.inner.Spread.{spread}
use Rattle.run_files.proofs.FirstLemmas.{marks_tell}
use Rattle.run_files.proofs.KnownLemmas.{known_spread}
use Rattle.run_files.proofs.SearchLemmas.{as_many, fewer, found_added, found_before, searched_of}

abbrev Tells : Type 0
Tells = List (Option (ℕ × Point))

pub faults_lent : (n : Netlist) (fs gs : List Fault) → fs ≡ gs → AreFaultsOf n gs → AreFaultsOf n fs
faults_lent n fs gs same are = subst (λ (hs : List Fault). AreFaultsOf n hs) (sym same) are

pub told_detected : (n : Netlist) (patterns : List Pattern) (faults : List Fault) (told lent : Tells) (marks : List Bool) → AreLastTold n patterns faults told → AreMarksOf lent marks → lent ≡ told
    → AreDetectedMarks n patterns faults marks
told_detected n patterns faults told lent marks tells are same =
    subst (λ (ms : List Bool). AreDetectedMarks n patterns faults ms) (sym (are.are ∙ ap (λ (os : Tells). map is_some os) same)) (marks_tell n patterns faults told tells.each)

-- ---- what patterns leave

pub marks_sized : (n : Netlist) (patterns : List Pattern) (faults : List Fault) (marks : List Bool) → AreDetectedMarks n patterns faults marks → length marks ≡ length faults
marks_sized n patterns faults marks are = are.size

pub left_is : (n : Netlist) (percent : Option ℕ) (a : AskedClasses) (patterns : List Pattern) (all : List Fault) (marks : List Bool) (l : Left) → MayBeSearched n a
    → AreDetectedMarks n patterns all marks → IsLeftBeside percent a marks l → all ≡ a.faults.items → IsLeft n percent a patterns l
left_is n percent a patterns all marks l may are left all_is =
    let P : Fault → Type 0 = λ f. IsLineOf n f.line in
    let exactly : l.faults.items ≡ unmarked l.found.items a.faults.items = left.exactly ∙ ap (λ (ms : List Bool). unmarked ms a.faults.items) (sym left.found) in
    let size = ap length exactly in
    let few = fewer l.found.items a.faults.items in
    let most : length a.faults.items ≤ 2052000000 = may.faults.few in
    record {
      marks = subst (λ (ms : List Bool). AreDetectedMarks n patterns a.faults.items ms) (sym left.found) (subst (λ (fs : List Fault). AreDetectedMarks n patterns fs marks) all_is are);
      exactly = exactly;
      faults = record {
        few = omega arith;
        lines = subst (λ (fs : List Fault). All P fs) (sym exactly) (left_have P l.found.items a.faults.items may.faults.lines);
      };
      goal = subst (λ (ms : List Bool). IsGoalOf percent a.count a.weights.items ms l.goal) (sym left.found) left.goal;
    }

-- ---- what is drawn, and what is searched

pub drawn_behind : (n : Netlist) (holds : Holds) (first drawn all : List Pattern) → AreFew n holds 134217728 first → AreFew n holds 131073 drawn → AreBehind first drawn all → AreDrawn n holds first all
drawn_behind n holds first drawn all few more is =
    let P : Pattern → Type 0 = IsPatternOf n holds in
    let size = ap length is.are in
    let both = length-append first drawn in
    record {
      few = record {
        obey = subst (λ (ps : List Pattern). All P ps) (sym is.are) (All-append P first drawn few.obey more.obey);
        few = omega (arith, few.few, more.few);
      };
      drawn = drawn;
      behind = is.are;
    }

module _ (n : Netlist) (holds : Holds) (limit : ℕ) (refutes : Bool) where
  pub are_spread : (l : Left) (searched : List Fault) (g : Option Goal) (ms : List Bool) (patterns more : List Pattern) (others verdicts : List Verdict)
      → AreKnown n holds limit refutes searched patterns others → IsDone g others → length patterns ≤ length searched + length searched → IsSpreadOver ms patterns others more verdicts
      → searched ≡ l.faults.items → g ≡ l.goal → ms ≡ l.found.items → AreSpread n holds limit refutes l more verdicts
  are_spread l searched g ms patterns more others verdicts known done few over searched_is g_is ms_is =
      let size = ap length searched_is in
      let same = ap length over.patterns_are in
      record {
        others = others;
        known = subst (λ (ps : List Pattern). AreKnown n holds limit refutes l.faults.items ps others) (sym over.patterns_are)
            (subst (λ (fs : List Fault). AreKnown n holds limit refutes fs patterns others) searched_is known);
        done = subst (λ (o : Option Goal). IsDone o others) g_is done;
        few = omega arith;
        spreads = over.verdicts_are ∙ ap (λ (bs : List Bool). spread bs others) ms_is;
      }

  pub added : (percent : Option ℕ) (a : AskedClasses) (first lent all more : List Pattern) (l : Left) (verdicts : List Verdict)
      → IsLeft n percent a lent l → AreSpread n holds limit refutes l more verdicts → AreFew n holds 134348800 first → AreBehind first more all → lent ≡ first
      → AreAdded n holds limit refutes percent a first all verdicts
  added percent a first lent all more l verdicts left found few is lent_is =
      let faults = a.faults.items in
      let marks = l.found.items in
      let are : AreDetectedMarks n first faults marks = subst (λ (ps : List Pattern). AreDetectedMarks n ps faults marks) lent_is left.marks in
      let known : AreKnown n holds limit refutes (unmarked marks faults) more found.others =
      subst (λ (fs : List Fault). AreKnown n holds limit refutes fs more found.others) left.exactly found.known in
      let most : length l.faults.items ≤ 2052000000 = left.faults.few in
      let gathered = ap length is.are in
      let both = length-append first more in
      record {
        marks = marks;
        more = more;
        others = found.others;
        goal = l.goal;
        are_marks = are;
        known = known;
        known_all =
            subst (λ (ps : List Pattern). AreKnown n holds limit refutes faults ps (spread marks found.others)) (sym is.are)
            (known_spread n holds limit refutes faults marks first more found.others are.size few.obey known);
        goal_is = left.goal;
        done = found.done;
        behind = is.are;
        spreads = found.spreads;
        few = omega (arith, found.few, few.few);
      }

  -- ---- what is chosen

  module _ (percent : Option ℕ) (a : AskedClasses) where
    pub known_lent : (first patterns : List Pattern) (verdicts : List Verdict) (fs : List Fault) → AreAdded n holds limit refutes percent a first patterns verdicts → fs ≡ a.faults.items
        → AreKnown n holds limit refutes fs patterns verdicts
    known_lent first patterns verdicts fs is same =
        subst (λ (gs : List Fault). AreKnown n holds limit refutes gs patterns verdicts) (sym same)
        (subst (λ (vs : List Verdict). AreKnown n holds limit refutes a.faults.items patterns vs) (sym is.spreads) is.known_all)

    pub found_finally : (times : ℕ) (first all patterns kept : List Pattern) (verdicts new : List Verdict) (fs : List Fault) → MayBeSearched n a → AreDrawn n holds first all
        → AreAdded n holds limit refutes percent a all patterns verdicts → AreChosen n holds times fs patterns verdicts kept new → fs ≡ a.faults.items
        → AreFoundBy n holds limit refutes times percent a first kept new
    found_finally times first all patterns kept verdicts new fs may drawn is chosen same = record {
      found = found_before n holds limit refutes times percent a.count a.faults.items a.weights.items first drawn.drawn all kept new drawn.behind
          (found_added n holds limit refutes times percent a all patterns verdicts kept new may.weights is
          (subst (λ (gs : List Fault). AreChosen n holds times gs patterns verdicts kept new) same chosen));
    }

-- ---- of all classes

pub may_be_searched : (n : Netlist) (classes : Classes) (marks : List Bool) (a : AskedClasses) → AreAskedClasses classes marks a → AreRepresented n classes → MayBeSearched n a
may_be_searched n classes marks a are all =
    let P : Fault → Type 0 = λ f. IsLineOf n f.line in
    let reps = classes.representatives in
    let size = ap length are.faults_are in
    let least = fewer a.others.items reps in
    let most : length reps ≤ 2052000000 = all.faults.few in
    record {
      faults = record {
        few = omega arith;
        lines = subst (λ (fs : List Fault). All P fs) (sym are.faults_are) (left_have P a.others.items reps all.faults.lines);
      };
      weights = ap length are.weights_are ∙ (as_many a.others.items reps are.weights are.are_weights.size ∙ sym size);
    }

pub searched_all : (n : Netlist) (holds : Holds) (limit : ℕ) (refutes : Bool) (times : ℕ) (percent : Option ℕ) (classes : Classes) (marks : List Bool) (first : List Pattern)
    (a : AskedClasses) (ms : List Bool) (patterns same : List Pattern) (verdicts all : List Verdict) → AreClasses n classes → AreAskedClasses classes marks a
    → AreFoundBy n holds limit refutes times percent a first patterns verdicts → IsSpreadOver ms patterns verdicts same all → ms ≡ a.others.items
    → AreSearched n holds limit refutes times percent classes marks first same all
searched_all n holds limit refutes times percent classes marks first a ms patterns same verdicts all are asked found over ms_is =
    subst (λ (ps : List Pattern). AreSearched n holds limit refutes times percent classes marks first ps all) (sym over.patterns_are)
    (subst (λ (vs : List Verdict). AreSearched n holds limit refutes times percent classes marks first patterns vs)
    (sym (over.verdicts_are ∙ ap (λ (bs : List Bool). spread bs verdicts) ms_is))
    (searched_of n holds limit refutes times percent classes marks first patterns verdicts are.within a asked found.found))
