-- The lines and the evidence of verdicts are true.
use Rattle.std.proofs.Common.{◌≡◌, ◌≢◌, ℕ, zero, suc, inl, inr, false, cond, List, [], ◌∷◌, ◌++◌, length, get_or, Some, refl, sym, ◌∙◌, ap, subst, arith}
use Rattle.std.specs.List.{AllZip, slice_get, zip}
use Rattle.std.proofs.lemmas.Option.{slice_get-get_or}
use Rattle.statement.specs.declared.lines.Line.TheVariants.{Stem}
use Rattle.statement.specs.declared.lines.Fault.{Fault}
use Rattle.statement.specs.declared.outcomes.Outcome.{Outcome}
use Rattle.statement.specs.declared.outcomes.Outcome.TheVariants.{Unasked}
use Rattle.statement.specs.Netlists.{Netlist}
use Rattle.statement.specs.Patterns.{Holds, Pattern}
use Rattle.statement.specs.Reports.{Line}
use Rattle.statement.specs.Faults.{universe_of}
use Rattle.evidence.specs.declared.kinds.Evidence.{Evidence}
use Rattle.evidence.specs.declared.kinds.Evidence.TheVariants.{Tree}
use Rattle.run_report.specs.Outcomes.{IsFirstOf, has_evidence}
use Rattle.good_files.specs.GoodFiles.{faults_in}
use Rattle.transition_tests.specs.declared.verdicts.TransitionVerdict.{TransitionVerdict}
use Rattle.transition_tests.specs.declared.verdicts.TransitionVerdict.TheVariants.{Detected, Redundant, Aborted}
use Rattle.transition_tests.specs.Verdicts.{IsVerdict}
use Rattle.transition_tests.specs.Lines.{IsOutcomeOf, IsVerdictLine, leaf_at, leaves_of}
use Rattle.good_slow_files.specs.GoodSlowFiles.{AreTrueSlowLines, IsTrueOfSlow, SlowTest, slow_left_of}

-- ---- whose evidence it is

kept_or_not : (n : Netlist) (chains : List (List ℕ)) (f : Fault) (v : TransitionVerdict) (o : Outcome) (pin : List ℕ) → IsOutcomeOf n chains v o pin
    → (ls : List (Fault × Evidence)) (left : List Fault) → faults_in ls ≡ left → faults_in (leaf_at f v ++ ls) ≡ cond (has_evidence o) (f ∷ left) left
kept_or_not n chains f (Detected place point) o pin said ls left rest = rest ∙ sym (ap (λ (w : Outcome). cond (has_evidence w) (f ∷ left) left) said.1)
kept_or_not n chains f (Redundant e) o pin said ls left rest =
    ap (λ (fs : List Fault). f ∷ fs) rest ∙ sym (ap (λ (w : Outcome). cond (has_evidence w) (f ∷ left) left) said.0)
kept_or_not n chains f (Aborted tree) o pin said ls left rest =
    ap (λ (fs : List Fault). f ∷ fs) rest ∙ sym (ap (λ (w : Outcome). cond (has_evidence w) (f ∷ left) left) said.0)

-- the evidence of verdicts is that of the slow lines of which a line says redundant or aborted
pub leaves_left : (n : Netlist) (chains : List (List ℕ)) (fs : List Fault) (vs : List TransitionVerdict) (lines : List Line) → length vs ≡ length fs
    → AllZip (IsVerdictLine n chains) (zip fs vs) lines → faults_in (leaves_of fs vs) ≡ slow_left_of fs lines
leaves_left n chains [] vs lines size said = refl
leaves_left n chains (f ∷ fs) [] lines size said = absurd (omega (arith, size))
leaves_left n chains (f ∷ fs) (v ∷ vs) [] size said = elim said [ ]
leaves_left n chains (f ∷ fs) (v ∷ vs) (l ∷ lines) size said =
    kept_or_not n chains f v l.outcome l.pin said.0.outcome (leaves_of fs vs) (slow_left_of fs lines) (leaves_left n chains fs vs lines (omega (arith, size)) said.1)

-- ---- verdicts, lines and evidence, place by place

skip : (h g : Fault) (w : TransitionVerdict) (rest : List (Fault × Evidence)) (e : Evidence) → h ≢ g → IsFirstOf rest g e → IsFirstOf (leaf_at h w ++ rest) g e
skip h g (Detected place point) rest e other first = first
skip h g (Redundant d) rest e other first = inr (other, first)
skip h g (Aborted tree) rest e other first = inr (other, first)

-- no fault stands at two places
abbrev pub StandOnce : List Fault → Type 0
StandOnce fs = (i j : ℕ) (f : Fault) → slice_get fs i ≡ Some f → slice_get fs j ≡ Some f → i ≡ j

module _ (n : Netlist) (holds : Holds) (chains : List (List ℕ)) (limit : ℕ) (patterns : List Pattern) where
  -- the verdict at a place is true of the fault, the line says it, and its evidence is the first of the fault among all
  record IsAt (f : Fault) (line : Line) (certified : List (Fault × Evidence)) : Type 0 where
    verdict : TransitionVerdict
    is : IsVerdict n holds limit patterns f verdict
    said : IsVerdictLine n chains (f, verdict) line
    first : (e : Evidence) → leaf_at f verdict ≡ (f, e) ∷ [] → IsFirstOf certified f e

  first_at : (g f : Fault) (v : TransitionVerdict) (l line : Line) (rest : List (Fault × Evidence)) → Some g ≡ Some f → Some l ≡ Some line
      → IsVerdict n holds limit patterns g v → IsVerdictLine n chains (g, v) l → IsAt f line (leaf_at g v ++ rest)
  first_at g f v l line rest fault text is said =
      let same : g ≡ f = cc in
      let same_line : l ≡ line = cc in
      subst (λ (h : Fault). IsAt h line (leaf_at g v ++ rest)) same (subst (λ (m : Line). IsAt g m (leaf_at g v ++ rest)) same_line (record {
        verdict = v;
        is = is;
        said = said;
        first = λ e leaf. subst (λ (ls : List (Fault × Evidence)). IsFirstOf (ls ++ rest) g e) (sym leaf) (inl (refl, refl));
      }))

  later_at : (g : Fault) (v : TransitionVerdict) (f : Fault) (line : Line) (rest : List (Fault × Evidence)) → g ≢ f → IsAt f line rest → IsAt f line (leaf_at g v ++ rest)
  later_at g v f line rest other at = record {
    verdict = at.verdict;
    is = at.is;
    said = at.said;
    first = λ e leaf. skip g f v rest e other (at.first e leaf);
  }

  at_place : (fs : List Fault) → StandOnce fs → (vs : List TransitionVerdict) (lines : List Line) → AllZip (IsVerdict n holds limit patterns) fs vs
      → AllZip (IsVerdictLine n chains) (zip fs vs) lines → (k : ℕ) (f : Fault) (line : Line) → slice_get fs k ≡ Some f → slice_get lines k ≡ Some line
      → IsAt f line (leaves_of fs vs)
  at_place [] once vs lines are said k f line p q = cc
  at_place (g ∷ fs) once [] lines are said k f line p q = elim are [ ]
  at_place (g ∷ fs) once (v ∷ vs) [] are said k f line p q = elim said [ ]
  at_place (g ∷ fs) once (v ∷ vs) (l ∷ lines) are said zero f line p q = first_at g f v l line (leaves_of fs vs) p q are.0 said.0
  at_place (g ∷ fs) once (v ∷ vs) (l ∷ lines) are said (suc k) f line p q =
      let other : g ≢ f = (λ same. let place = once zero (suc k) f (ap (λ (h : Fault). Some h) same) p in omega arith) in
      later_at g v f line (leaves_of fs vs) other
      (at_place fs (λ i j h at also. let place = once (suc i) (suc j) h at also in omega arith) vs lines are.1 said.1 k f line p q)

  -- ---- lines

  -- a line that says a true verdict is true
  true_of : (certified : List (Fault × Evidence)) (f : Fault) (v : TransitionVerdict) → IsVerdict n holds limit patterns f v
      → ((e : Evidence) → leaf_at f v ≡ (f, e) ∷ [] → IsFirstOf certified f e) → (o : Outcome) (pin : List ℕ) → IsOutcomeOf n chains v o pin
      → IsTrueOfSlow (record { netlist = n; holds = holds; chains = chains; limit = limit; patterns = patterns; evidence = certified }) f o pin
  true_of certified f (Detected place point) is first o pin said =
      let t : SlowTest = record { netlist = n; holds = holds; chains = chains; limit = limit; patterns = patterns; evidence = certified } in
      subst (λ (w : Outcome). IsTrueOfSlow t f w pin) (sym said.1) (record { point = point; last = is; seen = said.2 })
  true_of certified f (Redundant e) is first o pin said =
      let t : SlowTest = record { netlist = n; holds = holds; chains = chains; limit = limit; patterns = patterns; evidence = certified } in
      subst (λ (w : Outcome). IsTrueOfSlow t f w pin) (sym said.0) (e, record { first = first e refl; shows = is.1; never = is.0 }, is.2)
  true_of certified f (Aborted tree) is first o pin said =
      let t : SlowTest = record { netlist = n; holds = holds; chains = chains; limit = limit; patterns = patterns; evidence = certified } in
      subst (λ (w : Outcome). IsTrueOfSlow t f w pin) (sym said.0) (tree, record { first = first (Tree tree) refl; shows = is.1; never = is.0 }, is.2, is.3)

blank : Fault
blank = record { line = Stem 0; value = false }

nothing_said : Line
nothing_said = record { fault = []; outcome = Unasked; pin = [] }

pub true_lines : (n : Netlist) (holds : Holds) (chains : List (List ℕ)) (limit : ℕ) (patterns : List Pattern) (verdicts : List TransitionVerdict) (lines : List Line)
    → StandOnce (universe_of n) → AllZip (IsVerdict n holds limit patterns) (universe_of n) verdicts → AllZip (IsVerdictLine n chains) (zip (universe_of n) verdicts) lines
    → length lines ≡ length (universe_of n)
    → AreTrueSlowLines (record { netlist = n; holds = holds; chains = chains; limit = limit; patterns = patterns; evidence = leaves_of (universe_of n) verdicts }) lines
true_lines n holds chains limit patterns verdicts lines once are all size = record {
  each = λ place lt.
      let f = get_or (universe_of n) place blank in
      let member = slice_get-get_or (universe_of n) place blank lt in
      let line = get_or lines place nothing_said in
      let said = slice_get-get_or lines place nothing_said (omega (arith, lt, size)) in
      let at = at_place n holds chains limit patterns (universe_of n) once verdicts lines are all place f line member said in
      record {
        fault = f;
        line = line;
        member = member;
        said = said;
        names_it = at.said.names_it;
        is_true = true_of n holds chains limit patterns (leaves_of (universe_of n) verdicts) f at.verdict at.is at.first line.outcome line.pin at.said.outcome;
      };
  no_more = size;
}
