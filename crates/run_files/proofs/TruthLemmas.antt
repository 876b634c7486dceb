-- The lines and the evidence of verdicts are true.
use Rattle.std.proofs.Common.{◌≡◌, ◌≢◌, ℕ, zero, suc, ◌+◌, ◌<◌, inl, inr, Bool, true, false, true≢false, cond, List, [], ◌∷◌, ◌++◌, length, get_or, Some, refl, sym, ◌∙◌, ap, subst, arith}
use Rattle.std.specs.List.{slice_get}
use Rattle.std.proofs.lemmas.List.Elements.{All-get_or}
use Rattle.std.proofs.lemmas.Option.{get_or_from_slice_get, slice_get-get_or, slice_get_within}
use Rattle.statement.specs.declared.outcomes.Outcome.TheVariants.{Unasked}
use Rattle.statement.specs.declared.lines.Fault.{Fault}
use Rattle.statement.specs.Netlists.{Netlist}
use Rattle.netlist.specs.Conditions.{IsSound}
use Rattle.statement.specs.Patterns.{Holds, Pattern}
use Rattle.fault_universe.specs.Laws.{TextsDiffer}
use Rattle.statement.specs.Faults.{universe_of}
use Rattle.fault_collapse.specs.Classes.{AreClasses}
use Rattle.fault_collapse.specs.Joined.{IsEquivalent}
use Rattle.fault_collapse.specs.Laws.{DetectedAlike}
use Rattle.fault_collapse.specs.Numbers.{Classes}
use Rattle.evidence.specs.declared.kinds.Evidence.{Evidence}
use Rattle.evidence.specs.declared.kinds.Evidence.TheVariants.{Tree}
use Rattle.list_core.specs.declared.verdicts.Verdict.{Verdict}
use Rattle.list_core.specs.declared.verdicts.Verdict.TheVariants.{Open, Detected, Redundant, Aborted}
use Rattle.list_core.specs.Verdicts.{is_open, verdict_at}
use Rattle.statement.specs.declared.outcomes.Outcome.{Outcome}
use Rattle.statement.specs.Reports.{Line}
use Rattle.good_files.specs.GoodFiles.{faults_in}
use Rattle.run_report.specs.Outcomes.{Test, AreTrueLines, IsFirstOf, IsTrueOf, has_evidence, is_left, left_from, left_of}
use Rattle.run_report.proofs.ClassLemmas.{equivalent, last_alike, never_alike, representatives_differ}
use Rattle.run_report.proofs.LeftLemmas.{left_at, left_by}
use Rattle.run_files.specs.inner.Classes.{IsAskedClass}
use Rattle.run_files.specs.inner.Outcomes.{AreLines, IsOutcomeOf, verdict_said}
use Rattle.run_files.specs.inner.Verdicts.{AreVerdicts, IsVerdict, leaf_at, leaves_of}
use Rattle.run_files.proofs.KnownLemmas.{blank}
use Rattle.run_files.proofs.LineLemmas.{is_evident, line_at, outcome_evident}

-- ---- evidence

skip : (h g : Fault) (w : Verdict) (rest : List (Fault × Evidence)) (e : Evidence) → h ≢ g → IsFirstOf rest g e → IsFirstOf (leaf_at h w ++ rest) g e
skip h g Open rest e other first = first
skip h g (Detected place point) rest e other first = first
skip h g (Redundant d) rest e other first = inr (other, first)
skip h g (Aborted tree) rest e other first = inr (other, first)

nothing : (f : Fault) (e : Evidence) (ls : List (Fault × Evidence)) → length ls ≡ 0 → ls ≡ (f, e) ∷ [] → ⊥
nothing f e ls none one = let l = ap length one in omega arith

-- the evidence of a class stands beside its representative
pub leaves_first : (fs : List Fault) → ((i j : ℕ) (f : Fault) → slice_get fs i ≡ Some f → slice_get fs j ≡ Some f → i ≡ j)
    → (vs : List Verdict) (class : ℕ) (g : Fault) (e : Evidence) → slice_get fs class ≡ Some g → leaf_at g (verdict_at vs class) ≡ (g, e) ∷ []
    → IsFirstOf (leaves_of fs vs) g e
leaves_first [] apart vs class g e at leaf = cc
leaves_first (h ∷ fs) apart [] class g e at leaf = absurd (nothing g e (leaf_at g (verdict_at [] class)) refl leaf)
leaves_first (h ∷ fs) apart (w ∷ vs) zero g e at leaf =
    let same : h ≡ g = cc in
    let here : leaf_at h w ≡ (g, e) ∷ [] = ap (λ k. leaf_at k w) same ∙ leaf in
    subst (λ ls. IsFirstOf (ls ++ leaves_of fs vs) g e) (sym here) (inl (refl, refl))
leaves_first (h ∷ fs) apart (w ∷ vs) (suc class) g e at leaf =
    let other : h ≢ g = (λ same. let once = apart zero (suc class) g (ap (λ k. Some k) same) at in omega arith) in
    skip h g w (leaves_of fs vs) e other
    (leaves_first fs (λ i j f p q. let once = apart (suc i) (suc j) f p q in omega arith) vs class g e at leaf)

-- ---- whose evidence it is

nothing_said : Line
nothing_said = record { fault = []; outcome = Unasked; pin = [] }

kept_or_not : (f : Fault) (v : Verdict) (ls : List (Fault × Evidence)) (left : List Fault) (b : Bool) → b ≡ is_evident v → faults_in ls ≡ left
    → faults_in (leaf_at f v ++ ls) ≡ cond b (f ∷ left) left
kept_or_not f Open ls left b is rest = rest ∙ sym (ap (λ c. cond c (f ∷ left) left) is)
kept_or_not f (Detected place point) ls left b is rest = rest ∙ sym (ap (λ c. cond c (f ∷ left) left) is)
kept_or_not f (Redundant e) ls left b is rest = ap (λ fs. f ∷ fs) rest ∙ sym (ap (λ c. cond c (f ∷ left) left) is)
kept_or_not f (Aborted tree) ls left b is rest = ap (λ fs. f ∷ fs) rest ∙ sym (ap (λ c. cond c (f ∷ left) left) is)

leaves_from : (numbers : List ℕ) (lines : List Line) (k : ℕ) (fs : List Fault) (vs : List Verdict) → length vs ≡ length fs
    → ((i : ℕ) → i < length fs → is_left numbers lines (k + i) ≡ is_evident (verdict_at vs i)) → faults_in (leaves_of fs vs) ≡ left_from numbers lines k fs
leaves_from numbers lines k [] vs size each = refl
leaves_from numbers lines k (f ∷ fs) [] size each = absurd (omega arith)
leaves_from numbers lines k (f ∷ fs) (v ∷ vs) size each =
    let here : is_left numbers lines k ≡ is_evident v = (let e : k ≡ k + 0 = omega arith in ap (λ i. is_left numbers lines i) e ∙ each zero (omega arith)) in
    kept_or_not f v (leaves_of fs vs) (left_from numbers lines (suc k) fs) (is_left numbers lines k) here
    (leaves_from numbers lines (suc k) fs vs (omega arith)
    (λ i lt. let e : suc k + i ≡ k + suc i = omega arith in ap (λ j. is_left numbers lines j) e ∙ each (suc i) (omega arith)))

evident_shut : (v : Verdict) → is_evident v ≡ true → is_open v ≡ false
evident_shut Open e = absurd (true≢false (sym e))
evident_shut (Detected place point) e = refl
evident_shut (Redundant d) e = refl
evident_shut (Aborted tree) e = refl

said_evident : (m : Bool) (v : Verdict) → is_evident (verdict_said m v) ≡ true → is_evident v ≡ true
said_evident true v e = e
said_evident false v e = absurd (true≢false (sym e))

both_ways : (b c : Bool) → (b ≡ true → c ≡ true) → (c ≡ true → b ≡ true) → b ≡ c
both_ways true true to from = refl
both_ways false false to from = refl
both_ways true false to from = sym (to refl)
both_ways false true to from = from refl

module _ (n : Netlist) (chains : List (List ℕ)) (classes : Classes) (are : AreClasses n classes) (marks : List Bool) (verdicts : List Verdict) (lines : List Line)
    (asked : (class : ℕ) → is_open (verdict_at verdicts class) ≡ false → IsAskedClass classes.numbers marks class)
    (all : AreLines n chains classes.numbers marks verdicts (length (universe_of n)) lines) where
  said_at : (place : ℕ) (line : Line) → slice_get lines place ≡ Some line
      → has_evidence line.outcome ≡ is_evident (verdict_said (get_or marks place false) (verdict_at verdicts (get_or classes.numbers place 0)))
  said_at place line said =
      let at = line_at n chains classes.numbers marks verdicts lines all place line said in
      outcome_evident n chains (verdict_said (get_or marks place false) (verdict_at verdicts (get_or classes.numbers place 0))) line.outcome line.pin at.is_line.outcome

  from_verdict : (class : ℕ) → is_evident (verdict_at verdicts class) ≡ true → is_left classes.numbers lines class ≡ true
  from_verdict class e =
      let is = asked class (evident_shut (verdict_at verdicts class) e) in
      let within = slice_get_within classes.numbers is.place class is.of_class in
      let line = get_or lines is.place nothing_said in
      let said : slice_get lines is.place ≡ Some line = slice_get-get_or lines is.place nothing_said (omega (arith, within, are.size, all.size)) in
      let mark : get_or marks is.place false ≡ true = get_or_from_slice_get marks is.place true false is.marked in
      let number : get_or classes.numbers is.place 0 ≡ class = get_or_from_slice_get classes.numbers is.place class 0 is.of_class in
      left_by classes.numbers lines is.place class line is.of_class said
      (said_at is.place line said
      ∙ (ap (λ (m : Bool). is_evident (verdict_said m (verdict_at verdicts (get_or classes.numbers is.place 0)))) mark ∙ (ap (λ k. is_evident (verdict_at verdicts k)) number ∙ e)))

  from_line : (class : ℕ) → is_left classes.numbers lines class ≡ true → is_evident (verdict_at verdicts class) ≡ true
  from_line class e =
      let at = left_at classes.numbers lines class e in
      let number : get_or classes.numbers at.place 0 ≡ class = get_or_from_slice_get classes.numbers at.place class 0 at.of_class in
      let evident = sym (said_at at.place at.line at.said) ∙ at.evident in
      ap (λ k. is_evident (verdict_at verdicts k)) (sym number) ∙ said_evident (get_or marks at.place false) (verdict_at verdicts (get_or classes.numbers at.place 0)) evident

  -- the evidence of verdicts is that of the classes of which a line says redundant or aborted
  pub leaves_left : length verdicts ≡ length classes.representatives → faults_in (leaves_of classes.representatives verdicts) ≡ left_of classes lines
  leaves_left size = leaves_from classes.numbers lines 0 classes.representatives verdicts size
      (λ i lt. let e : 0 + i ≡ i = omega arith in
      ap (λ j. is_left classes.numbers lines j) e ∙ both_ways (is_left classes.numbers lines i) (is_evident (verdict_at verdicts i)) (from_line i) (from_verdict i))

-- ---- lines

true_of : (n : Netlist) (holds : Holds) (chains : List (List ℕ)) (limit : ℕ) (patterns : List Pattern) (evidence : List (Fault × Evidence))
    → IsSound n → DetectedAlike → (f g : Fault) → IsEquivalent n f g → (v : Verdict) → IsVerdict n holds limit patterns g v
    → ((e : Evidence) → leaf_at g v ≡ (g, e) ∷ [] → IsFirstOf evidence g e)
    → (o : Outcome) (pin : List ℕ) → IsOutcomeOf n chains v o pin
    → IsTrueOf (record { netlist = n; holds = holds; chains = chains; limit = limit; patterns = patterns; evidence = evidence }) f g o pin
true_of n holds chains limit patterns evidence sound alike f g same Open is first o pin said =
    let t : Test = record { netlist = n; holds = holds; chains = chains; limit = limit; patterns = patterns; evidence = evidence } in
    subst (λ (p : Outcome). IsTrueOf t f g p pin) (sym said.0) tt
true_of n holds chains limit patterns evidence sound alike f g same (Detected place point) is first o pin said =
    let t : Test = record { netlist = n; holds = holds; chains = chains; limit = limit; patterns = patterns; evidence = evidence } in
    subst (λ (p : Outcome). IsTrueOf t f g p pin) (sym said.1) (record { point = point; last = last_alike n sound alike f g same patterns place point is; seen = said.2 })
true_of n holds chains limit patterns evidence sound alike f g same (Redundant e) is first o pin said =
    let t : Test = record { netlist = n; holds = holds; chains = chains; limit = limit; patterns = patterns; evidence = evidence } in
    subst (λ (p : Outcome). IsTrueOf t f g p pin) (sym said.0) (e, record { first = first e refl; shows = is.1; never = never_alike n sound alike f g same patterns is.0 }, is.2)
true_of n holds chains limit patterns evidence sound alike f g same (Aborted tree) is first o pin said =
    let t : Test = record { netlist = n; holds = holds; chains = chains; limit = limit; patterns = patterns; evidence = evidence } in
    subst (λ (p : Outcome). IsTrueOf t f g p pin) (sym said.0) (tree, record { first = first (Tree tree) refl; shows = is.1; never = never_alike n sound alike f g same patterns is.0 }, is.2, is.3)

-- what is said of a fault of the class holds of it too
said_verdict : (n : Netlist) (holds : Holds) (limit : ℕ) (patterns : List Pattern) (f : Fault) (m : Bool) (v : Verdict) → IsVerdict n holds limit patterns f v
    → IsVerdict n holds limit patterns f (verdict_said m v)
said_verdict n holds limit patterns f true v is = is
said_verdict n holds limit patterns f false v is = tt

said_leaf : (f : Fault) (m : Bool) (v : Verdict) (e : Evidence) → leaf_at f (verdict_said m v) ≡ (f, e) ∷ [] → leaf_at f v ≡ (f, e) ∷ []
said_leaf f true v e leaf = leaf
said_leaf f false v e leaf = absurd (nothing f e [] refl leaf)

pub true_lines : DetectedAlike → TextsDiffer → (n : Netlist) → IsSound n → (holds : Holds) (chains : List (List ℕ)) (classes : Classes) → AreClasses n classes
    → (limit : ℕ) (marks : List Bool) (patterns : List Pattern) (verdicts : List Verdict) → AreVerdicts n holds classes.representatives limit patterns verdicts
    → (lines : List Line) → AreLines n chains classes.numbers marks verdicts (length (universe_of n)) lines
    → AreTrueLines (record { netlist = n; holds = holds; chains = chains; limit = limit; patterns = patterns; evidence = leaves_of classes.representatives verdicts }) classes lines
true_lines alike texts n sound holds chains classes are limit marks patterns verdicts found lines all = record {
  each = λ place lt.
      let f = get_or (universe_of n) place blank in
      let member = slice_get-get_or (universe_of n) place blank lt in
      let class = get_or classes.numbers place 0 in
      let inside : place < length classes.numbers = omega (arith, lt, are.size) in
      let number = slice_get-get_or classes.numbers place 0 inside in
      let within : class < length classes.representatives = All-get_or (λ k. k < length classes.representatives) classes.numbers place 0 inside are.within in
      let g = get_or classes.representatives class blank in
      let represents = slice_get-get_or classes.representatives class blank within in
      let m = get_or marks place false in
      let v = verdict_at verdicts class in
      let l = all.each place f lt member in
      record {
        fault = f;
        class = class;
        representative = g;
        line = l.0;
        member = member;
        of_class = number;
        represents = represents;
        said = l.1;
        names_it = l.2.names_it;
        is_true = true_of n holds chains limit patterns (leaves_of classes.representatives verdicts) sound alike f g (equivalent n classes are place class f g member number represents)
            (verdict_said m v) (said_verdict n holds limit patterns g m v (found.each class g represents))
            (λ e leaf. leaves_first classes.representatives (representatives_differ texts n sound classes are) verdicts class g e represents (said_leaf g m v e leaf))
            l.0.outcome l.0.pin l.2.outcome;
      };
  no_more = all.size;
}
