-- What the lines say of what was asked for.
use Rattle.std.proofs.Common.{◌≡◌, ℕ, ◌*◌, ◌<◌, ◌≤◌, inl, inr, Bool, true, false, true≢false, List, length, get_or, Option, Some, None, refl, sym, ◌∙◌, ap, arith}
use Rattle.std.specs.List.{slice_get}
use Rattle.std.proofs.lemmas.List.Elements.{All-get_or}
use Rattle.std.proofs.lemmas.Option.{get_or_from_slice_get, slice_get-get_or, slice_get_within}
use Rattle.statement.specs.declared.outcomes.Outcome.TheVariants.{Unasked}
use Rattle.statement.specs.Netlists.{Netlist}
use Rattle.netlist.specs.Conditions.{IsSound}
use Rattle.statement.specs.Faults.{universe_of}
use Rattle.statement.specs.Patterns.{Pattern}
use Rattle.statement.specs.Reports.{Line}
use Rattle.fault_collapse.specs.Classes.{AreClasses}
use Rattle.fault_collapse.specs.Laws.{DetectedAlike}
use Rattle.fault_collapse.specs.Numbers.{Classes}
use Rattle.list_core.specs.declared.verdicts.Verdict.{Verdict}
use Rattle.list_core.specs.Verdicts.{is_open, one_if_class_detected, verdict_at}
use Rattle.run_report.specs.Heads.{count_of, one_if_detected}
use Rattle.run_report.proofs.ClassLemmas.{equivalent, to_representative}
use Rattle.run_files.specs.Runs.{AreAsked, Asked, FirstKept, IsCovered, count_true}
use Rattle.run_files.specs.inner.Classes.{IsAskedClass, detected_in}
use Rattle.statement.specs.declared.outcomes.Outcome.{Outcome}
use Rattle.run_files.specs.inner.Outcomes.{AreLines, IsOutcomeOf, verdict_said}
use Rattle.run_files.specs.inner.Searches.{AreSearched, IsMet}
use Rattle.run_files.proofs.KnownLemmas.{blank}
use Rattle.run_files.proofs.LineLemmas.{line_at, lines_detected, outcome_detected, outcome_open}

enough_said : (percent : Option ℕ) (marks : List Bool) (lines : List Line) (detected : ℕ) → count_of one_if_detected lines ≡ detected → IsMet percent (count_true marks) detected
    → IsCovered percent marks lines
enough_said None marks lines detected is met = met
enough_said (Some p) marks lines detected is met = let most : p * count_true marks ≤ 100 * detected = met in omega arith

module _ (n : Netlist) (a : Asked) (chains : List (List ℕ)) (classes : Classes) (are : AreClasses n classes) (size : length a.faults ≡ length (universe_of n)) (patterns : List Pattern)
    (verdicts : List Verdict) (searched : AreSearched n a.holds a.limit a.refutes a.times a.percent classes a.faults a.first patterns verdicts) (lines : List Line)
    (all : AreLines n chains classes.numbers a.faults verdicts (length (universe_of n)) lines) where
  -- the class of a fault that is asked for
  class_asked : (place : ℕ) → slice_get a.faults place ≡ Some true → IsAskedClass classes.numbers a.faults (get_or classes.numbers place 0)
  class_asked place marked =
      let within = slice_get_within a.faults place true marked in
      record { place = place; of_class = slice_get-get_or classes.numbers place 0 (omega (arith, within, are.size, size)); marked = marked }

  unasked_by : ((class : ℕ) → IsAskedClass classes.numbers a.faults class → is_open (verdict_at verdicts class) ≡ false)
      → (place : ℕ) (line : Line) → slice_get lines place ≡ Some line → line.outcome ≡ Unasked → (m : Bool) → get_or a.faults place false ≡ m → slice_get a.faults place ≡ Some false
  unasked_by shut place line said nothing m mark =
      let lt : place < length a.faults = (let within = slice_get_within lines place line said in omega (arith, size, all.size)) in
      let at : slice_get a.faults place ≡ Some m = slice_get-get_or a.faults place false lt ∙ ap (λ (b : Bool). Some b) mark in
      by_mark m mark at
    where
      by_mark : (b : Bool) → get_or a.faults place false ≡ b → slice_get a.faults place ≡ Some b → slice_get a.faults place ≡ Some false
      by_mark false mark at = at
      by_mark true mark at =
          let l = line_at n chains classes.numbers a.faults verdicts lines all place line said in
          let v = verdict_at verdicts (get_or classes.numbers place 0) in
          let is_so : is_open (verdict_said (get_or a.faults place false) v) ≡ true =
          outcome_open n chains (verdict_said (get_or a.faults place false) v) line.outcome line.pin l.is_line.outcome nothing in
          let is : is_open v ≡ true = ap (λ (b : Bool). is_open (verdict_said b v)) (sym mark) ∙ is_so in
          absurd (true≢false (sym is ∙ shut (get_or classes.numbers place 0) (class_asked place at)))

  pub are_asked : AreAsked a lines
  are_asked = record {
    others = λ place line said unmarked.
        let l = line_at n chains classes.numbers a.faults verdicts lines all place line said in
        let mark : get_or a.faults place false ≡ false = get_or_from_slice_get a.faults place false false unmarked in
        unsaid (get_or a.faults place false) (verdict_at verdicts (get_or classes.numbers place 0)) mark line.outcome line.pin l.is_line.outcome;
    all = elim searched.done [
      | inl shut ↦ inr (λ place line said nothing. unasked_by shut place line said nothing (get_or a.faults place false) refl)
      | inr met ↦
          inl (enough_said a.percent a.faults lines (detected_in classes.numbers a.faults verdicts)
          (lines_detected n chains classes.numbers a.faults verdicts lines are.size size all) met)
    ];
  }
    where
      unsaid : (m : Bool) (v : Verdict) → m ≡ false → (o : Outcome) (pin : List ℕ) → IsOutcomeOf n chains (verdict_said m v) o pin → o ≡ Unasked
      unsaid false v e o pin is = is.0
      unsaid true v e o pin is = absurd (true≢false e)

  pub first_kept : IsSound n → DetectedAlike → FirstKept n a lines
  first_kept sound alike place f line member said marked detected =
      let class = get_or classes.numbers place 0 in
      let asked = class_asked place marked in
      let inside : place < length classes.numbers = (let lt = slice_get_within a.faults place true marked in omega (arith, are.size, size)) in
      let number = slice_get-get_or classes.numbers place 0 inside in
      let within : class < length classes.representatives = All-get_or (λ k. k < length classes.representatives) classes.numbers place 0 inside are.within in
      let g = get_or classes.representatives class blank in
      let represents = slice_get-get_or classes.representatives class blank within in
      let same = equivalent n classes are place class f g member number represents in
      let seen = to_representative n sound alike f g same a.first detected.0 detected.1 detected.2.here in
      let v = verdict_at verdicts class in
      let one = searched.first_kept class g represents asked (detected.0, detected.1, seen) in
      let l = line_at n chains classes.numbers a.faults verdicts lines all place line said in
      let mark : get_or a.faults place false ≡ true = get_or_from_slice_get a.faults place true false marked in
      outcome_detected n chains (verdict_said (get_or a.faults place false) v) line.outcome line.pin l.is_line.outcome
      ∙ (ap (λ (b : Bool). one_if_class_detected (verdict_said b v)) mark ∙ one)
