-- Lines of faults: their texts, one line more, and what they say of verdicts.
use Rattle.std.proofs.Common.{◌≡◌, ℕ, zero, suc, ◌+◌, ◌<◌, inl, inr, Bool, true, false, cond, List, [], ◌∷◌, ◌++◌, length, get_or, codes, decimal, Some, refl, sym, ◌∙◌, ap, subst, arith, append_assoc, length-append}
use Rattle.std.specs.List.{slice_get}
use Rattle.std.proofs.lemmas.Bool.{cases_order}
use Rattle.std.proofs.lemmas.List.Sums.{sum_by-cons}
use Rattle.std.proofs.lemmas.Option.{get_or_from_slice_get, slice_get-get_or, slice_get_within}
use Rattle.statement.specs.declared.lines.Line.{Line as LineOf}
use Rattle.statement.specs.declared.lines.Line.TheVariants.{Stem, Pin, Out}
use Rattle.statement.specs.declared.lines.Fault.{Fault}
use Rattle.statement.specs.Netlists.{Netlist, name_of, signals}
use Rattle.netlist.specs.Conditions.{IsSound}
use Rattle.netlist.specs.Lines.{IsLineOf as IsNetlistLine, signal_of}
use Rattle.netlist.proofs.WellFormed.{few_pins_of, names_counted}
use Rattle.statement.specs.Faults.{fault_text, line_text, value_text, universe_of}
use Rattle.report.specs.Reports.{IsFaultText, at_stem, at_pin, at_output}
use Rattle.statement.specs.Reports.{Line}
use Rattle.run_report.proofs.WordLemmas.{name_word}
use Rattle.list_core.specs.declared.verdicts.Verdict.{Verdict}
use Rattle.list_core.specs.declared.verdicts.Verdict.TheVariants.{Open, Detected, Redundant, Aborted}
use Rattle.list_core.specs.Verdicts.{is_open, one_if_class_detected, verdict_at}
use Rattle.statement.specs.declared.outcomes.Outcome.{Outcome}
use Rattle.statement.specs.declared.outcomes.Outcome.TheVariants as outcome
use Rattle.run_report.specs.Heads.{count_of, one_if_detected}
use Rattle.run_report.specs.Outcomes.{has_evidence}
use Rattle.run_files.specs.inner.Classes.{detected_in}
use Rattle.run_files.specs.inner.Outcomes.{AreLines, IsAdded, IsLineOf, IsOutcomeOf, verdict_said}
use Rattle.run_files.proofs.KnownLemmas.{blank}

-- the text of a netlist's fault is that of a fault in a report
line_said : (n : Netlist) → IsSound n → (l : LineOf) (v : Bool) → IsNetlistLine n l → signal_of l < length (signals n) → IsFaultText (line_text n l ++ value_text v)
line_said n sound (Stem x) v is lt =
    at_stem (line_text n (Stem x) ++ value_text v) (record {
      name = name_of n x;
      value = v;
      word = name_word n sound x (omega (arith, names_counted n sound, lt));
      text_is = append_assoc (codes "stem ") (name_of n x) (value_text v);
    })
line_said n sound (Out y) v is lt =
    at_output (line_text n (Out y) ++ value_text v) (record {
      name = name_of n y;
      value = v;
      word = name_word n sound y (omega (arith, names_counted n sound, lt));
      text_is = append_assoc (codes "out ") (name_of n y) (value_text v);
    })
line_said n sound (Pin z k) v is lt =
    let name = name_of n z in
    let few = few_pins_of n sound.closed is.0 is.1 in
    at_pin (line_text n (Pin z k) ++ value_text v) (record {
      name = name;
      place = k;
      value = v;
      word = name_word n sound z (omega (arith, names_counted n sound, lt));
      small = omega (arith, few, is.3);
      text_is = append_assoc (codes "pin ") (name ++ (codes " " ++ decimal k)) (value_text v)
          ∙ ap (λ t. codes "pin " ++ t) (append_assoc name (codes " " ++ decimal k) (value_text v) ∙ ap (λ t. name ++ t) (append_assoc (codes " ") (decimal k) (value_text v)));
    })

pub fault_said : (n : Netlist) → IsSound n → (f : Fault) → IsNetlistLine n f.line → signal_of f.line < length (signals n) → IsFaultText (fault_text n f)
fault_said n sound f is lt = line_said n sound f.line f.value is lt

-- ---- one line more

within_left : {X : Type 0} (xs ys : List X) (k : ℕ) (x : X) → slice_get xs k ≡ Some x → slice_get (xs ++ ys) k ≡ Some x
within_left [] ys k x e = cc
within_left (a ∷ xs) ys zero x e = e
within_left (a ∷ xs) ys (suc k) x e = within_left xs ys k x e

at_end : {X : Type 0} (xs : List X) (y : X) (k : ℕ) → length xs ≡ k → slice_get (xs ++ y ∷ []) k ≡ Some y
at_end [] y zero e = refl
at_end [] y (suc k) e = absurd (omega arith)
at_end (a ∷ xs) y zero e = absurd (omega arith)
at_end (a ∷ xs) y (suc k) e = at_end xs y k (omega arith)

named : (verdicts : List Verdict) (class : ℕ) (v : Verdict) → class < length verdicts → v ≡ get_or verdicts class v → v ≡ verdict_at verdicts class
named verdicts class v lt is = sym (get_or_from_slice_get verdicts class v Open (slice_get-get_or verdicts class v lt ∙ ap (λ w. Some w) (sym is)))

pub lines_more : (n : Netlist) (chains : List (List ℕ)) (numbers : List ℕ) (marks : List Bool) (verdicts : List Verdict) (k : ℕ) (f : Fault) (v : Verdict) (old new : List Line)
    → slice_get (universe_of n) k ≡ Some f → get_or numbers k 0 < length verdicts → v ≡ get_or verdicts (get_or numbers k 0) v
    → IsAdded n chains f (verdict_said (get_or marks k false) v) old new → AreLines n chains numbers marks verdicts k old → AreLines n chains numbers marks verdicts (k + 1) new
lines_more n chains numbers marks verdicts k f v old new member within of_class added are = record {
  size = ap length added.behind ∙ omega (arith, length-append old (added.line ∷ []), are.size);
  each = λ place g lt at. elim (cases_order place k) [
    | inl same ↦
        let here : slice_get (universe_of n) k ≡ Some g = subst (λ i. slice_get (universe_of n) i ≡ Some g) same at in
        let both : Some f ≡ Some g = sym member ∙ here in
        let is_g : f ≡ g = cc in (
          added.line,
          ap (λ ls. slice_get ls place) added.behind ∙ at_end old added.line place (are.size ∙ sym same),
          subst (λ h. IsLineOf n chains h (verdict_said (get_or marks place false) (verdict_at verdicts (get_or numbers place 0))) added.line) is_g
              (subst (λ i. IsLineOf n chains f (verdict_said (get_or marks i false) (verdict_at verdicts (get_or numbers i 0))) added.line) (sym same)
              (subst (λ w. IsLineOf n chains f (verdict_said (get_or marks k false) w) added.line) (named verdicts (get_or numbers k 0) v within of_class) added.is_line)),
        )
    | inr other ↦ elim other [
      | inl lower ↦
          let w = are.each place g lower at in
          (w.0, ap (λ ls. slice_get ls place) added.behind ∙ within_left old (added.line ∷ []) place w.0 w.1, w.2)
      | inr higher ↦ absurd (omega arith)
    ]
  ];
}

-- ---- the line at a place

pub record IsLineAt (n : Netlist) (chains : List (List ℕ)) (numbers : List ℕ) (marks : List Bool) (verdicts : List Verdict) (place : ℕ) (line : Line) : Type 0 where
  pub fault : Fault
  pub member : slice_get (universe_of n) place ≡ Some fault
  pub is_line : IsLineOf n chains fault (verdict_said (get_or marks place false) (verdict_at verdicts (get_or numbers place 0))) line

pub line_at : (n : Netlist) (chains : List (List ℕ)) (numbers : List ℕ) (marks : List Bool) (verdicts : List Verdict) (lines : List Line)
    → AreLines n chains numbers marks verdicts (length (universe_of n)) lines → (place : ℕ) (line : Line) → slice_get lines place ≡ Some line
    → IsLineAt n chains numbers marks verdicts place line
line_at n chains numbers marks verdicts lines all place line said =
    let lt : place < length (universe_of n) = (let within = slice_get_within lines place line said in omega (arith, all.size)) in
    let f = get_or (universe_of n) place blank in
    let member = slice_get-get_or (universe_of n) place blank lt in
    let w = all.each place f lt member in
    let both : Some w.0 ≡ Some line = sym w.1 ∙ said in
    let same : w.0 ≡ line = cc in
    record { fault = f; member = member; is_line = subst (IsLineOf n chains f (verdict_said (get_or marks place false) (verdict_at verdicts (get_or numbers place 0)))) same w.2 }

-- ---- what outcomes say of verdicts

pub outcome_detected : (n : Netlist) (chains : List (List ℕ)) (v : Verdict) (o : Outcome) (pin : List ℕ) → IsOutcomeOf n chains v o pin → one_if_detected o ≡ one_if_class_detected v
outcome_detected n chains Open o pin is = ap one_if_detected is.0
outcome_detected n chains (Detected place point) o pin is = ap one_if_detected is.1
outcome_detected n chains (Redundant e) o pin is = ap one_if_detected is.0
outcome_detected n chains (Aborted tree) o pin is = ap one_if_detected is.0

-- the verdict comes with evidence
abbrev pub is_evident : Verdict → Bool
is_evident Open = false
is_evident (Detected place point) = false
is_evident (Redundant e) = true
is_evident (Aborted tree) = true

pub outcome_evident : (n : Netlist) (chains : List (List ℕ)) (v : Verdict) (o : Outcome) (pin : List ℕ) → IsOutcomeOf n chains v o pin → has_evidence o ≡ is_evident v
outcome_evident n chains Open o pin is = ap has_evidence is.0
outcome_evident n chains (Detected place point) o pin is = ap has_evidence is.1
outcome_evident n chains (Redundant e) o pin is = ap has_evidence is.0
outcome_evident n chains (Aborted tree) o pin is = ap has_evidence is.0

-- a line says nothing only of a class that is Open
pub outcome_open : (n : Netlist) (chains : List (List ℕ)) (v : Verdict) (o : Outcome) (pin : List ℕ) → IsOutcomeOf n chains v o pin → o ≡ outcome.Unasked → is_open v ≡ true
outcome_open n chains Open o pin is nothing = refl
outcome_open n chains (Detected place point) o pin is nothing = let both = sym nothing ∙ is.1 in cc
outcome_open n chains (Redundant e) o pin is nothing = let both = sym nothing ∙ is.0 in cc
outcome_open n chains (Aborted tree) o pin is nothing = let both = sym nothing ∙ is.0 in cc

-- ---- how many lines say detected

said_detected : (m : Bool) (v : Verdict) → one_if_class_detected (verdict_said m v) ≡ cond m (one_if_class_detected v) 0
said_detected true v = refl
said_detected false v = refl

count_by_faults : (cs : List ℕ) (ms : List Bool) (vs : List Verdict) (ls : List Line) → length ms ≡ length cs → length ls ≡ length cs
    → ((i : ℕ) (l : Line) → slice_get ls i ≡ Some l → one_if_detected l.outcome ≡ one_if_class_detected (verdict_said (get_or ms i false) (verdict_at vs (get_or cs i 0))))
    → count_of one_if_detected ls ≡ detected_in cs ms vs
count_by_faults [] ms vs [] a b each = refl
count_by_faults [] ms vs (l ∷ ls) a b each = absurd (omega arith)
count_by_faults (c ∷ cs) [] vs ls a b each = absurd (omega arith)
count_by_faults (c ∷ cs) (m ∷ ms) vs [] a b each = absurd (omega arith)
count_by_faults (c ∷ cs) (m ∷ ms) vs (l ∷ ls) a b each =
    let rest = count_by_faults cs ms vs ls (omega arith) (omega arith) (λ i k e. each (suc i) k e) in
    let here : one_if_detected l.outcome ≡ cond m (one_if_class_detected (verdict_at vs c)) 0 = each zero l refl ∙ said_detected m (verdict_at vs c) in
    let both : count_of one_if_detected (l ∷ ls) ≡ one_if_detected l.outcome + count_of one_if_detected ls = sum_by-cons (λ (k : Line). one_if_detected k.outcome) l ls in
    omega arith

pub lines_detected : (n : Netlist) (chains : List (List ℕ)) (numbers : List ℕ) (marks : List Bool) (verdicts : List Verdict) (lines : List Line)
    → length numbers ≡ length (universe_of n) → length marks ≡ length (universe_of n) → AreLines n chains numbers marks verdicts (length (universe_of n)) lines
    → count_of one_if_detected lines ≡ detected_in numbers marks verdicts
lines_detected n chains numbers marks verdicts lines a b all =
    count_by_faults numbers marks verdicts lines (omega arith) (omega (arith, all.size)) (λ i l said.
    let at = line_at n chains numbers marks verdicts lines all i l said in
    outcome_detected n chains (verdict_said (get_or marks i false) (verdict_at verdicts (get_or numbers i 0))) l.outcome l.pin at.is_line.outcome)
