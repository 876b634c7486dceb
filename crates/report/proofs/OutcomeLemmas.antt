-- What came of a fault, and the whole line.
use Rattle.std.proofs.Common.{◌≡◌, ◌≢◌, ℕ, ◌+◌, ◌-◌, ◌^◌, ◌<◌, ◌≤◌, List, [], ◌∷◌, ◌++◌, length, take, get_or, refl, sym, ◌∙◌, ap, subst, codes, decimal, append_assoc, arith, length-append}
use Rattle.std.specs.List.{All}
use Rattle.std.proofs.Math.Seq.{take-append_seam}
use Rattle.std.proofs.lemmas.Fmt.{decimal_injective}
use Rattle.std.proofs.lemmas.List.{append_cancel_left}
use Rattle.plain_text.proofs.Parts.{byte_inside, same_parts}
use Rattle.report.specs.Reports.{IsFaultTextBy, IsLineBy, IsOutcome, IsBenchWord}
use Rattle.statement.specs.Reports.{Line, fault_line, outcome_text}
use Rattle.statement.specs.declared.outcomes.Outcome.{Outcome}
use Rattle.statement.specs.declared.outcomes.Outcome.TheVariants.{Aborted, Detected, Redundant, Unasked}
use Rattle.report.specs.declared.models.FaultModel.{FaultModel}
use Rattle.report.specs.inner.Faults.{FaultBegins}
use Rattle.report.specs.inner.Lines.{fault_words}
use Rattle.report.proofs.ByteLemmas.{Above, above_append, above_by_test, above_lacks, above_less, number_above, word_above}
use Rattle.report.proofs.FaultLemmas.{fault_above, fault_before, fault_begins, fault_once, same_fault}
use Rattle.report.proofs.LineLemmas.{IsLined, IsTold, line_told}

number_lacks : (k : ℕ) → k < 2 ^ 64 → All (λ b. b ≢ 32) (decimal k)
number_lacks k l = above_lacks 47 32 (decimal k) (omega arith) (number_above k l)

-- a number, a blank and the rest
pub no_blank : (text : List ℕ) → All (λ b. b ≢ 32) text → (k : ℕ) (rest : List ℕ) → k < 2 ^ 64 → text ≢ decimal k ++ 32 ∷ rest
no_blank text none k rest l e = byte_inside 32 (decimal k) rest (subst (All (λ b. b ≢ 32)) e none)

pub number_parts : (text front after : List ℕ) → All (λ b. b ≢ 32) front → text ≡ front ++ 32 ∷ after → (k : ℕ) (rest : List ℕ) → k < 2 ^ 64
    → text ≡ decimal k ++ 32 ∷ rest → (front ≡ decimal k) × (after ≡ rest)
number_parts text front after lacks is k rest l e = same_parts 32 front (decimal k) after rest lacks (number_lacks k l) (sym is ∙ e)

-- two numbers and a pin
module _ (text first after : List ℕ) (lacks : All (λ b. b ≢ 32) first) (is : text ≡ first ++ 32 ∷ after) where
  pub no_second : All (λ b. b ≢ 32) after → (p k : ℕ) (pin : List ℕ) → p < 2 ^ 64 → k < 2 ^ 64 → IsBenchWord pin → text ≢ decimal p ++ 32 ∷ (decimal k ++ 32 ∷ pin)
  no_second none p k pin i j v e = no_blank after none k pin j (number_parts text first after lacks is p (decimal k ++ 32 ∷ pin) i e).1

  module _ (second last : List ℕ) (lacking : All (λ b. b ≢ 32) second) (parts : after ≡ second ++ 32 ∷ last) where
    place_parts : (p k : ℕ) (pin : List ℕ) → p < 2 ^ 64 → k < 2 ^ 64 → text ≡ decimal p ++ 32 ∷ (decimal k ++ 32 ∷ pin) → (first ≡ decimal p) × (second ≡ decimal k) × (last ≡ pin)
    place_parts p k pin i j e =
        let front = number_parts text first after lacks is p (decimal k ++ 32 ∷ pin) i e in
        let others = number_parts after second last lacking parts k pin j front.1 in
        (front.0, others.0, others.1)

    pub other_pattern : ((k : ℕ) → k < 2 ^ 64 → first ≢ decimal k) → (p k : ℕ) (pin : List ℕ) → p < 2 ^ 64 → k < 2 ^ 64 → IsBenchWord pin → text ≢ decimal p ++ 32 ∷ (decimal k ++ 32 ∷ pin)
    other_pattern none p k pin i j v e = none p i (place_parts p k pin i j e).0

    pub other_cycle : ((k : ℕ) → k < 2 ^ 64 → second ≢ decimal k) → (p k : ℕ) (pin : List ℕ) → p < 2 ^ 64 → k < 2 ^ 64 → IsBenchWord pin → text ≢ decimal p ++ 32 ∷ (decimal k ++ 32 ∷ pin)
    other_cycle none p k pin i j v e = none k j (place_parts p k pin i j e).1

    pub other_pin : (IsBenchWord last → ⊥) → (p k : ℕ) (pin : List ℕ) → p < 2 ^ 64 → k < 2 ^ 64 → IsBenchWord pin → text ≢ decimal p ++ 32 ∷ (decimal k ++ 32 ∷ pin)
    other_pin none p k pin i j v e = none (subst IsBenchWord (sym (place_parts p k pin i j e).2) v)

-- the parts of what came of a fault
detected_same : (p q c d : ℕ) (x y : List ℕ) → p < 2 ^ 64 → q < 2 ^ 64 → c < 2 ^ 64 → d < 2 ^ 64
    → decimal p ++ 32 ∷ (decimal c ++ 32 ∷ x) ≡ decimal q ++ 32 ∷ (decimal d ++ 32 ∷ y) → (p ≡ q) × (c ≡ d) × (x ≡ y)
detected_same p q c d x y i j k l e =
    let first = same_parts 32 (decimal p) (decimal q) (decimal c ++ 32 ∷ x) (decimal d ++ 32 ∷ y) (number_lacks p i) (number_lacks q j) e in
    let second = same_parts 32 (decimal c) (decimal d) x y (number_lacks c k) (number_lacks d l) first.1 in
    (decimal_injective p q i j first.0, decimal_injective c d k l second.0, second.1)

pub same_outcome : (o u : Outcome) (x y : List ℕ) → IsOutcome o x → IsOutcome u y → outcome_text o x ≡ outcome_text u y → (o ≡ u) × (x ≡ y)
same_outcome (Detected p c) (Detected q d) x y v w e =
    let s = detected_same p q c d x y v.0 w.0 v.1 w.1
    (append_cancel_left (codes " detected ") (decimal p ++ 32 ∷ (decimal c ++ 32 ∷ x)) (decimal q ++ 32 ∷ (decimal d ++ 32 ∷ y)) e) in
    (ap (λ k. Detected k c) s.0 ∙ ap (λ k. Detected q k) s.1, s.2)
same_outcome (Detected p c) Redundant x y v w e = let differ : ◌≡◌ {A = ℕ} 100 114 = ap (λ xs. get_or xs 1 0) e in absurd (omega arith)
same_outcome (Detected p c) Aborted x y v w e = let differ : ◌≡◌ {A = ℕ} 100 97 = ap (λ xs. get_or xs 1 0) e in absurd (omega arith)
same_outcome (Detected p c) Unasked x y v w e = let differ : ◌≡◌ {A = ℕ} 100 117 = ap (λ xs. get_or xs 1 0) e in absurd (omega arith)
same_outcome Redundant (Detected q d) x y v w e = let differ : ◌≡◌ {A = ℕ} 114 100 = ap (λ xs. get_or xs 1 0) e in absurd (omega arith)
same_outcome Redundant Redundant x y v w e = (refl, v ∙ sym w)
same_outcome Redundant Aborted x y v w e = let differ : ◌≡◌ {A = ℕ} 114 97 = ap (λ xs. get_or xs 1 0) e in absurd (omega arith)
same_outcome Redundant Unasked x y v w e = let differ : ◌≡◌ {A = ℕ} 114 117 = ap (λ xs. get_or xs 1 0) e in absurd (omega arith)
same_outcome Aborted (Detected q d) x y v w e = let differ : ◌≡◌ {A = ℕ} 97 100 = ap (λ xs. get_or xs 1 0) e in absurd (omega arith)
same_outcome Aborted Redundant x y v w e = let differ : ◌≡◌ {A = ℕ} 97 114 = ap (λ xs. get_or xs 1 0) e in absurd (omega arith)
same_outcome Aborted Aborted x y v w e = (refl, v ∙ sym w)
same_outcome Aborted Unasked x y v w e = let differ : ◌≡◌ {A = ℕ} 97 117 = ap (λ xs. get_or xs 1 0) e in absurd (omega arith)
same_outcome Unasked (Detected q d) x y v w e = let differ : ◌≡◌ {A = ℕ} 117 100 = ap (λ xs. get_or xs 1 0) e in absurd (omega arith)
same_outcome Unasked Redundant x y v w e = let differ : ◌≡◌ {A = ℕ} 117 114 = ap (λ xs. get_or xs 1 0) e in absurd (omega arith)
same_outcome Unasked Aborted x y v w e = let differ : ◌≡◌ {A = ℕ} 117 97 = ap (λ xs. get_or xs 1 0) e in absurd (omega arith)
same_outcome Unasked Unasked x y v w e = (refl, v ∙ sym w)

outcome_above : (o : Outcome) (pin : List ℕ) → IsOutcome o pin → Above 31 (outcome_text o pin)
outcome_above (Detected p c) pin v =
    above_append 31 (codes " detected ") (decimal p ++ (codes " " ++ (decimal c ++ (codes " " ++ pin)))) (above_by_test 31 (codes " detected ") refl)
    (above_append 31 (decimal p) (codes " " ++ (decimal c ++ (codes " " ++ pin))) (above_less 47 31 (decimal p) (omega arith) (number_above p v.0))
    (above_append 31 (codes " ") (decimal c ++ (codes " " ++ pin)) (above_by_test 31 (codes " ") refl)
    (above_append 31 (decimal c) (codes " " ++ pin) (above_less 47 31 (decimal c) (omega arith) (number_above c v.1))
    (above_append 31 (codes " ") pin (above_by_test 31 (codes " ") refl) (above_less 32 31 pin (omega arith) (word_above pin v.2))))))
outcome_above Redundant pin v = above_by_test 31 (codes " redundant") refl
outcome_above Aborted pin v = above_by_test 31 (codes " aborted") refl
outcome_above Unasked pin v = above_by_test 31 (codes " unasked") refl

-- what came of a fault stands behind a blank
pub record IsBehind (o : Outcome) (pin : List ℕ) : Type 0 where
  pub text : List ℕ
  pub is : outcome_text o pin ≡ 32 ∷ text

pub outcome_behind : (o : Outcome) (pin : List ℕ) → IsBehind o pin
outcome_behind (Detected p c) pin = record { text = codes "detected " ++ (decimal p ++ 32 ∷ (decimal c ++ 32 ∷ pin)); is = refl }
outcome_behind Redundant pin = record { text = codes "redundant"; is = refl }
outcome_behind Aborted pin = record { text = codes "aborted"; is = refl }
outcome_behind Unasked pin = record { text = codes "unasked"; is = refl }

module _ (model : FaultModel) where
  -- the fault, a blank and the rest of the line
  pub fault_taken : (line rest : List ℕ) → FaultBegins model line rest → IsFaultTextBy model (take (length line - length rest - 1) line) × (line ≡ take (length line - length rest - 1) line ++ 32 ∷ rest)
  fault_taken line rest b =
      let f = fault_before model line rest b in
      let size : length line - length rest - 1 ≡ length f.fault = omega (arith, ap length f.line_is, length-append f.fault (32 ∷ rest)) in
      let taken : take (length line - length rest - 1) line ≡ f.fault =
      ap (λ k. take k line) size ∙ (ap (take (length f.fault)) f.line_is ∙ take-append_seam f.fault (32 ∷ rest)) in
      (subst (IsFaultTextBy model) (sym taken) f.is_fault, f.line_is ∙ ap (λ t. t ++ 32 ∷ rest) (sym taken))

  pub fault_room : (line rest : List ℕ) → FaultBegins model line rest → length rest + 1 ≤ length line
  fault_room line rest b =
      let f = fault_before model line rest b in
      omega (arith, ap length f.line_is, length-append f.fault (32 ∷ rest))

  words_begin : (line : List ℕ) (l : Line) → IsLineBy model l → line ≡ fault_words l → FaultBegins model line (outcome_behind l.outcome l.pin).text
  words_begin line l v e =
      fault_begins model l.fault line (outcome_behind l.outcome l.pin).text v.fault (e ∙ ap (λ t. l.fault ++ t) (outcome_behind l.outcome l.pin).is)

  pub no_line : (line : List ℕ) → ((rest : List ℕ) → FaultBegins model line rest → ⊥) → (l : Line) → IsLineBy model l → line ≢ fault_words l
  no_line line none l v e = none (outcome_behind l.outcome l.pin).text (words_begin line l v e)

  pub other_outcome : (line rest : List ℕ) → FaultBegins model line rest → ((o : Outcome) (pin : List ℕ) → IsOutcome o pin → 32 ∷ rest ≢ outcome_text o pin)
      → (l : Line) → IsLineBy model l → line ≢ fault_words l
  other_outcome line rest b none l v e =
      let same = fault_once model line (outcome_behind l.outcome l.pin).text rest (words_begin line l v e) b in
      none l.outcome l.pin v.outcome (sym (ap (λ t. 32 ∷ t) same) ∙ sym (outcome_behind l.outcome l.pin).is)

  pub line_found : (line rest pin fault : List ℕ) (o : Outcome) → FaultBegins model line rest → fault ≡ take (length line - length rest - 1) line → IsOutcome o pin
      → 32 ∷ rest ≡ outcome_text o pin → IsLineBy model (record { fault = fault; outcome = o; pin = pin }) × (line ≡ fault_words (record { fault = fault; outcome = o; pin = pin }))
  line_found line rest pin fault o b f v e =
      let t = fault_taken line rest b in
      (record { fault = subst (IsFaultTextBy model) (sym f) t.0; outcome = v }, t.1 ∙ (ap (λ u. u ++ 32 ∷ rest) (sym f) ∙ ap (λ u. fault ++ u) e))

  -- lines of faults
  same_words : (l m : Line) → IsLineBy model l → IsLineBy model m → fault_words l ≡ fault_words m → l ≡ m
  same_words l m v w e =
      let a = outcome_behind l.outcome l.pin in
      let b = outcome_behind m.outcome m.pin in
      let parts = same_fault model l.fault m.fault a.text b.text v.fault w.fault (sym (ap (λ t. l.fault ++ t) a.is) ∙ (e ∙ ap (λ t. m.fault ++ t) b.is)) in
      let others = same_outcome l.outcome m.outcome l.pin m.pin v.outcome w.outcome (a.is ∙ (ap (λ t. 32 ∷ t) parts.1 ∙ sym b.is)) in
      ap (λ (t : List ℕ). record { fault = t; outcome = l.outcome; pin = l.pin }) parts.0
      ∙ (ap (λ (o : Outcome). record { fault = m.fault; outcome = o; pin = l.pin }) others.0
      ∙ ap (λ (t : List ℕ). record { fault = m.fault; outcome = m.outcome; pin = t }) others.1)

  pub fault_lined : IsLined (IsLineBy model) fault_words fault_line
  fault_lined = record {
    end = λ l. sym (append_assoc l.fault (outcome_text l.outcome l.pin) (10 ∷ []));
    whole = λ l v. above_lacks 31 10 (fault_words l) (omega arith)
        (above_append 31 l.fault (outcome_text l.outcome l.pin) (fault_above model l.fault v.fault) (outcome_above l.outcome l.pin v.outcome));
  }

  pub fault_told : IsTold (IsLineBy model) fault_line
  fault_told = line_told (IsLineBy model) fault_words fault_line fault_lined same_words
