-- One more fault's class merged.
use Rattle.std.proofs.Common.{◌≡◌, ℕ, ◌+◌, ◌<◌, ◌≤◌, ◌⊎◌, min, max, List, length, get_or, sym, ◌∙◌, ap, subst, Some, inl, inr, arith}
use Rattle.std.specs.List.{slice_get}
use Rattle.std.proofs.lemmas.Bool.{cases_eq, cases_lt}
use Rattle.std.proofs.lemmas.Option.{slice_get-get_or}
use Rattle.statement.specs.declared.lines.Fault.{Fault}
use Rattle.statement.specs.Netlists.{Netlist}
use Rattle.netlist.specs.Conditions.{IsSound}
use Rattle.statement.specs.Faults.{universe_of}
use Rattle.fault_universe.proofs.Distinct.{distinct_faults, one_place}
use Rattle.fault_universe.proofs.Elements.{slice_get_below}
use Rattle.fault_collapse.specs.Joined.{IsEquivalent, IsJoined, joined, symmetric, transitive}
use Rattle.fault_collapse.specs.inner.Merging.{AreMerged, IsForest, LeadsTo, merged}
use Rattle.fault_collapse.proofs.Forests.{merged_here, merged_one, merged_other, merged_there}

-- a fault at an earlier place
earlier : (faults : List Fault) (i k : ℕ) (f : Fault) → slice_get faults i ≡ Some f → k ≤ i → (g : Fault) × (slice_get faults k ≡ Some g)
earlier faults i k f e l =
    let within = slice_get_below faults i f e in
    (get_or faults k f, slice_get-get_or faults k f (omega arith))

more_cases : (a i : ℕ) → a < i + 1 → (a < i) ⊎ (a ≡ i)
more_cases a i l = elim (cases_lt a i) [ inl m ↦ inl m | inr m ↦ inr (omega arith) ]

module _ (n : Netlist) (sound : IsSound n) (old : List ℕ) (i : ℕ) (f : Fault) (at : slice_get (universe_of n) i ≡ Some f) (h : AreMerged n old i) where
  pub not_joined : ((g : Fault) → IsJoined n f g → ⊥) → AreMerged n old (i + 1)
  not_joined none = record {
    size = h.size;
    forest = h.forest;
    first = h.first;
    leads = h.leads;
    sound = h.sound;
    complete = λ a b p q l e d j. elim (more_cases a i l) [
      | inl less ↦ h.complete a b p q less e d j
      | inr same ↦
          let found : slice_get (universe_of n) i ≡ Some p = subst (λ k. slice_get (universe_of n) k ≡ Some p) same e in
          let is : p ≡ f = cc in
          absurd (none q (subst (λ (g : Fault). IsJoined n g q) is j))
    ];
  }

  module _ (g : Fault) (j : ℕ) (place : slice_get (universe_of n) j ≡ Some g) (joins : IsJoined n f g) (only : (k : Fault) → IsJoined n f k → k ≡ g) where
    first_of_one : (k : Fault) × (slice_get (universe_of n) (h.first i) ≡ Some k)
    first_of_one = earlier (universe_of n) i (h.first i) f at (h.leads.low i)

    first_of_other : (k : Fault) × (slice_get (universe_of n) (h.first j) ≡ Some k)
    first_of_other = earlier (universe_of n) j (h.first j) g place (h.leads.low j)

    -- the first members of the two classes
    firsts_equivalent : IsEquivalent n first_of_one.0 first_of_other.0
    firsts_equivalent =
        transitive first_of_one.0 f first_of_other.0 (h.sound i f first_of_one.0 at first_of_one.1)
        (transitive f g first_of_other.0 (joined f g joins) (symmetric first_of_other.0 g (h.sound j g first_of_other.0 place first_of_other.1)))

    sound_here : (k : ℕ) (p q : Fault) → slice_get (universe_of n) k ≡ Some p → h.first k ≡ max (h.first i) (h.first j)
        → slice_get (universe_of n) (min (h.first i) (h.first j)) ≡ Some q → IsEquivalent n q p
    sound_here k p q e is least = elim (cases_lt (h.first i) (h.first j)) [
      | inl less ↦
          let high : h.first k ≡ h.first j = omega arith in
          let lower : min (h.first i) (h.first j) ≡ h.first i = omega arith in
          let here : slice_get (universe_of n) (h.first i) ≡ Some q = subst (λ m. slice_get (universe_of n) m ≡ Some q) lower least in
          let one = first_of_one.1 in
          let same : first_of_one.0 ≡ q = cc in
          let there : slice_get (universe_of n) (h.first k) ≡ Some first_of_other.0 = ap (slice_get (universe_of n)) high ∙ first_of_other.1 in
          subst (λ (r : Fault). IsEquivalent n r p) same (transitive first_of_one.0 first_of_other.0 p firsts_equivalent (h.sound k p first_of_other.0 e there))
      | inr more ↦
          let high : h.first k ≡ h.first i = omega arith in
          let lower : min (h.first i) (h.first j) ≡ h.first j = omega arith in
          let here : slice_get (universe_of n) (h.first j) ≡ Some q = subst (λ m. slice_get (universe_of n) m ≡ Some q) lower least in
          let other = first_of_other.1 in
          let same : first_of_other.0 ≡ q = cc in
          let there : slice_get (universe_of n) (h.first k) ≡ Some first_of_one.0 = ap (slice_get (universe_of n)) high ∙ first_of_one.1 in
          subst (λ (r : Fault). IsEquivalent n r p) same
          (transitive first_of_other.0 first_of_one.0 p (symmetric first_of_one.0 first_of_other.0 firsts_equivalent) (h.sound k p first_of_one.0 e there))
    ]

    pub now_joined : (new : List ℕ) → length new ≡ length old → IsForest new
        → LeadsTo new (merged h.first (min (h.first i) (h.first j)) (max (h.first i) (h.first j))) → AreMerged n new (i + 1)
    now_joined new size forest leads =
        let between : min (h.first i) (h.first j) ≤ max (h.first i) (h.first j) = omega arith in
        record {
          size = size ∙ h.size;
          forest = forest;
          first = merged h.first (min (h.first i) (h.first j)) (max (h.first i) (h.first j));
          leads = leads;
          sound = λ k p q e d. elim (cases_eq (h.first k) (max (h.first i) (h.first j))) [
            | inl same ↦
                sound_here k p q e same (subst (λ m. slice_get (universe_of n) m ≡ Some q) (merged_here h.first (min (h.first i) (h.first j)) (max (h.first i) (h.first j)) between k same) d)
            | inr ne ↦
                h.sound k p q e (subst (λ m. slice_get (universe_of n) m ≡ Some q) (merged_there h.first (min (h.first i) (h.first j)) (max (h.first i) (h.first j)) between k ne) d)
          ];
          complete = λ a b p q l e d x. elim (more_cases a i l) [
            | inl less ↦ ap (λ m. merged (λ _. m) (min (h.first i) (h.first j)) (max (h.first i) (h.first j)) 0) (h.complete a b p q less e d x)
            | inr same ↦
                let found : slice_get (universe_of n) i ≡ Some p = subst (λ k. slice_get (universe_of n) k ≡ Some p) same e in
                let is : p ≡ f = cc in
                let made : q ≡ g = only q (subst (λ (r : Fault). IsJoined n r q) is x) in
                let spot : b ≡ j = one_place (universe_of n) b j g (distinct_faults n sound) (d ∙ ap (λ (r : Fault). Some r) made) place in
                ap (merged h.first (min (h.first i) (h.first j)) (max (h.first i) (h.first j))) same
                ∙ (merged_one old h.first h.leads i j ∙ sym (ap (merged h.first (min (h.first i) (h.first j)) (max (h.first i) (h.first j))) spot ∙ merged_other old h.first h.leads i j))
          ];
        }
