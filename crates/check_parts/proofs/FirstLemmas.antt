-- The first evidence of a fault: as a place, and as the certificate's words say it.
use Rattle.std.proofs.Common.{◌≡◌, ◌≢◌, ℕ, zero, suc, ◌+◌, ◌<◌, ◌∙◌, ◌⊎◌, inl, inr, List, [], ◌∷◌, length, get_or, set, replicate, Option, option_map, Some, None, refl, sym, ap, subst, arith}
use Rattle.std.specs.List.{All, Contains, slice_get}
use Rattle.std.proofs.lemmas.List.Elements.{All-get_or}
use Rattle.std.proofs.lemmas.Bool.{cases_order}
use Rattle.std.proofs.lemmas.Option.{none-some, slice_get-get_or, slice_get_within, slice_get-map}
use Rattle.std.proofs.lemmas.List.{length-set, length-replicate, get_or-replicate}
use Rattle.statement.specs.declared.lines.Fault.{Fault}
use Rattle.statement.specs.Netlists.{Netlist}
use Rattle.netlist.specs.Netlist.{signal_count}
use Rattle.netlist.specs.Conditions.{IsSound}
use Rattle.fault_universe.specs.Laws.{FaultsHaveLines, FaultsHaveSignals}
use Rattle.statement.specs.Faults.{universe_of}
use Rattle.evidence.specs.declared.kinds.Evidence.{Evidence}
use Rattle.run_report.specs.Outcomes.{IsFirstOf}
use Rattle.good_files.specs.GoodFiles.{faults_in}
use Rattle.check_parts.specs.Firsts.{AreFirst, IsFirst, IsNoted, IsOfFault, noted, stays, spot, start}
use Rattle.check_parts.proofs.RowLemmas.{spot_once, spot_within}

-- ---- lists

same_some : {X : Type 0} (x y : X) → Some x ≡ Some y → x ≡ y
same_some x y e = cc

-- after a write
pub get-set_same : {X : Type 0} (xs : List X) (i : ℕ) (x : X) → i < length xs → slice_get (set xs i x) i ≡ Some x
get-set_same [] i x lt = absurd (omega arith)
get-set_same (y ∷ ys) zero x lt = refl
get-set_same (y ∷ ys) (suc i) x lt = get-set_same ys i x (omega arith)

pub get-set_other : {X : Type 0} (xs : List X) (i j : ℕ) (x : X) → i ≢ j → slice_get (set xs i x) j ≡ slice_get xs j
get-set_other [] i j x other = refl
get-set_other (y ∷ ys) zero zero x other = absurd (other refl)
get-set_other (y ∷ ys) zero (suc j) x other = refl
get-set_other (y ∷ ys) (suc i) zero x other = refl
get-set_other (y ∷ ys) (suc i) (suc j) x other = get-set_other ys i j x (λ e. other (ap suc e))

-- ---- one line more

module _ (evidence : List (Fault × Evidence)) (k : ℕ) (g : Fault) (here : slice_get (faults_in evidence) k ≡ Some g) where
  -- the k-th is another fault's
  passed : (f : Fault) (o : Option ℕ) → g ≢ f → IsFirst evidence k f o → IsFirst evidence (k + 1) f o
  passed f None other is = λ j lt at. elim (cases_order j k) [
    | inl same ↦
        let now : Some g ≡ Some f = sym here ∙ (ap (slice_get (faults_in evidence)) (sym same) ∙ at) in
        other (same_some g f now)
    | inr o ↦ elim o [
      | inl lower ↦ is j lower at
      | inr higher ↦ absurd (omega arith)
    ]
  ]
  passed f (Some place) other is = record { within = let lt = is.within in omega arith; here = is.here; first = is.first }

  -- it had evidence before
  had : (place : ℕ) → IsFirst evidence k g (Some place) → IsFirst evidence (k + 1) g (Some place)
  had place is = record { within = let lt = is.within in omega arith; here = is.here; first = is.first }

  -- it is the fault's first
  is_first : IsFirst evidence k g None → IsFirst evidence (k + 1) g (Some k)
  is_first none = record { within = omega arith; here = here; first = λ j lt. none j lt }

module _ (n : Netlist) (sound : IsSound n) (lines : FaultsHaveLines) (named : FaultsHaveSignals) (evidence : List (Fault × Evidence)) where
  one_place : (places : List (Option ℕ)) (at : ℕ) (a b : Option ℕ) → slice_get places at ≡ Some a → slice_get places at ≡ Some b → a ≡ b
  one_place places at a b p q = same_some a b (sym p ∙ q)

  apart_numbers : (a b : ℕ) → (a < b) ⊎ (b < a) → a ≢ b
  apart_numbers a b (inl lower) e = omega arith
  apart_numbers a b (inr higher) e = omega arith

  apart_spots : (g f : Fault) → (spot n g < spot n f) ⊎ (spot n f < spot n g) → g ≢ f
  apart_spots g f o e = apart_numbers (spot n g) (spot n f) o (ap (spot n) e)

  pub noted_first : (k : ℕ) (g : Fault) → slice_get (faults_in evidence) k ≡ Some g → Contains (universe_of n) g → (old new : List (Option ℕ))
      → IsNoted old new (spot n g) k → AreFirst n evidence k old → AreFirst n evidence (k + 1) new
  noted_first k g here member old new (stays place was same) are = record {
    size = ap length same ∙ are.size;
    each = λ f c.
        let w = are.each f c in
        let at : slice_get new (spot n f) ≡ Some w.0 = ap (λ (ps : List (Option ℕ)). slice_get ps (spot n f)) same ∙ w.1 in
        elim (cases_order (spot n g) (spot n f)) [
          | inl spots ↦
              let is_g : g ≡ f = spot_once n sound lines named g f member c spots in
              let own = are.each g member in
              let some : own.0 ≡ Some place = one_place old (spot n g) own.0 (Some place) own.1 was in
              let first : IsFirst evidence (k + 1) g (Some place) = had evidence k g here place (subst (λ (o : Option ℕ). IsFirst evidence k g o) some own.2) in (
                Some place,
                ap (λ (ps : List (Option ℕ)). slice_get ps (spot n f)) same ∙ (ap (slice_get old) (sym spots) ∙ was),
                subst (λ (h : Fault). IsFirst evidence (k + 1) h (Some place)) is_g first,
              )
          | inr o ↦ (w.0, at, passed evidence k g here f w.0 (λ same_fault. apart_spots g f o same_fault) w.2)
        ];
  }
  noted_first k g here member old new (noted was is) are = record {
    size = ap length is ∙ (length-set {A = Option ℕ} old (spot n g) (Some k) ∙ are.size);
    each = λ f c.
        let w = are.each f c in
        let inside : spot n g < length old = slice_get_within old (spot n g) None was in
        elim (cases_order (spot n g) (spot n f)) [
          | inl spots ↦
              let is_g : g ≡ f = spot_once n sound lines named g f member c spots in
              let own = are.each g member in
              let none : own.0 ≡ None = one_place old (spot n g) own.0 None own.1 was in
              let first : IsFirst evidence (k + 1) g (Some k) = is_first evidence k g here (subst (λ (o : Option ℕ). IsFirst evidence k g o) none own.2) in (
                Some k,
                ap (λ (ps : List (Option ℕ)). slice_get ps (spot n f)) is ∙ (ap (slice_get (set old (spot n g) (Some k))) (sym spots) ∙ get-set_same old (spot n g) (Some k) inside),
                subst (λ (h : Fault). IsFirst evidence (k + 1) h (Some k)) is_g first,
              )
          | inr o ↦ (
            w.0,
            ap (λ (ps : List (Option ℕ)). slice_get ps (spot n f)) is ∙ (get-set_other old (spot n g) (spot n f) (Some k) (λ e. apart_numbers (spot n g) (spot n f) o e) ∙ w.1),
            passed evidence k g here f w.0 (λ same_fault. apart_spots g f o same_fault) w.2,
          )
        ];
  }

-- ---- before the first line

pub none_yet : (n : Netlist) (sound : IsSound n) → FaultsHaveLines → FaultsHaveSignals → (evidence : List (Fault × Evidence)) (places : List (Option ℕ))
    → places ≡ replicate (start n (signal_count n)) None → AreFirst n evidence 0 places
none_yet n sound lines named evidence places is = record {
  size = ap length is ∙ length-replicate (start n (signal_count n)) None;
  each = λ f c.
      let lt = spot_within n sound lines named f c in (
        None,
        ap (λ (ps : List (Option ℕ)). slice_get ps (spot n f)) is
            ∙ (slice_get-get_or (replicate (start n (signal_count n)) None) (spot n f) None (let size = length-replicate {A = Option ℕ} (start n (signal_count n)) None in omega arith)
            ∙ ap (λ (o : Option ℕ). Some o) (get_or-replicate (start n (signal_count n)) (spot n f) None None lt)),
        λ j low at. omega arith,
      );
}

-- ---- a place and the certificate's words

-- what stands at a fault's first place is its first evidence
pub first_at : (evidence : List (Fault × Evidence)) (f : Fault) (place : ℕ) (p : Fault × Evidence) → slice_get evidence place ≡ Some p → p.0 ≡ f
    → ((j : ℕ) → j < place → slice_get (faults_in evidence) j ≢ Some f) → IsFirstOf evidence f p.1
first_at [] f place p at is before = absurd (none-some p at)
first_at (q ∷ qs) f zero p at is before =
    let same : q ≡ p = same_some q p at in
    inl (ap (λ (r : Fault × Evidence). r.0) same ∙ is, ap (λ (r : Fault × Evidence). r.1) same)
first_at (q ∷ qs) f (suc place) p at is before =
    inr ((λ e. before 0 (omega arith) (ap (λ (g : Fault). Some g) e)), first_at qs f place p at is (λ j lt. before (suc j) (omega arith)))

-- there is one first
pub first_once : (evidence : List (Fault × Evidence)) (f : Fault) (t u : Evidence) → IsFirstOf evidence f t → IsFirstOf evidence f u → t ≡ u
first_once [] f t u p q = absurd p
first_once (p ∷ ps) f t u (inl a) (inl b) = sym a.1 ∙ b.1
first_once (p ∷ ps) f t u (inl a) (inr b) = absurd (b.0 a.0)
first_once (p ∷ ps) f t u (inr a) (inl b) = absurd (a.0 b.0)
first_once (p ∷ ps) f t u (inr a) (inr b) = first_once ps f t u a.1 b.1

-- a fault that has no place has no first
pub no_first : (evidence : List (Fault × Evidence)) (f : Fault) (t : Evidence) → ((j : ℕ) → j < length evidence → slice_get (faults_in evidence) j ≢ Some f) → IsFirstOf evidence f t → ⊥
no_first [] f t none first = first
no_first (p ∷ ps) f t none (inl a) = none 0 (omega arith) (ap (λ (g : Fault). Some g) a.0)
no_first (p ∷ ps) f t none (inr a) = no_first ps f t (λ j lt. none (suc j) (omega arith)) a.1

-- what is read of the places
pub first_got : (n : Netlist) (evidence : List (Fault × Evidence)) (places : List (Option ℕ)) (f : Fault) (at : ℕ) (o : Option ℕ) → AreFirst n evidence (length evidence) places
    → Contains (universe_of n) f → at ≡ spot n f → o ≡ get_or places at o → IsFirst evidence (length evidence) f o
first_got n evidence places f at o are c is got =
    let w = are.each f c in
    let here : slice_get places at ≡ Some w.0 = ap (slice_get places) is ∙ w.1 in
    let lt = slice_get_within places at w.0 here in
    let own : slice_get places at ≡ Some o = slice_get-get_or places at o lt ∙ ap (λ (q : Option ℕ). Some q) (sym got) in
    let same : w.0 ≡ o = same_some w.0 o (sym here ∙ own) in
    subst (λ (q : Option ℕ). IsFirst evidence (length evidence) f q) same w.2

-- what is read of a list stands there
pub read_at : {X : Type 0} (xs : List X) (i : ℕ) (x : X) → i < length xs → x ≡ get_or xs i x → slice_get xs i ≡ Some x
read_at {X} xs i x lt is = slice_get-get_or xs i x lt ∙ ap (λ (y : X). Some y) (sym is)

-- the fault of a line that is read
pub fault_at : (evidence : List (Fault × Evidence)) (k : ℕ) (p : Fault × Evidence) → k < length evidence → p ≡ get_or evidence k p → slice_get (faults_in evidence) k ≡ Some p.0
fault_at evidence k p lt is =
    slice_get-map (λ (q : Fault × Evidence). q.0) evidence k ∙ ap (option_map (λ (q : Fault × Evidence). q.0)) (read_at evidence k p lt is)

-- it is one of the netlist's
pub stands_in : (n : Netlist) (evidence : List (Fault × Evidence)) (k : ℕ) (p : Fault × Evidence) → k < length evidence → p ≡ get_or evidence k p → All (IsOfFault n) evidence
    → Contains (universe_of n) p.0
stands_in n evidence k p lt is each =
    subst (λ (q : Fault × Evidence). Contains (universe_of n) q.0) (sym is) (All-get_or (IsOfFault n) evidence k p lt each)
