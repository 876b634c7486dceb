-- One more driver in the table, and the driver of a definition.
use Rattle.std.proofs.Common.{◌≡◌, ℕ, ◌+◌, ◌-◌, ◌<◌, ◌≤◌, List, [], ◌∷◌, ◌++◌, length, get_or, refl, sym, ◌∙◌, ap, subst, Some, inl, inr, arith}
use Rattle.std.specs.List.{Contains, slice_get}
use Rattle.std.proofs.lemmas.Bool.{cases_lt}
use Rattle.std.proofs.lemmas.List.{get_or_append_left, get_or_push, length_push}
use Rattle.std.proofs.lemmas.Option.{get_or_from_slice_get, slice_get-get_or, slice_get_read}
use Rattle.statement.specs.declared.lines.Line.TheVariants.{Stem}
use Rattle.statement.specs.Netlists.{Definition, Netlist, signals}
use Rattle.netlist.specs.Conditions.{IsNumbered}
use Rattle.netlist.proofs.Placed.{id_at, signals_length}
use Rattle.fault_universe.specs.Universe.{all_lines}
use Rattle.fault_universe.proofs.Elements.{slice_get_below}
use Rattle.fault_collapse.specs.declared.drivers.Driver.{Driver}
use Rattle.fault_collapse.specs.inner.Merging.{AreDrivers, IsDriver}
use Rattle.fault_collapse.proofs.Stems.{lines_before, next_stem}

-- what the first drivers are
abbrev pub AreFirst : Netlist → List Driver → Type 0
AreFirst n drivers = (k : ℕ) (d : Definition) (driver : Driver) → slice_get n.definitions k ≡ Some d → slice_get drivers k ≡ Some driver → IsDriver n d driver

pub definition_number : (n : Netlist) → IsNumbered n → (definitions : List Definition) → definitions ≡ n.definitions → (k : ℕ) (d : Definition) → k < length definitions → d ≡ get_or definitions k d
    → (d.id ≡ length n.inputs + k) × (length n.inputs + k < length (signals n))
definition_number n numbered definitions are k d l is =
    let size = signals_length n in
    let e = ap length are in
    (ap (λ (c : Definition). c.id) (is ∙ ap (λ ds. get_or ds k d) are) ∙ id_at n numbered k d (omega arith), omega arith)

-- the last element, or one before it
pushed_before : {X : Type 0} (xs : List X) (y x : X) (k : ℕ) → k < length xs → slice_get (xs ++ y ∷ []) k ≡ Some x → slice_get xs k ≡ Some x
pushed_before xs y x k l e =
    slice_get-get_or xs k x l ∙ ap (λ z. Some z) (sym (get_or_append_left xs (y ∷ []) x k l) ∙ get_or_from_slice_get (xs ++ y ∷ []) k x x e)

pushed_last : {X : Type 0} (xs : List X) (y x : X) (k : ℕ) → length xs ≡ k → slice_get (xs ++ y ∷ []) k ≡ Some x → y ≡ x
pushed_last xs y x k at e = sym (get_or_push xs y x k at) ∙ get_or_from_slice_get (xs ++ y ∷ []) k x x e

pub one_more_driver : (n : Netlist) → IsNumbered n → (definitions : List Definition) → definitions ≡ n.definitions → (k : ℕ) (d : Definition) → k < length definitions → d ≡ get_or definitions k d
    → (drivers new : List Driver) (driver : Driver) → length drivers ≡ k → driver.kind ≡ d.kind → driver.stem ≡ lines_before n (length n.inputs + k) → new ≡ drivers ++ driver ∷ []
    → AreFirst n drivers → AreFirst n new
one_more_driver n numbered definitions are k d l is drivers new driver size kind stem pushed first j e other p q =
    let there = subst (λ ds. slice_get ds j ≡ Some other) pushed q in
    elim (cases_lt j k) [
      | inl less ↦ first j e other p (pushed_before drivers driver other j (omega arith) there)
      | inr more ↦
          let below = slice_get_below (drivers ++ driver ∷ []) j other there in
          let at : j ≡ k = omega (arith, length_push drivers driver) in
          let number = definition_number n numbered definitions are k d l is in
          let same : d ≡ e = is ∙ (ap (λ ds. get_or ds k d) are ∙ get_or_from_slice_get n.definitions k e d (subst (λ i. slice_get n.definitions i ≡ Some e) at p)) in
          let last : driver ≡ other = pushed_last drivers driver other j (size ∙ sym at) there in
          let made : IsDriver n d driver = record {
            kind = kind;
            stem = ap (slice_get (all_lines n)) stem ∙ (next_stem n numbered (length n.inputs + k) number.1 ∙ ap (λ y. Some (Stem y)) (sym number.0));
          } in
          subst (λ (c : Definition). IsDriver n c other) same (subst (IsDriver n d) last made)
    ]

module _ (n : Netlist) (numbered : IsNumbered n) (drivers : List Driver) (are : AreDrivers n drivers) (d : Definition) (member : Contains n.definitions d) (z : ℕ) (id : d.id ≡ z) where
  place : (length n.inputs + member.0 ≡ z) × (member.0 < length drivers)
  place =
      let l : member.0 < length n.definitions = member.1 in
      let at = definition_number n numbered n.definitions refl member.0 d l (sym member.2) in
      let size = are.size in
      (sym at.0 ∙ id, omega arith)

  pub driver_above : length n.inputs ≤ z
  driver_above = let p = place.0 in omega arith

  pub driver_below : z - length n.inputs < length drivers
  driver_below = let p = place in omega (arith, p.0, p.1)

  pub driver_at : (k : ℕ) (blank : Driver) → k ≡ z - length n.inputs → IsDriver n d (get_or drivers k blank)
  driver_at k blank is =
      let p = place in
      let l : member.0 < length n.definitions = member.1 in
      let at : member.0 ≡ k = omega (arith, p.0) in
      subst (λ j. IsDriver n d (get_or drivers j blank)) at
      (are.each member.0 d (get_or drivers member.0 blank) (slice_get_read n.definitions (length n.definitions) member.0 d refl l (sym member.2)) (slice_get-get_or drivers member.0 blank p.1))
