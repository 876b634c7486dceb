-- Places of gates, and the gates that read a signal.
use Rattle.std.proofs.Common.{◌≡◌, ℕ, ◌+◌, ◌<◌, ◌||◌, Bool, true, false, cond, List, [], ◌∷◌, map, length, get_or, set, take, refl, sym, ◌∙◌, ap, subst, inl, inr, eqb}
use Rattle.std.specs.List.{Contains, list_any, flat_map, filter}
use Rattle.std.proofs.lemmas.Bool.{cases_eq, cases_Bool, both_ways, eqb-true, eq-eqb, ne_eqb, or_left, or_right, or_cases}
use Rattle.std.proofs.lemmas.List.{get_or-set_same, get_or-set_other}
use Rattle.std.proofs.lemmas.List.Folds.{list_any-append, list_any_more}
use Rattle.statement.specs.declared.lines.Line.{Line}
use Rattle.statement.specs.declared.lines.Line.TheVariants.{Pin, Out}
use Rattle.statement.specs.Netlists.{Definition, Netlist, gates, readers_of, pins_reading}
use Rattle.netlist.specs.Conditions.{IsNumbered}
use Rattle.netlist.specs.Orders.{IsOrder, ArePlaces}
use Rattle.netlist.proofs.Lists.{contains_cases, contains_nil, contains_head, contains_tail}
use Rattle.netlist.proofs.Placed.{same_definition, gate_defined, definition_below}
use Rattle.netlist.proofs.Orders.{gate_placed}
use Rattle.events.specs.Agendas.{marked}
use Rattle.events.specs.inner.Placing.{is_pin_at}

-- what stands at a place is a gate
pub gate_at_place : (n : Netlist) → IsNumbered n → (order places : List ℕ) → IsOrder n order → ArePlaces n order places → (d : Definition) → Contains n.definitions d → get_or places d.id 0 < length order
    → Contains (gates n) d
gate_at_place n numbered order places ordered h d c l =
    let w = gate_placed n numbered order ordered places h d.id (definition_below n numbered d c) l in
    let same : d ≡ w.0 = same_definition n numbered d w.0 c (gate_defined n numbered w.0 w.1) (sym w.2) in
    subst (λ (f : Definition). Contains (gates n) f) (sym same) w.1

module _ (places : List ℕ) (q x : ℕ) where
  test : Line → Bool
  test line = is_pin_at places q line

  pins_any : (z k : ℕ) (ys : List ℕ) → get_or places z 0 ≡ q → Contains ys x → list_any (is_pin_at places q) (pins_reading x z k ys) ≡ true
  pins_any z k [] e c = absurd (contains_nil x c)
  pins_any z k (y ∷ ys) e c = elim (cases_Bool (eqb y x)) [
    | inl same ↦ ap (λ b. list_any (is_pin_at places q) (cond b (Pin z k ∷ pins_reading x z (k + 1) ys) (pins_reading x z (k + 1) ys))) same
        ∙ ap (λ b. b || list_any (is_pin_at places q) (pins_reading x z (k + 1) ys)) (eq-eqb (get_or places z 0) q e)
    | inr differs ↦ ap (λ b. list_any (is_pin_at places q) (cond b (Pin z k ∷ pins_reading x z (k + 1) ys) (pins_reading x z (k + 1) ys))) differs
        ∙ pins_any z (k + 1) ys e (elim (contains_cases y x ys c) [
          | inl is ↦ absurd (both_ways (eqb y x) differs (eq-eqb y x is))
          | inr r ↦ r
        ])
  ]

  any_pins : (z k : ℕ) (ys : List ℕ) → list_any (is_pin_at places q) (pins_reading x z k ys) ≡ true → Contains ys x × (get_or places z 0 ≡ q)
  any_pins z k [] h = absurd (both_ways false refl h)
  any_pins z k (y ∷ ys) h = elim (cases_Bool (eqb y x)) [
    | inl same ↦
        let is : y ≡ x = eqb-true y x same in
        let f : (eqb (get_or places z 0) q || list_any (is_pin_at places q) (pins_reading x z (k + 1) ys)) ≡ true =
        sym (ap (λ b. list_any (is_pin_at places q) (cond b (Pin z k ∷ pins_reading x z (k + 1) ys) (pins_reading x z (k + 1) ys))) same) ∙ h in
        elim (or_cases (eqb (get_or places z 0) q) (list_any (is_pin_at places q) (pins_reading x z (k + 1) ys)) f) [
          | inl here ↦ (subst (λ v. Contains (v ∷ ys) x) (sym is) (contains_head x ys), eqb-true (get_or places z 0) q here)
          | inr later ↦ let m = any_pins z (k + 1) ys later in (contains_tail y x ys m.0, m.1)
        ]
    | inr differs ↦
        let m = any_pins z (k + 1) ys (sym (ap (λ b. list_any (is_pin_at places q) (cond b (Pin z k ∷ pins_reading x z (k + 1) ys) (pins_reading x z (k + 1) ys))) differs) ∙ h) in
        (contains_tail y x ys m.0, m.1)
  ]

  abbrev lines : Definition → List Line
  lines d = pins_reading x d.id 0 d.pins

  flat_any : (ds : List Definition) (d : Definition) → Contains ds d → get_or places d.id 0 ≡ q → Contains d.pins x → list_any (is_pin_at places q) (flat_map lines ds) ≡ true
  flat_any [] d c e r = absurd (contains_nil d c)
  flat_any (f ∷ ds) d c e r =
      list_any-append (is_pin_at places q) (lines f) (flat_map lines ds)
      ∙ elim (contains_cases f d ds c) [
        | inl same ↦ or_left (list_any (is_pin_at places q) (lines f)) (list_any (is_pin_at places q) (flat_map lines ds))
            (subst (λ (g : Definition). list_any (is_pin_at places q) (lines g) ≡ true) (sym same) (pins_any d.id 0 d.pins e r))
        | inr later ↦ or_right (list_any (is_pin_at places q) (lines f)) (list_any (is_pin_at places q) (flat_map lines ds)) (flat_any ds d later e r)
      ]

  any_flat : (ds : List Definition) → list_any (is_pin_at places q) (flat_map lines ds) ≡ true → (d : Definition) × Contains ds d × (get_or places d.id 0 ≡ q) × Contains d.pins x
  any_flat [] h = absurd (both_ways false refl h)
  any_flat (f ∷ ds) h =
      elim (or_cases (list_any (is_pin_at places q) (lines f)) (list_any (is_pin_at places q) (flat_map lines ds)) (sym (list_any-append (is_pin_at places q) (lines f) (flat_map lines ds)) ∙ h)) [
        | inl here ↦ let m = any_pins f.id 0 f.pins here in (f, contains_head f ds, m.1, m.0)
        | inr later ↦ let m = any_flat ds later in (m.0, contains_tail f m.0 ds m.1, m.2, m.3)
      ]

  no_outs : (ys : List ℕ) → list_any (is_pin_at places q) (map (λ (y : ℕ). Out y) ys) ≡ false
  no_outs [] = refl
  no_outs (y ∷ ys) = no_outs ys

  -- the gates and cells that read a signal are told by its readers, and no others
  pub read_called : (n : Netlist) (d : Definition) → Contains n.definitions d → get_or places d.id 0 ≡ q → Contains d.pins x → list_any (is_pin_at places q) (readers_of n x) ≡ true
  read_called n d c e r =
      let outs = map (λ (y : ℕ). Out y) (filter (λ y. eqb y x) n.outputs) in
      list_any-append (is_pin_at places q) (flat_map lines n.definitions) outs
      ∙ or_left (list_any (is_pin_at places q) (flat_map lines n.definitions)) (list_any (is_pin_at places q) outs) (flat_any n.definitions d c e r)

  pub called_reads : (n : Netlist) → list_any (is_pin_at places q) (readers_of n x) ≡ true → (d : Definition) × Contains n.definitions d × (get_or places d.id 0 ≡ q) × Contains d.pins x
  called_reads n h =
      let outs = map (λ (y : ℕ). Out y) (filter (λ y. eqb y x) n.outputs) in
      elim (or_cases (list_any (is_pin_at places q) (flat_map lines n.definitions)) (list_any (is_pin_at places q) outs)
      (sym (list_any-append (is_pin_at places q) (flat_map lines n.definitions) outs) ∙ h)) [
        | inl here ↦ any_flat n.definitions here
        | inr none ↦ absurd (both_ways (list_any (is_pin_at places q) outs) (no_outs (filter (λ y. eqb y x) n.outputs)) none)
      ]

no_more : (b : Bool) → b ≡ (b || false)
no_more true = refl
no_more false = refl

-- one more mark
pub marked_set : (marks : List Bool) (p q : ℕ) → p < length marks → marked (set marks p true) q ≡ (marked marks q || eqb p q)
marked_set marks p q l = elim (cases_eq p q) [
  | inl e ↦ ap (λ k. get_or (set marks p true) k false) (sym e) ∙ (get_or-set_same marks p true false l ∙ sym (or_right (marked marks q) (eqb p q) (eq-eqb p q e)))
  | inr ne ↦ get_or-set_other marks p q true false (λ e. ne (sym e)) ∙ (no_more (marked marks q) ∙ ap (λ b. marked marks q || b) (sym (ne_eqb p q ne)))
]

or_assoc : (a b c : Bool) → ((a || b) || c) ≡ (a || (b || c))
or_assoc true b c = refl
or_assoc false b c = refl
