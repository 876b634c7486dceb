-- Which gates are called where a signal turns.
use Rattle.std.proofs.Common.{◌≡◌, ℕ, ◌+◌, ◌<◌, ◌≤◌, ◌||◌, Bool, true, false, List, [], ◌∷◌, length, get_or, set, take, refl, sym, ◌∙◌, ap, subst, inl, inr, eqb, arith}
use Rattle.std.specs.List.{Contains, list_any}
use Rattle.std.proofs.lemmas.Bool.{cases_lt, both_ways, eqb-true, or_left, or_right, or_cases}
use Rattle.std.proofs.lemmas.List.{get_or_past}
use Rattle.std.proofs.lemmas.List.Folds.{list_any_more}
use Rattle.statement.specs.declared.lines.Line.{Line}
use Rattle.statement.specs.declared.lines.Line.TheVariants.{Pin}
use Rattle.statement.specs.Netlists.{Definition, Netlist, gates, signals}
use Rattle.netlist.specs.Conditions.{IsNumbered}
use Rattle.netlist.specs.Orders.{IsOrder, ArePlaces}
use Rattle.statement.specs.Values.{Rule}
use Rattle.netlist.proofs.Orders.{gate_placed, place_of, place_there}
use Rattle.netlist.proofs.Settling.{above_inputs}
use Rattle.netlist.proofs.Placed.{same_definition, gate_defined, definition_below}
use Rattle.events.specs.Agendas.{marked}
use Rattle.events.specs.inner.Placing.{is_pin_at, Calls}
use Rattle.events.specs.inner.Running.{CallsTurned, MakesSame}

no_more : (b : Bool) → (b || false) ≡ true → b ≡ true
no_more true h = refl
no_more false h = absurd (both_ways false refl h)

module _ {V : Type 0} (rule : Rule V) (n : Netlist) (places : List ℕ) (old new : List V) where
  -- all are called
  pub all_called : (lines : List Line) (marks marks' : List Bool) → ((g : Definition) → Contains (gates n) g → get_or places g.id 0 < length marks) → Calls lines places marks marks'
      → CallsTurned rule n lines places old new marks marks'
  all_called lines marks marks' low c = record {
    size = c.size;
    kept = λ q m. elim (cases_lt q (length marks)) [
      | inl l ↦ c.each q l ∙ or_left (marked marks q) (list_any (is_pin_at places q) lines) m
      | inr past ↦ absurd (both_ways (marked marks q) (get_or_past marks q false past) m)
    ];
    only = λ q l m. sym (c.each q l) ∙ m;
    called = λ g is h. inl (c.each (get_or places g.id 0) (low g is) ∙ or_right (marked marks (get_or places g.id 0)) (list_any (is_pin_at places (get_or places g.id 0)) lines) h);
  }

  -- none is, since those that read make the same
  pub none_called : (lines : List Line) (marks : List Bool)
      → ((g : Definition) → Contains (gates n) g → list_any (is_pin_at places (get_or places g.id 0)) lines ≡ true → MakesSame rule g old new)
      → CallsTurned rule n lines places old new marks marks
  none_called lines marks same = record {
    size = refl;
    kept = λ q m. m;
    only = λ q l m. or_left (marked marks q) (list_any (is_pin_at places q) lines) m;
    called = λ g is h. inr (same g is h);
  }

  pub nothing_called : (marks : List Bool) → CallsTurned rule n [] places old new marks marks
  nothing_called marks = none_called [] marks (λ g is h. absurd (both_ways false refl h))

  -- of one line more
  pub more_called : (lines : List Line) (k : ℕ) (line : Line) (first mid last : List Bool) → k < length lines → line ≡ get_or lines k line
      → CallsTurned rule n (take k lines) places old new first mid → CallsTurned rule n (line ∷ []) places old new mid last
      → CallsTurned rule n (take (k + 1) lines) places old new first last
  more_called lines k line first mid last l is a b =
      let any : (q : ℕ) → list_any (is_pin_at places q) (take (k + 1) lines) ≡ (list_any (is_pin_at places q) (take k lines) || is_pin_at places q line) =
      λ q. list_any_more (is_pin_at places q) lines k line l ∙ ap (λ x. list_any (is_pin_at places q) (take k lines) || is_pin_at places q x) (sym is) in
      record {
        size = b.size ∙ a.size;
        kept = λ q m. b.kept q (a.kept q m);
        only = λ q low m.
            let lines' = take (k + 1) lines in
            elim (or_cases (marked mid q) (is_pin_at places q line || false) (b.only q (subst (λ s. q < s) (sym a.size) low) m)) [
              | inl was ↦ elim (or_cases (marked first q) (list_any (is_pin_at places q) (take k lines)) (a.only q low was)) [
                | inl begun ↦ or_left (marked first q) (list_any (is_pin_at places q) lines') begun
                | inr here ↦ or_right (marked first q) (list_any (is_pin_at places q) lines') (any q ∙ or_left (list_any (is_pin_at places q) (take k lines)) (is_pin_at places q line) here)
              ]
              | inr now ↦ or_right (marked first q) (list_any (is_pin_at places q) lines')
                  (any q ∙ or_right (list_any (is_pin_at places q) (take k lines)) (is_pin_at places q line) (no_more (is_pin_at places q line) now))
            ];
        called = λ g gate h.
            let q = get_or places g.id 0 in
            elim (or_cases (list_any (is_pin_at places q) (take k lines)) (is_pin_at places q line) (sym (any q) ∙ h)) [
              | inl before ↦ elim (a.called g gate before) [
                | inl m ↦ inl (b.kept q m)
                | inr same ↦ inr same
              ]
              | inr here ↦ b.called g gate (or_left (is_pin_at places q line) false here)
            ];
      }

  -- values under other names
  pub same_called : (values : List V) (lines : List Line) (marks marks' : List Bool) (x : ℕ) (v : V) → values ≡ old → new ≡ set old x v
      → CallsTurned rule n lines places values (set values x v) marks marks' → CallsTurned rule n lines places old new marks marks'
  same_called values lines marks marks' x v e is h =
      subst (λ (vs : List V). CallsTurned rule n lines places old vs marks marks') (sym is)
      (subst (λ (vs : List V). CallsTurned rule n lines places vs (set vs x v) marks marks') e h)

  -- a line that is no pin calls nothing
  pub no_pin : (line : Line) (marks : List Bool) → ((q : ℕ) → is_pin_at places q line ≡ false) → CallsTurned rule n (line ∷ []) places old new marks marks
  no_pin line marks none = none_called (line ∷ []) marks (λ g is h.
      let q = get_or places g.id 0 in absurd (both_ways (is_pin_at places q line) (none q) (no_more (is_pin_at places q line) h)))

  module _ (numbered : IsNumbered n) (order : List ℕ) (ordered : IsOrder n order) (placed : ArePlaces n order places) (z j : ℕ) (marks : List Bool) where
    -- what has a place is a gate, and comes after the inputs
    pub after_inputs : z < length (signals n) → get_or places z 0 < length order → length n.inputs ≤ z
    after_inputs within low =
        let w = gate_placed n numbered order ordered places placed z within low in
        let above = above_inputs n numbered w.0 (gate_defined n numbered w.0 w.1) in
        let e = w.2 in
        omega arith

    -- nor does the pin of a cell
    pub cell_pin : length order ≤ get_or places z 0 → CallsTurned rule n (Pin z j ∷ []) places old new marks marks
    cell_pin high = none_called (Pin z j ∷ []) marks (λ g is h.
        let e = eqb-true (get_or places z 0) (get_or places g.id 0) (no_more (eqb (get_or places z 0) (get_or places g.id 0)) h) in
        let l = (place_of n numbered order ordered places placed g is).0 in
        absurd (omega arith))

    -- nor that of a gate that makes the same
    pub hidden_pin : (f : Definition) → Contains n.definitions f → f.id ≡ z → MakesSame rule f old new → CallsTurned rule n (Pin z j ∷ []) places old new marks marks
    hidden_pin f defined here same = none_called (Pin z j ∷ []) marks (λ g is h.
        let e = eqb-true (get_or places z 0) (get_or places g.id 0) (no_more (eqb (get_or places z 0) (get_or places g.id 0)) h) in
        subst (λ (d : Definition). MakesSame rule d old new) (same_gate g is e) same)
      where
        same_gate : (g : Definition) → Contains (gates n) g → get_or places z 0 ≡ get_or places g.id 0 → f ≡ g
        same_gate g is e =
            let w = place_of n numbered order ordered places placed g is in
            let z_low = subst (λ x. x < length (signals n)) here (definition_below n numbered f defined) in
            let there = place_there n numbered order ordered places placed z z_low (subst (λ p. p < length order) (sym e) w.0) in
            same_definition n numbered f g defined (gate_defined n numbered g is) (here ∙ (sym there ∙ (ap (λ p. get_or order p 0) e ∙ w.1)))
