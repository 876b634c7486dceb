-- Where the line of a pin enters.
use Rattle.std.proofs.Common.{◌≡◌, ℕ, zero, suc, ◌<◌, ◌≤◌, Bool, true, false, not, ◌&&◌, List, [], ◌∷◌, length, get_or, refl, sym, ◌∙◌, ap, subst, inr, eqb, eq-eqb, arith}
use Rattle.std.specs.List.{All, Contains}
use Rattle.std.proofs.lemmas.Bool.{both_ways, and_parts, and_from, eqb-true}
use Rattle.std.proofs.lemmas.List.Elements.{All-contains}
use Rattle.statement.specs.declared.lines.Line.{Line}
use Rattle.statement.specs.declared.lines.Line.TheVariants.{Pin}
use Rattle.netlist.specs.Conditions.{IsSound}
use Rattle.netlist.specs.Lines.{IsLineOf}
use Rattle.statement.specs.Netlists.{Definition, Netlist, is_flip_flop, is_cell, cells, gates, signals}
use Rattle.netlist.specs.Netlist.{is_gate}
use Rattle.netlist.proofs.Lists.{contains_filter, filter_contains}
use Rattle.netlist.proofs.Placed.{same_definition, definition_below}
use Rattle.netlist.proofs.Settling.{above_inputs}
use Rattle.netlist.proofs.WellFormed.{one_pin}
use Rattle.label_events.specs.Lines.{IsInner, IsPointLine}

is_false : (b : Bool) → (b ≡ true → ⊥) → b ≡ false
is_false true h = absurd (h refl)
is_false false h = refl

eqb_parts : (a b c d : ℕ) → (eqb a b && eqb c d) ≡ true → (a ≡ b) × (c ≡ d)
eqb_parts a b c d h = let p = and_parts (eqb a b) (eqb c d) h in (eqb-true a b p.0, eqb-true c d p.1)

single : (pins : List ℕ) (x : ℕ) → length pins ≡ 1 → x ≡ get_or pins 0 x → pins ≡ x ∷ []
single [] x l e = absurd (omega (arith, l))
single (y ∷ []) x l e = ap (λ z. z ∷ []) (sym e)
single (y ∷ z ∷ zs) x l e = absurd (omega (arith, l))

gate_no_cell : (n : Netlist) (d : Definition) → Contains (gates n) d → is_cell d ≡ true → ⊥
gate_no_cell n d g h = both_ways (is_cell d) (let e : not (is_cell d) ≡ true = (contains_filter is_gate n.definitions d g).1 in not_true (is_cell d) e) h
  where
    not_true : (b : Bool) → not b ≡ true → b ≡ false
    not_true true e = absurd (both_ways false refl e)
    not_true false e = refl

module _ (n : Netlist) (sound : IsSound n) (z k : ℕ) (line : Line) (is : line ≡ Pin z k) (valid : IsLineOf n line) where
  w : IsLineOf n (Pin z k)
  w = subst (IsLineOf n) is valid

  pub pin_defined : (m : Netlist) → m ≡ n → (length m.inputs ≤ z) × (z < length (signals m))
  unfolding w
  pin_defined m e =
      let low = above_inputs n sound.formed.numbered w.0 w.1 in
      let high = definition_below n sound.formed.numbered w.0 w.1 in
      let id : w.0.id ≡ z = w.2 in
      subst (λ m. (length m.inputs ≤ z) × (z < length (signals m))) (sym e) (omega arith, omega arith)

  module _ (d : Definition) (c : Contains n.definitions d) (id : d.id ≡ z) where
    pub pin_inner : is_flip_flop d.kind ≡ false → IsInner n line z
    pin_inner gate = subst (λ l. IsInner n l z) (sym is) (record {
      others = λ y ne. (refl, λ g cg e j. is_false (eqb z y && eqb k j) (λ h. ne (sym (eqb_parts z y k j h).0)));
      outputs = λ y. refl;
      pins = λ e ce. is_false (eqb z e.id && eqb k 0) (λ h.
          let m = contains_filter is_cell n.definitions e ce in
          let same : e ≡ d = same_definition n sound.formed.numbered e d m.0 c (sym (eqb_parts z e.id k 0 h).0 ∙ sym id) in
          both_ways (is_flip_flop d.kind) gate (subst (λ (x : Definition). is_flip_flop x.kind ≡ true) same m.1));
    })

    pub pin_read : (pins : List ℕ) (p : ℕ) → is_flip_flop d.kind ≡ true → pins ≡ d.pins → p ≡ get_or pins 0 p → IsPointLine n line p
    unfolding w
    pin_read pins p cell e first =
        let in_cells : Contains (cells n) d = filter_contains is_cell n.definitions d c cell in
        let one : length d.pins ≡ 1 = All-contains (λ (x : Definition). length x.pins ≡ 1) (cells n) d (one_pin n sound.closed) in_cells in
        let alone : d.pins ≡ p ∷ [] = single d.pins p one (first ∙ ap (λ xs. get_or xs 0 p) e) in
        let same : w.0 ≡ d = same_definition n sound.formed.numbered w.0 d w.1 c (w.2 ∙ sym id) in
        let place : k ≡ 0 = (let l : k < length d.pins = subst (λ (x : Definition). k < length x.pins) same w.3 in omega arith) in
        let cell_same : (x : Definition) → Contains n.definitions x → x.id ≡ z → x ≡ d = λ x cx ex. same_definition n sound.formed.numbered x d cx c (ex ∙ sym id) in
        subst (λ l. IsPointLine n l p) (sym is) (record {
          off = λ y. (
            refl,
            λ g cg eg j. is_false (eqb z y && eqb k j) (λ h.
                let there : g ≡ d = cell_same g (contains_filter is_gate n.definitions g cg).0 (eg ∙ sym (eqb_parts z y k j h).0) in
                gate_no_cell n g cg (subst (λ (x : Definition). is_cell x ≡ true) (sym there) cell)),
          );
          outputs = λ y h. absurd (both_ways false refl h);
          pins = λ x cx h.
              let there : x ≡ d = cell_same x (contains_filter is_cell n.definitions x cx).0 (sym (eqb_parts z x.id k 0 h).0) in
              subst (λ xs. All (λ y. y ≡ p) xs) (sym (ap (λ (v : Definition). v.pins) there ∙ alone)) (λ i q l. only i q l);
          point = inr (
            d,
            in_cells,
            subst (λ xs. Contains xs p) (sym alone) (0, omega arith, refl),
            and_from (eqb z d.id) (eqb k 0) (eq-eqb z d.id (sym id)) (eq-eqb k 0 place),
          );
        })
      where
        only : (i q : ℕ) → i < 1 → get_or (p ∷ []) i q ≡ p
        only zero q l = refl
        only (suc i) q l = absurd (omega arith)
