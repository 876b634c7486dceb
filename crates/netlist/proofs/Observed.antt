-- The values at output pins and at cells' pins, one after the other.
use Rattle.std.proofs.Common.{◌≡◌, ℕ, ◌+◌, ◌<◌, ◌≤◌, take, List, [], ◌∷◌, ◌++◌, map, length, get_or, refl, sym, ◌∙◌, ap, subst, arith}
use Rattle.std.specs.List.{Contains, flat_map}
use Rattle.std.proofs.lemmas.Grind.{take_at_read, flat_map-append}
use Rattle.std.proofs.lemmas.List.{get_or_default, get_or-map, length-map, append-nil, map-append}
use Rattle.std.proofs.lemmas.List.Elements.{All-contains, Contains-get_or}
use Rattle.statement.specs.declared.lines.Line.TheVariants.{Pin, Out}
use Rattle.statement.specs.Netlists.{Definition, Netlist, is_cell, cells, signals}
use Rattle.netlist.specs.Conditions.{IsSound}
use Rattle.statement.specs.Values.{Rule, on_pins, pins_of}
use Rattle.netlist.proofs.Lists.{contains_filter}
use Rattle.netlist.proofs.Placed.{signal_below, same_definition, definition_below}
use Rattle.netlist.proofs.Settling.{pins_within, above_inputs}
use Rattle.netlist.proofs.WellFormed.{one_pin}

pub contained_at : {X : Type 0} (xs ys : List X) (k : ℕ) (d : X) → ys ≡ xs → k < length ys → d ≡ get_or ys k d → Contains xs d
contained_at xs ys k d e l is = subst (λ zs. Contains zs d) e (k, l, sym is)

module _ {V : Type 0} (rule : Rule V) (a : ℕ → V) where
  single_on : (z : ℕ) (pins : List ℕ) → length pins ≡ 1 → on_pins rule z 0 (map a pins) ≡ rule.line (Pin z 0) (a (get_or pins 0 0)) ∷ []
  single_on z [] l = absurd (omega (arith, l))
  single_on z (x ∷ []) l = refl
  single_on z (x ∷ y ∷ ys) l = absurd (omega (arith, l))

  -- one more cell's pin
  pub next_more : (ds : List Definition) (k z : ℕ) (d : Definition) (found : List V) (v w : V) (x : ℕ) (pins : List ℕ)
      → k < length ds → get_or ds k d ≡ d → z ≡ d.id → length pins ≡ 1 → pins ≡ d.pins → x ≡ get_or pins 0 x → v ≡ rule.line (Pin z 0) w → w ≡ a x
      → found ≡ flat_map (pins_of rule a) (take k ds) → found ++ v ∷ [] ≡ flat_map (pins_of rule a) (take (k + 1) ds)
  next_more ds k z d found v w x pins l is id one p first made value h =
      let pin : x ≡ get_or pins 0 0 = first ∙ get_or_default pins 0 x 0 (omega (arith, one)) in
      let here : v ∷ [] ≡ pins_of rule a d =
      ap (λ u. u ∷ []) (made ∙ ap (rule.line (Pin z 0)) (value ∙ ap a pin)) ∙ (sym (single_on z pins one) ∙ (ap (λ ps. on_pins rule z 0 (map a ps)) p ∙ ap (λ y. on_pins rule y 0 (map a d.pins)) id)) in
      ap (λ us. us ++ v ∷ []) h ∙ (ap (λ us. flat_map (pins_of rule a) (take k ds) ++ us) (here ∙ (sym (append-nil (pins_of rule a d)) ∙ ap (λ e. flat_map (pins_of rule a) (e ∷ [])) (sym is)))
      ∙ (sym (flat_map-append (pins_of rule a) (take k ds) (get_or ds k d ∷ [])) ∙ ap (flat_map (pins_of rule a)) (sym (take_at_read ds k d l).1)))

  -- one more output pin
  pub output_more : (outputs items : List ℕ) (k x : ℕ) (found found' : List V) (v w : V) → items ≡ outputs → k < length items → x ≡ get_or items k x
      → v ≡ rule.line (Out x) w → w ≡ a x → found' ≡ found ++ v ∷ []
      → found ≡ map (λ y. rule.line (Out y) (a y)) (take k outputs) → found' ≡ map (λ y. rule.line (Out y) (a y)) (take (k + 1) outputs)
  output_more outputs items k x found found' v w e l is made value pushed h =
      let f : ℕ → V = λ y. rule.line (Out y) (a y) in
      let size : k < length outputs = subst (λ zs. k < length zs) e l in
      let at_k : get_or outputs k x ≡ x = ap (λ zs. get_or zs k x) (sym e) ∙ sym is in
      let here : v ∷ [] ≡ map f (get_or outputs k x ∷ []) = ap (λ u. u ∷ []) (made ∙ ap (rule.line (Out x)) value) ∙ ap (λ y. f y ∷ []) (sym at_k) in
      pushed ∙ (ap (λ us. us ++ v ∷ []) h ∙ (ap (λ us. map f (take k outputs) ++ us) here
      ∙ (sym (map-append f (take k outputs) (get_or outputs k x ∷ [])) ∙ ap (map f) (sym (take_at_read outputs k x size).1))))

module _ (n : Netlist) (sound : IsSound n) where
  -- the cell at a place of the list of cells' signals
  pub cell_at : (ids : List ℕ) (k x : ℕ) → ids ≡ map (λ (d : Definition). d.id) (cells n) → k < length ids → x ≡ get_or ids k x
      → (k < length (cells n)) × ((d : Definition) → Contains (cells n) (get_or (cells n) k d) × ((get_or (cells n) k d).id ≡ x))
  cell_at ids k x e l is =
      let size : length ids ≡ length (cells n) = ap length e ∙ length-map (cells n) (λ (d : Definition). d.id) in
      let inside : k < length (cells n) = omega arith in (
        inside,
        λ d. (
          Contains-get_or (cells n) k d inside,
          sym (is ∙ (ap (λ zs. get_or zs k x) e ∙ get_or-map (λ (f : Definition). f.id) (cells n) k d x inside)),
        ),
      )

  pub the_cell : (ids : List ℕ) (k x : ℕ) (d : Definition) → ids ≡ map (λ (d : Definition). d.id) (cells n) → k < length ids → x ≡ get_or ids k x
      → Contains n.definitions d → d.id ≡ x → get_or (cells n) k d ≡ d
  the_cell ids k x d e l is c id =
      let w = (cell_at ids k x e l is).1 d in
      same_definition n sound.formed.numbered (get_or (cells n) k d) d (contains_filter is_cell n.definitions (get_or (cells n) k d) w.0).0 c (w.1 ∙ sym id)

  pub cell_within : (ids : List ℕ) (k x : ℕ) (d : Definition) → ids ≡ map (λ (d : Definition). d.id) (cells n) → k < length ids → x ≡ get_or ids k x
      → (length n.inputs ≤ x) × (x < length (signals n))
  cell_within ids k x d e l is =
      let w = (cell_at ids k x e l is).1 d in
      let c = (contains_filter is_cell n.definitions (get_or (cells n) k d) w.0).0 in
      let low = above_inputs n sound.formed.numbered (get_or (cells n) k d) c in
      let high = definition_below n sound.formed.numbered (get_or (cells n) k d) c in
      let id = w.1 in
      (omega arith, omega arith)

  pub the_pin : (ids : List ℕ) (k x : ℕ) (d : Definition) (pins : List ℕ) → ids ≡ map (λ (d : Definition). d.id) (cells n) → k < length ids → x ≡ get_or ids k x
      → Contains n.definitions d → d.id ≡ x → pins ≡ d.pins → length pins ≡ 1
  the_pin ids k x d pins e l is c id p =
      let w = (cell_at ids k x e l is).1 d in
      let cell : Contains (cells n) d = subst (λ f. Contains (cells n) f) (the_cell ids k x d e l is c id) w.0 in
      ap length p ∙ All-contains (λ (f : Definition). length f.pins ≡ 1) (cells n) d (one_pin n sound.closed) cell

  pub first_pin_below : (d : Definition) (pins : List ℕ) (x i m : ℕ) → Contains n.definitions d → pins ≡ d.pins → length pins ≡ 1 → x ≡ get_or pins 0 x → i ≡ x
      → m ≡ length (signals n) → i < m
  first_pin_below d pins x i m c e one is same size =
      let below : get_or pins 0 x < m = pins_within n sound.formed.numbered sound.closed d c pins m e size 0 x (omega arith) in
      omega arith

  pub output_below : (xs : List ℕ) (k x i m : ℕ) → xs ≡ n.outputs → k < length xs → x ≡ get_or xs k x → i ≡ x → m ≡ length (signals n) → i < m
  output_below xs k x i m e l is same size =
      let below = signal_below n sound.formed.numbered x (All-contains (Contains (signals n)) n.outputs x sound.closed.outputs (contained_at n.outputs xs k x e l is)) in
      omega arith
