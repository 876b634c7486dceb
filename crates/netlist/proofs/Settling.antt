-- One more gate is evaluated.
use Rattle.std.proofs.Common.{◌≡◌, ℕ, suc, zero, ◌+◌, ◌-◌, ◌<◌, ◌≤◌, ◌≢◌, Bool, true, false, cond, take, List, [], ◌∷◌, ◌++◌, map, length, get_or, set, refl, sym, ◌∙◌, ap, subst, inl, inr, arith}
use Rattle.std.specs.List.{All, AllZip, AllPairs, Contains, filter}
use Rattle.std.proofs.lemmas.Bool.{cases_eq}
use Rattle.std.proofs.lemmas.List.{length-set, get_or-set_same, get_or-set_other, get_or_default, get_or-map, get_or_append_left, length-map, length-append, map-append, length_push, length-take-le}
use Rattle.std.proofs.lemmas.Grind.{take_at_read}
use Rattle.std.proofs.lemmas.List.Elements.{All-contains, All-map, Contains-get_or}
use Rattle.statement.specs.Netlists.{Definition, Netlist, is_cell, cells, gates, signals}
use Rattle.netlist.specs.Netlist.{IsGateAt}
use Rattle.netlist.specs.Conditions.{IsClosed, IsNumbered}
use Rattle.statement.specs.declared.lines.Line.TheVariants.{Stem, Pin}
use Rattle.statement.specs.Values.{Rule, Settles, on_pins, pins_of}
use Rattle.netlist.specs.Settled.{at, AreRead}
use Rattle.netlist.specs.Settling.{IsDriven, AreSourcesDriven, IsEvaluated, AreEvaluated}
use Rattle.netlist.specs.inner.Settling.{SettlesUpTo, AllSettleUpTo}
use Rattle.netlist.specs.Orders.{IsOrder}
use Rattle.netlist.proofs.Lists.{contains_head, contains_tail, map_agree, contains_filter, contains_map, All-from_contains}
use Rattle.netlist.proofs.Placed.{same_definition, definition_below, signal_below, gate_defined, id_at, signals_length}
use Rattle.netlist.proofs.Orders.{definition_high, input_no_gate, cell_no_gate, place_in, same_place, other_input, other_cell, other_pin}

-- where the relation changes only at elements that are not in the list
pub zip_kept : {X Y : Type 0} (R Q : X → Y → Type 0) (xs : List X) (ys : List Y) → ((x : X) (y : Y) → Contains xs x → R x y → Q x y) → AllZip R xs ys → AllZip Q xs ys
zip_kept R Q [] [] h k = tt
zip_kept R Q [] (y ∷ ys) h k = absurd k
zip_kept R Q (x ∷ xs) [] h k = absurd k
zip_kept R Q (x ∷ xs) (y ∷ ys) h k = (h x y (contains_head x xs) k.0, zip_kept R Q xs ys (λ z w c. h z w (contains_tail x z xs c)) k.1)

module _ (n : Netlist) (numbered : IsNumbered n) (order : List ℕ) (ordered : IsOrder n order) where
  -- the definition of the gate at a place of the order
  pub gate_at : (k : ℕ) (e : Definition) → k < length order
      → (get_or order k 0 - length n.inputs < length n.definitions) × Contains (gates n) (get_or n.definitions (get_or order k 0 - length n.inputs) e)
      × ((get_or n.definitions (get_or order k 0 - length n.inputs) e).id ≡ get_or order k 0) × (length n.inputs ≤ get_or order k 0)
  gate_at k e l =
      let w = ordered.members k 0 l in
      let g = w.0 in
      let c = gate_defined n numbered g w.1 in
      let low : c.0 < length n.definitions = c.1 in
      let p : g.id ≡ length n.inputs + c.0 = sym (ap (λ (f : Definition). f.id) c.2) ∙ id_at n numbered c.0 g c.1 in
      let s : g.id ≡ get_or order k 0 = w.2 in
      let i : get_or order k 0 - length n.inputs ≡ c.0 = omega arith in
      let is : get_or n.definitions (get_or order k 0 - length n.inputs) e ≡ g = ap (λ j. get_or n.definitions j e) i ∙ (get_or_default n.definitions c.0 e g c.1 ∙ c.2) in
      (omega arith, subst (λ (f : Definition). Contains (gates n) f) (sym is) w.1, ap (λ (f : Definition). f.id) is ∙ w.2, omega arith)

  module _ {V : Type 0} (rule : Rule V) (inputs state values : List V) (m : ℕ) (d : V) (h : SettlesUpTo rule n order inputs state values m d) (inside : m < length order)
      (g : Definition) (gate : Contains (gates n) g) (here : g.id ≡ get_or order m 0) (v : V) (is : v ≡ rule.line (Stem g.id) (rule.gate g (pins_of rule (at values d) g))) where
    kept : (x : ℕ) → x ≢ get_or order m 0 → at (set values g.id v) d x ≡ at values d x
    kept x differs = get_or-set_other values g.id x v d (λ e. differs (e ∙ here))

    below : g.id < length values
    below = subst (λ k. g.id < k) (sym h.size) (definition_below n numbered g (gate_defined n numbered g gate))

    kept_pins : (f : Definition) (k : ℕ) → Contains (gates n) f → f.id ≡ get_or order k 0 → k ≤ m → map (at (set values g.id v) d) f.pins ≡ map (at values d) f.pins
    kept_pins f k c e l = map_agree (at (set values g.id v) d) (at values d) f.pins
        (All-from_contains (λ x. at (set values g.id v) d x ≡ at values d x) f.pins
        (λ x p. kept x (other_pin n numbered order ordered f k m x c e l inside p)))

    pub settle_more : SettlesUpTo rule n order inputs state (set values g.id v) (m + 1) d
    settle_more = record {
      size = length-set values g.id v ∙ h.size;
      inputs_driven = zip_kept (λ x w. at values d x ≡ rule.line (Stem x) w) (λ x w. at (set values g.id v) d x ≡ rule.line (Stem x) w) n.inputs inputs
          (λ x w c e. kept x (other_input n numbered order ordered x m c inside) ∙ e) h.inputs_driven;
      cells_driven = zip_kept (λ (c : Definition) w. at values d c.id ≡ rule.line (Stem c.id) w) (λ (c : Definition) w. at (set values g.id v) d c.id ≡ rule.line (Stem c.id) w) (cells n) state
          (λ f w c e. kept f.id (other_cell n numbered order ordered f m c inside) ∙ e) h.cells_driven;
      done = λ k l f c e. elim (cases_eq k m) [
        | inl last ↦
            let same : f ≡ g = same_definition n numbered f g (gate_defined n numbered f c) (gate_defined n numbered g gate) (e ∙ (ap (λ j. get_or order j 0) last ∙ sym here)) in
            subst (λ (q : Definition). at (set values g.id v) d q.id ≡ rule.line (Stem q.id) (rule.gate q (pins_of rule (at (set values g.id v) d) q))) (sym same)
            (get_or-set_same values g.id v d below ∙ (is ∙ ap (λ vs. rule.line (Stem g.id) (rule.gate g (on_pins rule g.id 0 vs))) (sym (kept_pins g m gate here (omega arith)))))
        | inr old ↦
            kept f.id (λ s. old (same_place n numbered order ordered k m (omega arith) inside (sym e ∙ s)))
            ∙ (h.done k (omega arith) f c e ∙ ap (λ vs. rule.line (Stem f.id) (rule.gate f (on_pins rule f.id 0 vs))) (sym (kept_pins f k c e (omega arith))))
      ];
    }

  pub settled : {V : Type 0} (rule : Rule V) (inputs state values : List V) (m : ℕ) (d : V) → SettlesUpTo rule n order inputs state values m d → length order ≤ m
      → Settles rule n inputs state (at values d)
  settled rule inputs state values m d h all = (
    h.inputs_driven,
    h.cells_driven,
    All-from_contains (λ (g : Definition). at values d g.id ≡ rule.line (Stem g.id) (rule.gate g (pins_of rule (at values d) g))) (gates n)
        (λ g c. let w = place_in n numbered order ordered g c in h.done w.0 (let l : w.0 < length order = w.1 in omega arith) g c (sym w.2)),
  )

-- what holds at first and goes on holding as each gate is evaluated holds at the end
pub by_steps : {V : Type 0} (rule : Rule V) (n : Netlist) (Holds : ℕ → List V → Type 0) (steps : List ℕ)
    → ((m x : ℕ) (a b : List V) → m < length steps → x ≡ get_or steps m x → IsEvaluated rule n x a b → Holds m a → Holds (m + 1) b)
    → (old new : List V) → AreEvaluated rule n steps old new → Holds 0 old → Holds (length steps) new
by_steps rule n Holds [] step old new made h = subst (Holds 0) (sym made) h
by_steps rule n Holds (x ∷ xs) step old new made h =
    by_steps rule n (λ m. Holds (suc m)) xs (λ m y a b l is one g.
    let on : suc m + 1 ≡ suc (m + 1) = omega arith in
    subst (λ k. Holds k b) on (step (suc m) y a b (omega arith) is one g)) made.0 new made.2 (step 0 x old made.0 (omega arith) refl made.1 h)

-- one gate more is evaluated
pub evaluate_more : {V : Type 0} (rule : Rule V) (n : Netlist) (steps : List ℕ) (x : ℕ) (old between new : List V) → AreEvaluated rule n steps old between → IsEvaluated rule n x between new
    → AreEvaluated rule n (steps ++ x ∷ []) old new
evaluate_more rule n [] x old between new made one = (new, subst (λ vs. IsEvaluated rule n x vs new) made one, refl)
evaluate_more rule n (y ∷ ys) x old between new made one = (made.0, made.1, evaluate_more rule n ys x made.0 between new made.2 one)

module _ (n : Netlist) (numbered : IsNumbered n) (order : List ℕ) (ordered : IsOrder n order) {V : Type 0} (rule : Rule V) (inputs state : List V) where
  one_if_settle : (m x : ℕ) (old new : List V) → m < length order → x ≡ get_or order m x → IsEvaluated rule n x old new → AllSettleUpTo rule n order inputs state old m
      → AllSettleUpTo rule n order inputs state new (m + 1)
  one_if_settle m x old new l is made h =
      let w = ordered.members m 0 l in
      let here : w.0.id ≡ x = w.2 ∙ (get_or_default order m 0 x l ∙ sym is) in
      record {
        size = made.size ∙ h.size;
        each = λ d.
            let v = rule.line (Stem w.0.id) (rule.gate w.0 (pins_of rule (at old d) w.0)) in
            subst (λ vs. SettlesUpTo rule n order inputs state vs (m + 1) d) (sym (made.set w.0 d w.1 here ∙ ap (λ y. set old y v) (sym here)))
            (settle_more n numbered order ordered rule inputs state old m d (h.each d) l w.0 w.1 w.2 v refl);
      }

  -- sources are driven and then the gates of an order evaluated
  pub all_settle : (old driven new : List V) → length old ≡ length (signals n) → AreSourcesDriven rule n inputs state old driven → AreEvaluated rule n order driven new
      → (d : V) → Settles rule n inputs state (at new d)
  all_settle old driven new size sources made d =
      let total = sources.size ∙ size in
      let all = by_steps rule n (λ m values. AllSettleUpTo rule n order inputs state values m) order one_if_settle driven new made (record {
        size = total;
        each = λ d. record {
          size = total;
          inputs_driven = sources.inputs_driven d;
          cells_driven = sources.cells_driven d;
          done = λ k l. absurd (omega (arith, l));
        };
      }) in
      settled n numbered order ordered rule inputs state new (length order) d (all.each d) (omega arith)

pub drive_more : {V : Type 0} (rule : Rule V) (ids : List ℕ) (driven old new : List V) (m i : ℕ) (v w : V) → IsDriven rule ids driven old new m
    → m < length ids → m < length driven → i < length new → i ≡ get_or ids m 0
    → ((j : ℕ) → j < m → get_or ids j 0 ≢ get_or ids m 0) → w ≡ get_or driven m w → v ≡ rule.line (Stem i) w → IsDriven rule ids driven old (set new i v) (m + 1)
drive_more rule ids driven old new m i v w h l l' below is distinct read made = record {
  size = length-set new i v ∙ h.size;
  here = λ k d k<. elim (cases_eq k m) [
    | inl last ↦
        let e : w ≡ get_or driven m d = read ∙ get_or_default driven m w d l' in
        ap (λ j. at (set new i v) d (get_or ids j 0)) last
        ∙ (ap (at (set new i v) d) (sym is)
        ∙ (get_or-set_same new i v d below ∙ (made ∙ (ap (rule.line (Stem i)) e
        ∙ (ap (λ x. rule.line (Stem x) (get_or driven m d)) is ∙ ap (λ j. rule.line (Stem (get_or ids j 0)) (at driven d j)) (sym last))))))
    | inr old' ↦
        get_or-set_other new i (get_or ids k 0) v d (λ e. distinct k (omega arith) (e ∙ is)) ∙ h.here k d (omega arith)
  ];
  others = λ x d none. get_or-set_other new i x v d (λ e. none m (omega arith) (e ∙ is)) ∙ h.others x d (λ k l. none k (omega arith));
}

pub zip_from : {X Y : Type 0} (R : X → Y → Type 0) (xs : List X) (ys : List Y) → length xs ≡ length ys
    → ((k : ℕ) (a : X) (b : Y) → k < length xs → R (get_or xs k a) (get_or ys k b)) → AllZip R xs ys
zip_from R [] [] e h = tt
zip_from R [] (y ∷ ys) e h = absurd (omega (arith, e))
zip_from R (x ∷ xs) [] e h = absurd (omega (arith, e))
zip_from R (x ∷ xs) (y ∷ ys) e h = (h 0 x y (omega arith), zip_from R xs ys (omega (arith, e)) (λ k a b l. h (suc k) a b (omega arith)))

-- numbers that rise from a bound on
rises : ℕ → List ℕ → Type 0
rises b [] = Unit {0}
rises b (x ∷ xs) = (b ≤ x) × rises (suc x) xs

rises_lower : (b c : ℕ) (xs : List ℕ) → b ≤ c → rises c xs → rises b xs
unfolding rises
rises_lower b c [] l h = tt
rises_lower b c (x ∷ xs) l h = (let m : c ≤ x = h.0 in omega arith, h.1)

rises_above : (b : ℕ) (xs : List ℕ) (k d : ℕ) → rises b xs → k < length xs → b ≤ get_or xs k d
unfolding rises
rises_above b [] k d h l = absurd (omega (arith, l))
rises_above b (x ∷ xs) zero d h l = h.0
rises_above b (x ∷ xs) (suc k) d h l = let m = rises_above (suc x) xs k d h.1 (omega arith) in let n : b ≤ x = h.0 in omega arith

rises_pairs : (b : ℕ) (xs : List ℕ) (i j d : ℕ) → rises b xs → i < j → j < length xs → get_or xs i d < get_or xs j d
unfolding rises
rises_pairs b [] i j d h l m = absurd (omega (arith, m))
rises_pairs b (x ∷ xs) zero zero d h l m = absurd (omega (arith, l))
rises_pairs b (x ∷ xs) zero (suc j) d h l m = rises_above (suc x) xs j d h.1 (omega arith)
rises_pairs b (x ∷ xs) (suc i) zero d h l m = absurd (omega (arith, l))
rises_pairs b (x ∷ xs) (suc i) (suc j) d h l m = rises_pairs (suc x) xs i j d h.1 (omega arith) (omega arith)

rises_filter : (t : Definition → Bool) (ds : List Definition) (b : ℕ) → ((k : ℕ) (d : Definition) → k < length ds → (get_or ds k d).id ≡ b + k)
    → rises b (map (λ (d : Definition). d.id) (filter t ds))
unfolding rises
rises_filter t [] b h = tt
rises_filter t (d ∷ ds) b h =
    let here : d.id ≡ b + 0 = h 0 d (omega arith) in
    let rest : rises (suc d.id) (map (λ (e : Definition). e.id) (filter t ds)) =
    rises_filter t ds (suc d.id) (λ k e l. let q : (get_or ds k e).id ≡ b + suc k = h (suc k) e (omega arith) in omega arith) in
    let step : (c : Bool) → rises b (map (λ (e : Definition). e.id) (cond c (d ∷ filter t ds) (filter t ds))) =
    elim [ true ↦ (omega arith, rest) | false ↦ rises_lower b (suc d.id) (map (λ (e : Definition). e.id) (filter t ds)) (omega arith) rest ] in
    step (t d)

module _ (n : Netlist) (numbered : IsNumbered n) where
  cells_rise : rises (length n.inputs) (map (λ (d : Definition). d.id) (cells n))
  cells_rise = rises_filter is_cell n.definitions (length n.inputs) (λ k d l. id_at n numbered k d l)

  pub cells_distinct : (ids : List ℕ) → ids ≡ map (λ (d : Definition). d.id) (cells n) → AllPairs (λ x y. x ≢ y) ids
  cells_distinct ids e i j d l m same =
      let p = rises_pairs (length n.inputs) ids i j d (subst (λ xs. rises (length n.inputs) xs) (sym e) cells_rise) l m in omega arith

  pub cells_below : (ids : List ℕ) (m : ℕ) → ids ≡ map (λ (d : Definition). d.id) (cells n) → m ≡ length (signals n) → All (λ x. x < m) ids
  cells_below ids m e s = subst (λ xs. All (λ x. x < m) xs) (sym e)
      (All-map (λ x. x < m) (λ (d : Definition). d.id) (cells n)
      (All-from_contains (λ (d : Definition). d.id < m) (cells n)
      (λ d c. subst (λ k. d.id < k) (sym s) (definition_below n numbered d (contains_filter is_cell n.definitions d c).0))))

  input_at : (k d : ℕ) → k < length n.inputs → get_or n.inputs k d ≡ k
  input_at k d l =
      let names : List ℕ = map (λ (e : Definition). e.id) n.definitions in
      get_or_default n.inputs k d 0 l ∙ (sym (get_or_append_left n.inputs names 0 k l) ∙ numbered k (omega (arith, length-append n.inputs names)))

  pub inputs_below : (m : ℕ) → m ≡ length (signals n) → All (λ x. x < m) n.inputs
  inputs_below m e k d l =
      let names : List ℕ = map (λ (f : Definition). f.id) n.definitions in
      let is = input_at k d l in
      omega (arith, length-append n.inputs names)

  pub inputs_distinct : AllPairs (λ x y. x ≢ y) n.inputs
  inputs_distinct i j d l m same =
      let a = input_at i d (omega arith) in
      let b = input_at j d m in
      omega arith

  pub above_inputs : (d : Definition) → Contains n.definitions d → length n.inputs ≤ d.id
  above_inputs d c = definition_high n numbered d c

  pub pins_within : (closed : IsClosed n) (d : Definition) → Contains n.definitions d → (pins : List ℕ) (m : ℕ) → pins ≡ d.pins → m ≡ length (signals n) → All (λ x. x < m) pins
  pins_within closed d member pins m e s k x l =
      let all : All (Contains (signals n)) d.pins = All-contains (λ (f : Definition). All (Contains (signals n)) f.pins) n.definitions d closed.pins member in
      let below = signal_below n numbered (get_or pins k x) (All-contains (Contains (signals n)) d.pins (get_or pins k x) all
      (subst (λ ps. Contains ps (get_or pins k x)) e (Contains-get_or pins k x l))) in
      omega arith

  pub evaluated : {V : Type 0} (rule : Rule V) (made g : Definition) (old seen read pins : List V) (ids : List ℕ) (i x z : ℕ) (u v d : V)
      → Contains n.definitions made → made.id ≡ x → Contains (gates n) g → g.id ≡ x → u ≡ rule.gate made read → v ≡ rule.line (Stem z) u → z ≡ x → read ≡ pins
      → pins ≡ on_pins rule z 0 (map (at seen d) ids) → seen ≡ old → ids ≡ made.pins → i ≡ x
      → set old i v ≡ set old x (rule.line (Stem g.id) (rule.gate g (pins_of rule (at old d) g)))
  evaluated {V} rule made g old seen read pins ids i x z u v d member is gate same made_by stem here p q s r e =
      let one : made ≡ g = same_definition n numbered made g member (gate_defined n numbered g gate) (is ∙ sym same) in
      let at_g : z ≡ g.id = here ∙ sym same in
      let all : read ≡ pins_of rule (at old d) g =
      p ∙ (q ∙ (ap (λ (o : List V). on_pins rule z 0 (map (at o d) ids)) s ∙ (ap (λ (ps : List ℕ). on_pins rule z 0 (map (at old d) ps)) (r ∙ ap (λ (f : Definition). f.pins) one)
      ∙ ap (λ y. on_pins rule y 0 (map (at old d) g.pins)) at_g))) in
      ap (λ j. set old j v) e ∙ ap (set old x) (stem ∙ (ap (λ w. rule.line (Stem z) w) (made_by ∙ (ap (rule.gate made) all ∙ ap (λ (f : Definition). rule.gate f (pins_of rule (at old d) g)) one))
      ∙ ap (λ y. rule.line (Stem y) (rule.gate g (pins_of rule (at old d) g))) at_g))

  pub driven : {V : Type 0} (rule : Rule V) (order ids cell_ids : List ℕ) (inputs state v0 v1 v2 : List V)
      → length v0 ≡ length n.inputs + length n.definitions → ids ≡ n.inputs → cell_ids ≡ map (λ (d : Definition). d.id) (cells n)
      → length inputs ≡ length n.inputs → length state ≡ length (cells n)
      → IsDriven rule ids inputs v0 v1 (length ids) → IsDriven rule cell_ids state v1 v2 (length cell_ids) → AllSettleUpTo rule n order inputs state v2 0
  driven rule order ids cell_ids inputs state v0 v1 v2 size is cs li ls a b =
      let names : List ℕ = map (λ (d : Definition). d.id) n.definitions in
      let total : length v2 ≡ length (signals n) =
      b.size ∙ (a.size ∙ (size ∙ sym (length-append n.inputs names ∙ ap (λ k. length n.inputs + k) (length-map n.definitions (λ (d : Definition). d.id))))) in
      let many : length cell_ids ≡ length (cells n) = ap length cs ∙ length-map (cells n) (λ (d : Definition). d.id) in
      let rise : rises (length n.inputs) cell_ids = subst (λ xs. rises (length n.inputs) xs) (sym cs) cells_rise in
      record {
        size = total;
        each = λ d. record {
          size = total;
          inputs_driven = zip_from _ n.inputs inputs (sym li) (λ k x v l.
              let l' : k < length ids = subst (λ (xs : List ℕ). k < length xs) (sym is) l in
              let here = a.here k d l' in
              let input : get_or ids k 0 ≡ get_or n.inputs k x = ap (λ (xs : List ℕ). get_or xs k 0) is ∙ get_or_default n.inputs k 0 x l in
              let number : get_or n.inputs k 0 ≡ k =
              sym (get_or_append_left n.inputs names 0 k l) ∙ numbered k (omega (arith, length-append n.inputs names)) in
              let other = b.others (get_or ids k 0) d (λ j m e.
              let low = rises_above (length n.inputs) cell_ids j 0 rise m in
              let z : get_or ids k 0 ≡ k = ap (λ (xs : List ℕ). get_or xs k 0) is ∙ number in omega arith) in
              ap (at v2 d) (sym input) ∙ (other ∙ (here ∙ (ap (λ y. rule.line (Stem y) (at inputs d k)) input
              ∙ ap (rule.line (Stem (get_or n.inputs k x))) (get_or_default inputs k d v (omega arith))))));
          cells_driven = zip_from _ (cells n) state (sym ls) (λ k c v l.
              let l' : k < length cell_ids = omega arith in
              let id : get_or cell_ids k 0 ≡ (get_or (cells n) k c).id = ap (λ (xs : List ℕ). get_or xs k 0) cs ∙ get_or-map (λ (e : Definition). e.id) (cells n) k c 0 l in
              ap (at v2 d) (sym id) ∙ (b.here k d l' ∙ (ap (λ y. rule.line (Stem y) (at state d k)) id
              ∙ ap (rule.line (Stem (get_or (cells n) k c).id)) (get_or_default state k d v (omega arith)))));
          done = λ k l. absurd (omega arith);
        };
      }

  -- what is driven onto inputs, and then onto cells
  pub sources_driven : {V : Type 0} (rule : Rule V) (ids cell_ids : List ℕ) (inputs state v0 v1 v2 : List V)
      → length v0 ≡ length (signals n) → ids ≡ n.inputs → cell_ids ≡ map (λ (d : Definition). d.id) (cells n) → length inputs ≡ length n.inputs → length state ≡ length (cells n)
      → IsDriven rule ids inputs v0 v1 (length ids) → IsDriven rule cell_ids state v1 v2 (length cell_ids) → AreSourcesDriven rule n inputs state v0 v2
  sources_driven rule ids cell_ids inputs state v0 v1 v2 size is cs li ls a b =
      let all = driven rule [] ids cell_ids inputs state v0 v1 v2 (size ∙ signals_length n) is cs li ls a b in
      record {
        size = b.size ∙ a.size;
        inputs_driven = λ d. (all.each d).inputs_driven;
        cells_driven = λ d. (all.each d).cells_driven;
        gates_stay = λ x d gate.
            b.others x d (λ k l e.
            let c = subst (λ (xs : List ℕ). Contains xs (get_or cell_ids k 0)) cs (Contains-get_or cell_ids k 0 l) in
            let m = contains_map (λ (d : Definition). d.id) (cells n) (get_or cell_ids k 0) c in
            cell_no_gate n numbered m.0 m.1 (subst (IsGateAt n) (e ∙ sym m.2) gate))
            ∙ a.others x d (λ k l e.
            let c : Contains n.inputs (get_or ids k 0) = subst (λ (xs : List ℕ). Contains xs (get_or ids k 0)) is (Contains-get_or ids k 0 l) in
            input_no_gate n numbered (get_or ids k 0) c (subst (IsGateAt n) e gate));
      }

-- one more pin has been read
on_pins-append : {V : Type 0} (rule : Rule V) (z k : ℕ) (us : List V) (v : V) → on_pins rule z k (us ++ v ∷ []) ≡ on_pins rule z k us ++ rule.line (Pin z (k + length us)) v ∷ []
on_pins-append rule z k [] v = ap (λ j. rule.line (Pin z j) v ∷ []) (omega arith)
on_pins-append rule z k (u ∷ us) v =
    ap (λ r. rule.line (Pin z k) u ∷ r) (on_pins-append rule z (k + 1) us v ∙ ap (λ j. on_pins rule z (k + 1) us ++ rule.line (Pin z j) v ∷ []) (omega arith))

pub read_more : {V : Type 0} (rule : Rule V) (z : ℕ) (values pins : List V) (ids : List ℕ) (k i : ℕ) (u v w : V)
    → AreRead rule z values (take k ids) pins → k < length ids → i ≡ get_or ids k 0 → i < length values → u ≡ get_or values i w → v ≡ rule.line (Pin z k) u
    → AreRead rule z values (take (k + 1) ids) (pins ++ v ∷ [])
read_more {V} rule z values pins ids k i u v w h l here below read made =
    let more : take (k + 1) ids ≡ take k ids ++ get_or ids k 0 ∷ [] = (take_at_read ids k 0 l).1 in
    let size : length (take k ids) ≡ k = length-take-le k ids (omega arith) in
    record {
      count = length_push pins v ∙ (ap (λ c. c + 1) h.count ∙ (sym (length_push (take k ids) (get_or ids k 0)) ∙ ap length (sym more)));
      each = λ d.
          let first : List V = map (at values d) (take k ids) in
          let many : length first ≡ k = length-map (take k ids) (at values d) ∙ size in
          let place : k ≡ 0 + length first = omega (arith, many) in
          let value : u ≡ at values d (get_or ids k 0) = read ∙ (get_or_default values i w d below ∙ ap (at values d) here) in
          ap (λ ps. ps ++ v ∷ []) (h.each d)
          ∙ (ap (λ y. on_pins rule z 0 first ++ y ∷ []) (made ∙ (ap (λ y. rule.line (Pin z k) y) value ∙ ap (λ j. rule.line (Pin z j) (at values d (get_or ids k 0))) place))
          ∙ (sym (on_pins-append rule z 0 first (at values d (get_or ids k 0)))
          ∙ (ap (on_pins rule z 0) (sym (map-append (at values d) (take k ids) (get_or ids k 0 ∷ []))) ∙ ap (λ ps. on_pins rule z 0 (map (at values d) ps)) (sym more))));
    }
