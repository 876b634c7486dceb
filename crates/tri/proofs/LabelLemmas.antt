-- Labels are above the bits of each pattern that agrees with the decisions.
use Rattle.std.proofs.Common.{◌≡◌, ℕ, zero, suc, ◌+◌, ◌<◌, ◌++◌, Bool, true, false, not, List, [], ◌∷◌, map, length, get_or, Option, Some, None, refl, sym, ◌∙◌, ap, subst, arith}
use Rattle.std.specs.List.{All, AllZip, Contains, list_any, flat_map, slice_get}
use Rattle.std.proofs.lemmas.Bool.{both_ways}
use Rattle.std.proofs.lemmas.List.Elements.{All-nil, All-cons, All-head, All-tail, All-contains, Contains-append_left, Contains-append_right}
use Rattle.std.proofs.lemmas.List.{get_or-map, length-map, length-append, get_or_append_left, get_or_default}
use Rattle.std.proofs.lemmas.Option.{get_or_from_slice_get}
use Rattle.statement.specs.declared.kinds.Tri.{Tri}
use Rattle.statement.specs.declared.kinds.Tri.TheVariants.{X}
use Rattle.statement.specs.declared.lines.Line.TheVariants.{Stem, Pin, Out}
use Rattle.statement.specs.declared.lines.Fault.{Fault}
use Rattle.statement.specs.Netlists.{Definition, Netlist, is_cell, cells, gates, signals}
use Rattle.netlist.specs.Netlist.{is_gate}
use Rattle.netlist.specs.Conditions.{IsSound}
use Rattle.statement.specs.Values.{gate_bit, Settles, stuck, on_pins, pins_of, bits, outs, next, known, allows}
use Rattle.netlist.proofs.Acyclic.{everywhere}
use Rattle.netlist.proofs.Lists.{All-from_contains, contains_filter}
use Rattle.tri.specs.Gates.{gate_tri}
use Rattle.tri.specs.declared.labels.Label.{Label}
use Rattle.tri.specs.Labels.{Decisions, on_line, label_of, labels, source_label, held_value, AreLabels, Follows, IsAbove, AreAbove}
use Rattle.statement.specs.Patterns.{Holds, Obeys}
use Rattle.tri.proofs.Choices.{gate_allows, known_allows_itself}
use Rattle.tri.proofs.AboveLemmas.{is_above, IsAbove-from, is_above-from, on_line_above, label_of_above, goods_allowed, faults_allowed, same_where_none_differs, AreAbove-append}

-- what is_above_at of a list beside its own image
pub mapped_zip : {A B : Type 0} (R : A → B → Type 0) (g : A → B) (xs : List A) → AllZip R xs (map g xs) → All (λ x. R x (g x)) xs
mapped_zip R g [] h = All-nil _
mapped_zip R g (x ∷ xs) h = All-cons (λ y. R y (g y)) x xs h.0 (mapped_zip R g xs h.1)

two_zips : {A B : Type 0} (P Q : A → Type 0) (R S : A → B → Type 0) (xs : List A) (ys : List B) → ((x : A) (y : B) → R x y → S x y → Q x → P x)
    → AllZip R xs ys → AllZip S xs ys → All Q xs → All P xs
two_zips P Q R S [] [] step r s q = All-nil P
two_zips P Q R S [] (y ∷ ys) step r s q = absurd r
two_zips P Q R S (x ∷ xs) [] step r s q = absurd r
two_zips P Q R S (x ∷ xs) (y ∷ ys) step r s q =
    All-cons P x xs (step x y r.0 s.0 (All-head Q x xs q)) (two_zips P Q R S xs ys step r.1 s.1 (All-tail Q x xs q))

mapped_contains : {A B : Type 0} (g : A → B) (xs : List A) (x : A) → Contains xs x → Contains (map g xs) (g x)
mapped_contains g xs x c = (c.0, omega (arith, c.1, length-map xs g), get_or-map g xs c.0 x (g x) c.1 ∙ ap g c.2)

zip_at : {A B : Type 0} (R : A → B → Type 0) (xs : List A) (ys : List B) (k : ℕ) (d : A) (e : B) → AllZip R xs ys → k < length xs
    → R (get_or xs k d) (get_or ys k e)
zip_at R [] ys k d e z h = absurd (omega arith)
zip_at R (x ∷ xs) [] k d e z h = absurd z
zip_at R (x ∷ xs) (y ∷ ys) zero d e z h = z.0
zip_at R (x ∷ xs) (y ∷ ys) (suc k) d e z h = zip_at R xs ys k d e z.1 (omega arith)

-- ---- inputs that are held

abbrev held_at : Holds → ℕ → Tri
held_at holds x = held_value (get_or holds x None)

held_bit : (holds : Holds) (k : ℕ) (b : Bool) → get_or holds k None ≡ Some b → slice_get holds k ≡ Some (Some b)
held_bit [] k b e = cc
held_bit (h ∷ hs) zero b e = ap Some e
held_bit (h ∷ hs) (suc k) b e = held_bit hs k b e

held_allows : (holds : Holds) (inputs : List Bool) → Obeys holds inputs → (k : ℕ) → allows (held_at holds k) (get_or inputs k false) ≡ true
held_allows holds inputs obeys k =
    let step : (h : Option Bool) → get_or holds k None ≡ h → allows (held_value h) (get_or inputs k false) ≡ true =
    elim [
      | None ↦ λ e. refl
      | Some b ↦ λ e.
          let bit : get_or inputs k false ≡ b = get_or_from_slice_get inputs k b false (obeys k b (held_bit holds k b e)) in
          subst (λ w. allows (known b) w ≡ true) (sym bit) (known_allows_itself b)
    ] in
    step (get_or holds k None) refl

input_place : (n : Netlist) → IsSound n → (x : ℕ) → (c : Contains n.inputs x) → x ≡ c.0
input_place n sound x c =
    let ids : List ℕ = map (λ (d : Definition). d.id) n.definitions in
    let within : c.0 < length (n.inputs ++ ids) = omega (arith, c.1, length-append n.inputs ids) in
    let numbered : get_or (n.inputs ++ ids) c.0 0 ≡ c.0 = sound.formed.numbered c.0 within in
    let left : get_or (n.inputs ++ ids) c.0 0 ≡ get_or n.inputs c.0 0 = get_or_append_left n.inputs ids 0 c.0 c.1 in
    let other : get_or n.inputs c.0 0 ≡ get_or n.inputs c.0 x = get_or_default n.inputs c.0 0 x c.1 in
    let here : get_or n.inputs c.0 x ≡ x = c.2 in
    cc

pub inputs_within : (n : Netlist) → IsSound n → (ids : List ℕ) (m : ℕ) → ids ≡ n.inputs → m ≡ length n.inputs → All (λ x. x < m) ids
inputs_within n sound ids m e same =
    subst (All (λ x. x < m)) (sym e)
    (All-from_contains (λ x. x < m) n.inputs (λ x c. let place : x ≡ c.0 = input_place n sound x c in let within : c.0 < length n.inputs = c.1 in omega arith))

pub input_is_signal : (n : Netlist) (x : ℕ) → Contains n.inputs x → Contains (signals n) x
input_is_signal n x c = Contains-append_left n.inputs (map (λ (d : Definition). d.id) n.definitions) x c

pub defined_is_signal : (n : Netlist) (d : Definition) → Contains n.definitions d → Contains (signals n) d.id
defined_is_signal n d c =
    Contains-append_right n.inputs (map (λ (d : Definition). d.id) n.definitions) d.id (mapped_contains (λ (e : Definition). e.id) n.definitions d c)

pub other_bit : (c b : Bool) → allows (known (not c)) b ≡ true → b ≡ c → ⊥
other_bit true true h e = both_ways false refl h
other_bit true false h e = both_ways false refl e
other_bit false true h e = both_ways false refl (sym e)
other_bit false false h e = both_ways false refl h

module _ (f : Fault) (path : Decisions) (n : Netlist) (l : ℕ → Label) (a b : ℕ → Bool) where
  above_pins : (z k : ℕ) (xs : List ℕ) → All (λ x. IsAbove (l x) (a x) (b x)) xs
      → AreAbove (on_pins (labels (Some f) path) z k (map l xs)) (on_pins (bits None) z k (map a xs)) (on_pins (bits (Some f)) z k (map b xs))
  above_pins z k [] h = tt
  above_pins z k (x ∷ xs) h = (
    on_line_above f (Pin z k) (l x) (a x) (b x) (All-head (λ y. IsAbove (l y) (a y) (b y)) x xs h),
    above_pins z (k + 1) xs (All-tail (λ y. IsAbove (l y) (a y) (b y)) x xs h),
  )

  above_outs : (xs : List ℕ) → All (λ x. IsAbove (l x) (a x) (b x)) xs
      → AreAbove (map (λ x. (labels (Some f) path).line (Out x) (l x)) xs) (map (λ x. (bits None).line (Out x) (a x)) xs) (map (λ x. (bits (Some f)).line (Out x) (b x)) xs)
  above_outs [] h = tt
  above_outs (x ∷ xs) h = (
    on_line_above f (Out x) (l x) (a x) (b x) (All-head (λ y. IsAbove (l y) (a y) (b y)) x xs h),
    above_outs xs (All-tail (λ y. IsAbove (l y) (a y) (b y)) x xs h),
  )

  above_next : (ds : List Definition) → All (λ (d : Definition). All (λ x. IsAbove (l x) (a x) (b x)) d.pins) ds
      → AreAbove (flat_map (pins_of (labels (Some f) path) l) ds) (flat_map (pins_of (bits None) a) ds) (flat_map (pins_of (bits (Some f)) b) ds)
  above_next [] h = tt
  above_next (d ∷ ds) h =
      AreAbove-append (pins_of (labels (Some f) path) l d) (flat_map (pins_of (labels (Some f) path) l) ds) (pins_of (bits None) a d) (flat_map (pins_of (bits None) a) ds)
      (pins_of (bits (Some f)) b d) (flat_map (pins_of (bits (Some f)) b) ds)
      (above_pins d.id 0 d.pins (All-head (λ (e : Definition). All (λ x. IsAbove (l x) (a x) (b x)) e.pins) d ds h))
      (above_next ds (All-tail (λ (e : Definition). All (λ x. IsAbove (l x) (a x) (b x)) e.pins) d ds h))

  module _ (holds : Holds) (inputs state : List Bool) (sound : IsSound n) (r : AreLabels (Some f) path n holds l)
      (p : Settles (bits None) n inputs state a) (q : Settles (bits (Some f)) n inputs state b) (obeys : Obeys holds inputs) (follows : Follows path n a) where
    is_above_at : ℕ → Bool
    is_above_at x = is_above (l x) (a x) (b x)

    at_source : (x : ℕ) (own : Tri) (v : Bool) → Contains (signals n) x → a x ≡ v → b x ≡ stuck (λ c. c) (Some f) (Stem x) v → allows own v ≡ true
        → l x ≡ on_line (Some f) (Stem x) (source_label path x own) → is_above_at x ≡ true
    unfolding is_above_at
    at_source x own v c good faulty allowed label =
        let base : IsAbove (source_label path x own) (a x) v =
        label_of_above (path x) own X false (a x) v (subst (λ w. allows own w ≡ true) (sym good) allowed) (λ d. follows x d c) refl (λ e. good) in
        let h : IsAbove (on_line (Some f) (Stem x) (source_label path x own)) (a x) (stuck (λ c. c) (Some f) (Stem x) v) =
        on_line_above f (Stem x) (source_label path x own) (a x) v base in
        is_above-from (l x) (a x) (b x)
        (subst (λ (m : Label). IsAbove m (a x) (b x)) (sym label) (subst (λ y. IsAbove (on_line (Some f) (Stem x) (source_label path x own)) (a x) y) (sym faulty) h))

    at_gate : (d : Definition) → Contains (signals n) d.id → Contains (gates n) d → All (λ x. is_above_at x ≡ true) d.pins → is_above_at d.id ≡ true
    unfolding is_above_at
    at_gate d s c h =
        let kind = d.kind in
        let z = d.id in
        let good_pins : List Bool = pins_of (bits None) a d in
        let faulty_pins : List Bool = pins_of (bits (Some f)) b d in
        let ls : List Label = pins_of (labels (Some f) path) l d in
        let good : a z ≡ gate_bit kind good_pins =
        All-contains (λ (e : Definition). a e.id ≡ gate_bit e.kind (pins_of (bits None) a e)) (gates n) d p.2 c in
        let faulty : b z ≡ stuck (λ x. x) (Some f) (Stem z) (gate_bit kind faulty_pins) =
        All-contains (λ (e : Definition). b e.id ≡ stuck (λ x. x) (Some f) (Stem e.id) (gate_bit e.kind (pins_of (bits (Some f)) b e))) (gates n) d q.2 c in
        let label : l z ≡ on_line (Some f) (Stem z) ((labels (Some f) path).gate d ls) =
        All-contains (λ (e : Definition). l e.id ≡ on_line (Some f) (Stem e.id) ((labels (Some f) path).gate e (pins_of (labels (Some f) path) l e))) (gates n) d r.2 c in
        let above : AreAbove ls good_pins faulty_pins = above_pins z 0 d.pins (λ k x i. IsAbove-from _ _ _ (h k x i)) in
        let own : Tri = gate_tri kind (map (λ (m : Label). m.good) ls) in
        let other : Tri = gate_tri kind (map (λ (m : Label). m.faulty) ls) in
        let differs : Bool = list_any (λ (m : Label). m.may_differ) ls in
        let v : Bool = gate_bit kind faulty_pins in
        let own_allows : allows own (a z) ≡ true =
        subst (λ x. allows own x ≡ true) (sym good) (gate_allows kind (map (λ (m : Label). m.good) ls) good_pins (goods_allowed ls good_pins faulty_pins above)) in
        let base : IsAbove (label_of (path z) own other differs) (a z) v =
        label_of_above (path z) own other differs (a z) v own_allows (λ x. follows z x s)
        (gate_allows kind (map (λ (m : Label). m.faulty) ls) faulty_pins (faults_allowed ls good_pins faulty_pins above))
        (λ e. good ∙ ap (gate_bit kind) (same_where_none_differs ls good_pins faulty_pins above e)) in
        let done = on_line_above f (Stem z) (label_of (path z) own other differs) (a z) v base in
        is_above-from (l z) (a z) (b z)
        (subst (λ (m : Label). IsAbove m (a z) (b z)) (sym label) (subst (λ y. IsAbove (on_line (Some f) (Stem z) (label_of (path z) own other differs)) (a z) y) (sym faulty) done))

    at_inputs : All (λ x. is_above_at x ≡ true) n.inputs
    at_inputs =
        let label : All (λ x. l x ≡ on_line (Some f) (Stem x) (source_label path x (held_at holds x))) n.inputs =
        mapped_zip (λ x v. l x ≡ on_line (Some f) (Stem x) v) (λ x. source_label path x (held_at holds x)) n.inputs r.0 in
        All-from_contains (λ x. is_above_at x ≡ true) n.inputs (λ x c.
        let good = zip_at (λ y v. a y ≡ v) n.inputs inputs c.0 x false p.0 c.1 in
        let faulty = zip_at (λ y v. b y ≡ stuck (λ w. w) (Some f) (Stem y) v) n.inputs inputs c.0 x false q.0 c.1 in
        let place : x ≡ c.0 = input_place n sound x c in
        at_source x (held_at holds x) (get_or inputs c.0 false) (input_is_signal n x c)
        (subst (λ y. a y ≡ get_or inputs c.0 false) c.2 good)
        (subst (λ y. b y ≡ stuck (λ w. w) (Some f) (Stem y) (get_or inputs c.0 false)) c.2 faulty)
        (subst (λ y. allows (held_at holds y) (get_or inputs c.0 false) ≡ true) (sym place) (held_allows holds inputs obeys c.0))
        (All-contains (λ y. l y ≡ on_line (Some f) (Stem y) (source_label path y (held_at holds y))) n.inputs x label c))

    at_cells : All (λ (d : Definition). is_above_at d.id ≡ true) (cells n)
    at_cells =
        let labelled : All (λ (d : Definition). l d.id ≡ on_line (Some f) (Stem d.id) (source_label path d.id X)) (cells n) =
        mapped_zip (λ (d : Definition) v. l d.id ≡ on_line (Some f) (Stem d.id) v) (λ (d : Definition). source_label path d.id X) (cells n) r.1 in
        two_zips (λ (d : Definition). is_above_at d.id ≡ true) (λ (d : Definition). Contains (signals n) d.id × (l d.id ≡ on_line (Some f) (Stem d.id) (source_label path d.id X)))
        (λ (d : Definition) v. a d.id ≡ v) (λ (d : Definition) v. b d.id ≡ stuck (λ c. c) (Some f) (Stem d.id) v) (cells n) state
        (λ d v good faulty w. at_source d.id X v w.0 good faulty refl w.1) p.1 q.1
        (All-from_contains (λ (d : Definition). Contains (signals n) d.id × (l d.id ≡ on_line (Some f) (Stem d.id) (source_label path d.id X))) (cells n)
        (λ d c. (
          defined_is_signal n d (contains_filter is_cell n.definitions d c).0,
          All-contains (λ (e : Definition). l e.id ≡ on_line (Some f) (Stem e.id) (source_label path e.id X)) (cells n) d labelled c,
        )))

    pub above_at : (x : ℕ) → Contains (signals n) x → IsAbove (l x) (a x) (b x)
    unfolding is_above_at
    above_at x c =
        IsAbove-from (l x) (a x) (b x)
        (everywhere n is_above_at sound.closed at_inputs at_cells (λ d g. at_gate d (defined_is_signal n d (contains_filter is_gate n.definitions d g).0) g) sound.acyclic x c)

    above_on_pins : (d : Definition) → Contains n.definitions d → All (λ x. IsAbove (l x) (a x) (b x)) d.pins
    above_on_pins d c =
        let all : All (Contains (signals n)) d.pins = All-contains (λ (e : Definition). All (Contains (signals n)) e.pins) n.definitions d sound.closed.pins c in
        All-from_contains (λ x. IsAbove (l x) (a x) (b x)) d.pins (λ x m. above_at x (All-contains (Contains (signals n)) d.pins x all m))

    pub outs_above : AreAbove (outs (labels (Some f) path) n l) (outs (bits None) n a) (outs (bits (Some f)) n b)
    outs_above = above_outs n.outputs
        (All-from_contains (λ x. IsAbove (l x) (a x) (b x)) n.outputs (λ x m. above_at x (All-contains (Contains (signals n)) n.outputs x sound.closed.outputs m)))

    pub next_above : AreAbove (next (labels (Some f) path) n l) (next (bits None) n a) (next (bits (Some f)) n b)
    next_above = above_next (cells n)
        (All-from_contains (λ (d : Definition). All (λ x. IsAbove (l x) (a x) (b x)) d.pins) (cells n) (λ d m. above_on_pins d (contains_filter is_cell n.definitions d m).0))
