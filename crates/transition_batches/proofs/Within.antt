-- Values that settle on a batch, taken at the signals of one line's two frames, settle on these, and show the same at every point.
use Rattle.std.proofs.Common.{◌≡◌, ℕ, suc, ◌+◌, ◌*◌, ◌<◌, true, false, cond, List, [], ◌∷◌, map, length, get_or, Some, refl, sym, ◌∙◌, ap, subst, inl, inr, arith}
use Rattle.std.specs.List.{All, AllPairs, AllZip, Contains, flat_map, slice_get}
use Rattle.std.proofs.lemmas.Bool.{cases_Bool, both_ways, ne_eqb, not-true, not_from_false}
use Rattle.std.proofs.lemmas.List.Elements.{All-contains, Contains-get_or}
use Rattle.std.proofs.lemmas.Option.{same_Some}
use Rattle.statement.specs.declared.kinds.Kind.{Kind}
use Rattle.statement.specs.declared.kinds.Kind.TheVariants.{And, Or, Buff, Const0, Const1}
use Rattle.statement.specs.declared.lines.Line.{Line}
use Rattle.statement.specs.declared.lines.Line.TheVariants.{Stem, Pin, Out}
use Rattle.statement.specs.declared.lines.Fault.{Fault}
use Rattle.statement.specs.Netlists.{Definition, Netlist, is_cell, cells, gates, signals}
use Rattle.netlist.specs.Netlist.{is_gate, define}
use Rattle.netlist.specs.Conditions.{IsNumbered, IsClosed}
use Rattle.netlist.specs.Lines.{IsLineOf}
use Rattle.statement.specs.Values.{Rule, Settles, is_line, on_pins, pins_of, outs, next}
use Rattle.netlist.proofs.Alike.{zip_append}
use Rattle.netlist.proofs.Lists.{All-from_contains, contains_head, contains_tail, contains_filter, filter_contains}
use Rattle.netlist.proofs.Placed.{signal_below, input_below, definition_below}
use Rattle.transition_frames.specs.Frames.{source_of, second, tie, hold, late, read, read_pins, in_first, frames_of}
use Rattle.transition_frames.proofs.Framed.{cells_framed, first_cell, first_id, second_defined, second_below, first_below}
use Rattle.transition_frames.proofs.Gates.{IsFrameGate, kept, again, holds, ties, keeps, lags, frame_gate}
use Rattle.transition_frames.proofs.Sources.{source_at_pin, source_at_out, source_is_signal}
use Rattle.transition_batches.specs.Batches.{tie_at, hold_at, late_at, read_late, late_pins, in_first_of, gates_at, batch_of, AreApart}
use Rattle.transition_batches.proofs.Places.{to_batch, to_batch_below, to_batch_from, cells_batched, first_of_cell, first_of_gate, first_of_id, second_of_cell, second_of_gate, first_of_member, second_of_member, gate_member, gate_at_is_no_cell}
use Rattle.transition_batches.proofs.LateReads.{is_late, one_late, late_source, late_cases}

-- ---- lists

zip_kept : {X W : Type 0} (P Q : X → W → Type 0) (xs : List X) (vs : List W) → ((x : X) (v : W) → Contains xs x → P x v → Q x v) → AllZip P xs vs → AllZip Q xs vs
zip_kept P Q [] [] h k = tt
zip_kept P Q [] (v ∷ vs) h k = absurd k
zip_kept P Q (x ∷ xs) [] h k = absurd k
zip_kept P Q (x ∷ xs) (v ∷ vs) h k = (h x v (contains_head x xs) k.0, zip_kept P Q xs vs (λ y w c. h y w (contains_tail x y xs c)) k.1)

zip_moved : {X Y Z W : Type 0} (P : Y → W → Type 0) (Q : Z → W → Type 0) (g : X → Y) (h : X → Z) (xs : List X) (vs : List W)
    → ((x : X) (v : W) → Contains xs x → P (g x) v → Q (h x) v) → AllZip P (map g xs) vs → AllZip Q (map h xs) vs
zip_moved P Q g h [] [] e k = tt
zip_moved P Q g h [] (v ∷ vs) e k = absurd k
zip_moved P Q g h (x ∷ xs) [] e k = absurd k
zip_moved P Q g h (x ∷ xs) (v ∷ vs) e k = (e x v (contains_head x xs) k.0, zip_moved P Q g h xs vs (λ y w c. e y w (contains_tail x y xs c)) k.1)

zip_maps : {X Y Z W : Type 0} (P : W → W → Type 0) (p : Y → W) (q : Z → W) (g : X → Y) (h : X → Z) (xs : List X)
    → ((x : X) → Contains xs x → P (p (g x)) (q (h x))) → AllZip P (map p (map g xs)) (map q (map h xs))
zip_maps P p q g h [] e = tt
zip_maps P p q g h (x ∷ xs) e = (e x (contains_head x xs), zip_maps P p q g h xs (λ y c. e y (contains_tail x y xs c)))

zip_flat : {X Y Z W : Type 0} (P : W → W → Type 0) (p : Y → List W) (q : Z → List W) (g : X → Y) (h : X → Z) (xs : List X)
    → ((x : X) → Contains xs x → AllZip P (p (g x)) (q (h x))) → AllZip P (flat_map p (map g xs)) (flat_map q (map h xs))
zip_flat P p q g h [] e = tt
zip_flat P p q g h (x ∷ xs) e =
    zip_append P (p (g x)) (flat_map p (map g xs)) (q (h x)) (flat_map q (map h xs)) (e x (contains_head x xs))
    (zip_flat P p q g h xs (λ y c. e y (contains_tail x y xs c)))

-- values on pins, where none of these is stuck
pins_clear : {V : Type 0} (rule : Rule V) (z k : ℕ) (vs : List V) → ((i : ℕ) (v : V) → rule.line (Pin z i) v ≡ v) → on_pins rule z k vs ≡ vs
pins_clear rule z k [] clear = refl
pins_clear rule z k (v ∷ vs) clear = ap (λ w. w ∷ on_pins rule z (k + 1) vs) (clear k v) ∙ ap (λ r. v ∷ r) (pins_clear rule z (k + 1) vs clear)

-- ---- what the gates of a batch give

module _ {V : Type 0} (R : Rule V) (n : Netlist) (numbered : IsNumbered n) (fs : List Fault) (j : ℕ)
    (clear : (l : Line) → is_line (Stem (tie_at n j)) l ≡ false → (v : V) → R.line l v ≡ v)
    (inputs state : List V) (a : ℕ → V) (settles : Settles R (batch_of n fs) inputs state a) where
  at_stem : (d : Definition) → Contains (batch_of n fs).definitions d → is_cell d ≡ false → a d.id ≡ R.line (Stem d.id) (R.gate d (map a d.pins))
  at_stem d c gate =
      All-contains (λ (e : Definition). a e.id ≡ R.line (Stem e.id) (R.gate e (pins_of R a e))) (gates (batch_of n fs)) d settles.2
      (filter_contains is_gate (batch_of n fs).definitions d c (not_from_false (is_cell d) gate))
      ∙ ap (λ vs. R.line (Stem d.id) (R.gate d vs)) (pins_clear R d.id 0 (map a d.pins) (λ i. clear (Pin d.id i) refl))

  at_gate : (d : Definition) → Contains (batch_of n fs).definitions d → is_cell d ≡ false → (tie_at n j ≡ d.id → ⊥) → a d.id ≡ R.gate d (map a d.pins)
  at_gate d c gate differs = at_stem d c gate ∙ clear (Stem d.id) (ne_eqb (tie_at n j) d.id differs) (R.gate d (map a d.pins))

  pub input_value : (x : ℕ) (v : V) → Contains n.inputs x → a x ≡ R.line (Stem x) v → a x ≡ v
  input_value x v c e = let l = first_below n x (input_below n numbered x c) in e ∙ clear (Stem x) (ne_eqb (tie_at n j) x (λ same. omega arith)) v

  low : (d : Definition) → Contains n.definitions d → d.id < tie n
  low d c = first_below n d.id (definition_below n numbered d c)

  high : (d : Definition) → Contains n.definitions d → d.id + length n.definitions < tie n
  high d c = subst (λ x. x < tie n) (second_defined n numbered d c) (second_below n d.id (definition_below n numbered d c))

  pub cell_value : (d : Definition) (v : V) → Contains (cells n) d → a d.id ≡ R.line (Stem d.id) v → a d.id ≡ v
  cell_value d v c e =
      let l = low d (contains_filter is_cell n.definitions d c).0 in
      e ∙ clear (Stem d.id) (ne_eqb (tie_at n j) d.id (λ same. omega arith)) v

  pub kept_value : (d : Definition) → Contains (gates n) d → a d.id ≡ R.gate d (map a d.pins)
  kept_value d c =
      let m = contains_filter is_gate n.definitions d c in
      let gate : is_cell d ≡ false = not-true (is_cell d) m.1 in
      let l = low d m.0 in
      at_gate d (subst (λ (e : Definition). Contains (batch_of n fs).definitions e) (first_of_gate n fs d gate) (first_of_member n fs d m.0)) gate (λ e. omega arith)

  pub again_value : (d : Definition) → Contains (gates n) d
      → a (d.id + length n.definitions) ≡ R.gate (define (d.id + length n.definitions) d.kind (late_pins n fs d.id 0 d.pins)) (map a (late_pins n fs d.id 0 d.pins))
  again_value d c =
      let m = contains_filter is_gate n.definitions d c in
      let gate : is_cell d ≡ false = not-true (is_cell d) m.1 in
      let l = high d m.0 in
      let e : Definition = define (d.id + length n.definitions) d.kind (late_pins n fs d.id 0 d.pins) in
      at_gate e (subst (λ (x : Definition). Contains (batch_of n fs).definitions x) (second_of_gate n fs d gate) (second_of_member n fs d m.0)) gate (λ same. omega arith)

  pub taken_value : (d : Definition) → Contains (cells n) d → a (d.id + length n.definitions) ≡ R.gate (define (d.id + length n.definitions) Buff d.pins) (map a d.pins)
  taken_value d c =
      let m = contains_filter is_cell n.definitions d c in
      let l = high d m.0 in
      let e : Definition = define (d.id + length n.definitions) Buff d.pins in
      at_gate e (subst (λ (x : Definition). Contains (batch_of n fs).definitions x) (second_of_cell n fs d m.1) (second_of_member n fs d m.0)) refl (λ same. omega arith)

  module _ (i : ℕ) (g : Fault) (here : slice_get fs i ≡ Some g) where
    pub tie_value : a (tie_at n i) ≡ R.line (Stem (tie_at n i)) (R.gate (define (tie_at n i) (cond g.value Const0 Const1) []) [])
    tie_value =
        let d : Definition = define (tie_at n i) (cond g.value Const0 Const1) [] in
        let c : Contains (gates_at n i g) d = (0, omega arith, refl) in
        at_stem d (gate_member n fs i g d here c) (gate_at_is_no_cell n i g d c)

    pub other_tie : (i ≡ j → ⊥) → a (tie_at n i) ≡ R.gate (define (tie_at n i) (cond g.value Const0 Const1) []) []
    other_tie other =
        tie_value
        ∙ clear (Stem (tie_at n i)) (ne_eqb (tie_at n j) (tie_at n i) (λ e. other (omega arith))) (R.gate (define (tie_at n i) (cond g.value Const0 Const1) []) [])

    pub hold_value : a (hold_at n i)
        ≡ R.gate (define (hold_at n i) (cond g.value And Or) (source_of n g.line ∷ tie_at n i ∷ [])) (a (source_of n g.line) ∷ a (tie_at n i) ∷ [])
    hold_value =
        let d : Definition = define (hold_at n i) (cond g.value And Or) (source_of n g.line ∷ tie_at n i ∷ []) in
        let c : Contains (gates_at n i g) d = (1, omega arith, refl) in
        at_gate d (gate_member n fs i g d here c) (gate_at_is_no_cell n i g d c) (λ e. omega arith)

    pub late_value : a (late_at n i)
        ≡ R.gate (define (late_at n i) (cond g.value Or And) (second n (source_of n g.line) ∷ hold_at n i ∷ [])) (a (second n (source_of n g.line)) ∷ a (hold_at n i) ∷ [])
    late_value =
        let d : Definition = define (late_at n i) (cond g.value Or And) (second n (source_of n g.line) ∷ hold_at n i ∷ []) in
        let c : Contains (gates_at n i g) d = (2, omega arith, refl) in
        at_gate d (gate_member n fs i g d here c) (gate_at_is_no_cell n i g d c) (λ e. omega arith)

-- ---- the two frames

-- Gates make of values that are the same for them one value; where a slow line but that at place j is late, its late value is the same as its value.
module _ {V : Type 0} (R S : Rule V) (Same : V → V → Type 0) (same : (v : V) → Same v v)
    (n : Netlist) (numbered : IsNumbered n) (closed : IsClosed n) (fs : List Fault) (apart : AllPairs (AreApart n) fs)
    (j : ℕ) (f : Fault) (here : slice_get fs j ≡ Some f) (valid : IsLineOf n f.line)
    (clear : (l : Line) → is_line (Stem (tie_at n j)) l ≡ false → (v : V) → R.line l v ≡ v)
    (plain : (l : Line) → is_line (Stem (tie n)) l ≡ false → (v : V) → S.line l v ≡ v)
    (stem : (v : V) → R.line (Stem (tie_at n j)) v ≡ S.line (Stem (tie n)) v)
    (gate : (z y : ℕ) (kind : Kind) (ps qs : List ℕ) (vs ws : List V) → to_batch n j z ≡ y → AllZip Same vs ws → R.gate (define y kind ps) vs ≡ S.gate (define z kind qs) ws)
    (inputs state : List V) (a : ℕ → V) (settles : Settles R (batch_of n fs) inputs state a)
    (passes : (i : ℕ) (g : Fault) → slice_get fs i ≡ Some g → (i ≡ j → ⊥) → Same (a (late_at n i)) (a (second n (source_of n g.line)))) where
  abbrev b : ℕ → V
  b x = a (to_batch n j x)

  -- ---- where signals stand

  alike : (x y : ℕ) → to_batch n j x ≡ y → Same (a y) (b x)
  alike x y e = subst (λ z. Same (a z) (b x)) e (same (b x))

  tie_place : to_batch n j (tie n) ≡ tie_at n j
  tie_place = to_batch_from n j (tie n) (omega arith)

  hold_place : to_batch n j (hold n) ≡ hold_at n j
  hold_place = to_batch_from n j (hold n) (omega arith) ∙ (let e : hold n + 3 * j ≡ hold_at n j = omega arith in e)

  late_place : to_batch n j (late n) ≡ late_at n j
  late_place = to_batch_from n j (late n) (omega arith) ∙ (let e : late n + 3 * j ≡ late_at n j = omega arith in e)

  first_place : (x : ℕ) → x < length (signals n) → to_batch n j x ≡ x
  first_place x l = to_batch_below n j x (first_below n x l)

  second_place : (x : ℕ) → x < length (signals n) → to_batch n j (second n x) ≡ second n x
  second_place x l = to_batch_below n j (second n x) (second_below n x l)

  source_low : source_of n f.line < length (signals n)
  source_low = signal_below n numbered (source_of n f.line) (source_is_signal n numbered closed f.line valid)

  -- ---- what lines read

  pub reads : (l : Line) (x : ℕ) → x < length (signals n) → ((m : Line) → is_line m l ≡ true → source_of n m ≡ x) → Same (a (read_late n 0 fs l x)) (b (read n f l x))
  reads l x low own = elim (cases_Bool (is_late f l x)) [
    | inl y ↦
        let mine : read n f l x ≡ late n = ap (λ w. cond w (late n) (second n x)) y in
        elim (late_cases n 0 fs l x) [
          | inl w ↦ absurd (both_ways (is_late f l x) (w.1 j f here) y)
          | inr w ↦
              let place : w.0 ≡ j = one_late n l x own fs apart w.0 j w.1 f w.2 here w.3 y in
              let at_j : 0 + w.0 ≡ j = omega (arith, place) in
              alike (read n f l x) (read_late n 0 fs l x) (ap (to_batch n j) mine ∙ (late_place ∙ (ap (late_at n) (sym at_j) ∙ sym w.4)))
        ]
    | inr e ↦
        let mine : to_batch n j (read n f l x) ≡ second n x = ap (λ w. to_batch n j (cond w (late n) (second n x))) e ∙ second_place x low in
        elim (late_cases n 0 fs l x) [
          | inl w ↦ alike (read n f l x) (read_late n 0 fs l x) (mine ∙ sym w.0)
          | inr w ↦
              let other : w.0 ≡ j → ⊥ = λ place.
              let one : f ≡ w.1 = same_Some f w.1 (sym here ∙ (ap (slice_get fs) (sym place) ∙ w.2)) in
              both_ways (is_late f l x) e (ap (λ (g : Fault). is_late g l x) one ∙ w.3) in
              let at_i : late_at n w.0 ≡ read_late n 0 fs l x = ap (late_at n) (let s : w.0 ≡ 0 + w.0 = omega arith in s) ∙ sym w.4 in
              let from : second n (source_of n w.1.line) ≡ to_batch n j (read n f l x) = ap (second n) (late_source n l x own w.1 w.3) ∙ sym mine in
              subst (λ z. Same (a (read_late n 0 fs l x)) (a z)) from
              (subst (λ z. Same (a z) (a (second n (source_of n w.1.line)))) at_i (passes w.0 w.1 w.2 other))
        ]
  ]

  pins_alike : (z k : ℕ) (xs : List ℕ) → ((i : ℕ) → i < length xs → get_or xs i 0 < length (signals n))
      → ((i : ℕ) → i < length xs → (m : Line) → is_line m (Pin z (k + i)) ≡ true → source_of n m ≡ get_or xs i 0)
      → AllZip Same (map a (late_pins n fs z k xs)) (map b (read_pins n f z k xs))
  pins_alike z k [] low own = tt
  pins_alike z k (x ∷ xs) low own = (
    reads (Pin z k) x (low 0 (omega arith)) (λ m e. own 0 (omega arith) m (ap (λ i. is_line m (Pin z i)) (let s : k + 0 ≡ k = omega arith in s) ∙ e)),
    pins_alike z (k + 1) xs (λ i l. low (suc i) (omega arith))
        (λ i l m e. own (suc i) (omega arith) m (ap (λ p. is_line m (Pin z p)) (let s : k + suc i ≡ k + 1 + i = omega arith in s) ∙ e)),
  )

  pin_low : (d : Definition) → Contains n.definitions d → (i : ℕ) → i < length d.pins → get_or d.pins i 0 < length (signals n)
  pin_low d c i l = signal_below n numbered (get_or d.pins i 0)
      (All-contains (Contains (signals n)) d.pins (get_or d.pins i 0)
      (All-contains (λ (r : Definition). All (Contains (signals n)) r.pins) n.definitions d closed.pins c) (Contains-get_or d.pins i 0 l))

  late_alike : (d : Definition) → Contains n.definitions d → AllZip Same (map a (late_pins n fs d.id 0 d.pins)) (map b (read_pins n f d.id 0 d.pins))
  late_alike d c = pins_alike d.id 0 d.pins (pin_low d c)
      (λ i l m e. source_at_pin n numbered m d c i (ap (λ p. is_line m (Pin d.id p)) (let s : i ≡ 0 + i = omega arith in s) ∙ e))

  first_alike : (xs : List ℕ) → ((i : ℕ) → i < length xs → get_or xs i 0 < length (signals n)) → AllZip Same (map a xs) (map b xs)
  first_alike [] low = tt
  first_alike (x ∷ xs) low = (alike x x (first_place x (low 0 (omega arith))), first_alike xs (λ i l. low (suc i) (omega arith)))

  -- ---- the values settle

  gate_is : (z y : ℕ) (kind : Kind) (ps qs : List ℕ) → to_batch n j z ≡ y → (tie n ≡ z → ⊥) → a y ≡ R.gate (define y kind ps) (map a ps) → AllZip Same (map a ps) (map b qs)
      → b z ≡ S.line (Stem z) (S.gate (define z kind qs) (pins_of S b (define z kind qs)))
  gate_is z y kind ps qs place differs value pins =
      ap a place ∙ (value ∙ (gate z y kind ps qs (map a ps) (map b qs) place pins
      ∙ (ap (S.gate (define z kind qs)) (sym (pins_clear S z 0 (map b qs) (λ i. plain (Pin z i) refl)))
      ∙ sym (plain (Stem z) (ne_eqb (tie n) z differs) (S.gate (define z kind qs) (pins_of S b (define z kind qs)))))))

  below : (d : Definition) → Contains n.definitions d → d.id < tie n
  below d c = first_below n d.id (definition_below n numbered d c)

  below_again : (d : Definition) → Contains n.definitions d → d.id + length n.definitions < tie n
  below_again d c = subst (λ x. x < tie n) (second_defined n numbered d c) (second_below n d.id (definition_below n numbered d c))

  each_gate : (d : Definition) → IsFrameGate n f d → b d.id ≡ S.line (Stem d.id) (S.gate d (pins_of S b d))
  each_gate _ (kept d c) =
      let m = (contains_filter is_gate n.definitions d c).0 in
      let l = below d m in
      gate_is d.id d.id d.kind d.pins d.pins (to_batch_below n j d.id l) (λ e. omega arith) (kept_value R n numbered fs j clear inputs state a settles d c) (first_alike d.pins (pin_low d m))
  each_gate _ (again d c) =
      let m = (contains_filter is_gate n.definitions d c).0 in
      let l = below_again d m in
      let z = d.id + length n.definitions in
      gate_is z z d.kind (late_pins n fs d.id 0 d.pins) (read_pins n f d.id 0 d.pins) (to_batch_below n j z l) (λ e. omega arith)
      (again_value R n numbered fs j clear inputs state a settles d c) (late_alike d m)
  each_gate _ (holds d c) =
      let m = (contains_filter is_cell n.definitions d c).0 in
      let l = below_again d m in
      let z = d.id + length n.definitions in
      gate_is z z Buff d.pins d.pins (to_batch_below n j z l) (λ e. omega arith) (taken_value R n numbered fs j clear inputs state a settles d c) (first_alike d.pins (pin_low d m))
  each_gate _ ties =
      ap a tie_place ∙ (tie_value R n numbered fs j clear inputs state a settles j f here
      ∙ (stem (R.gate (define (tie_at n j) (cond f.value Const0 Const1) []) [])
      ∙ ap (S.line (Stem (tie n))) (gate (tie n) (tie_at n j) (cond f.value Const0 Const1) [] [] [] [] tie_place tt)))
  each_gate _ keeps =
      gate_is (hold n) (hold_at n j) (cond f.value And Or) (source_of n f.line ∷ tie_at n j ∷ []) (source_of n f.line ∷ tie n ∷ []) hold_place (λ e. omega arith)
      (hold_value R n numbered fs j clear inputs state a settles j f here)
      (alike (source_of n f.line) (source_of n f.line) (first_place (source_of n f.line) source_low), (alike (tie n) (tie_at n j) tie_place, tt))
  each_gate _ lags =
      gate_is (late n) (late_at n j) (cond f.value Or And) (second n (source_of n f.line) ∷ hold_at n j ∷ []) (second n (source_of n f.line) ∷ hold n ∷ []) late_place
      (λ e. omega arith) (late_value R n numbered fs j clear inputs state a settles j f here)
      (alike (second n (source_of n f.line)) (second n (source_of n f.line)) (second_place (source_of n f.line) source_low), (alike (hold n) (hold_at n j) hold_place, tt))

  source_is : (x : ℕ) (v : V) → x < tie n → a x ≡ v → b x ≡ S.line (Stem x) v
  source_is x v l e = ap a (to_batch_below n j x l) ∙ (e ∙ sym (plain (Stem x) (ne_eqb (tie n) x (λ s. omega arith)) v))

  pub frames_settle : Settles S (frames_of n f) inputs state (λ x. a (to_batch n j x))
  frames_settle = (
    zip_kept (λ x v. a x ≡ R.line (Stem x) v) (λ x v. b x ≡ S.line (Stem x) v) n.inputs inputs
        (λ x v c e. source_is x v (first_below n x (input_below n numbered x c)) (input_value R n numbered fs j clear inputs state a settles x v c e)) settles.0,
    subst (λ (cs : List Definition). AllZip (λ (d : Definition) v. b d.id ≡ S.line (Stem d.id) v) cs state) (sym (cells_framed n f))
        (zip_moved (λ (d : Definition) v. a d.id ≡ R.line (Stem d.id) v) (λ (d : Definition) v. b d.id ≡ S.line (Stem d.id) v) (in_first_of n fs) (in_first n f) (cells n) state
        (λ d v c e.
        let m = (contains_filter is_cell n.definitions d c).0 in
        let own : a d.id ≡ R.line (Stem d.id) v = subst (λ x. a x ≡ R.line (Stem x) v) (first_of_id n fs d) e in
        subst (λ x. b x ≡ S.line (Stem x) v) (sym (first_id n f d)) (source_is d.id v (below d m) (cell_value R n numbered fs j clear inputs state a settles d v c own)))
        (subst (λ (cs : List Definition). AllZip (λ (d : Definition) v. a d.id ≡ R.line (Stem d.id) v) cs state) (cells_batched n fs) settles.1)),
    All-from_contains (λ (d : Definition). b d.id ≡ S.line (Stem d.id) (S.gate d (pins_of S b d))) (gates (frames_of n f)) (λ d c. each_gate d (frame_gate n f d c)),
  )

  -- ---- the points

  pub outs_alike : AllZip Same (outs R (batch_of n fs) a) (outs S (frames_of n f) (λ x. a (to_batch n j x)))
  outs_alike = zip_maps Same (λ x. R.line (Out x) (a x)) (λ x. S.line (Out x) (b x)) (λ y. read_late n 0 fs (Out y) y) (λ y. read n f (Out y) y) n.outputs (λ y c.
      let p = read_late n 0 fs (Out y) y in
      let q = read n f (Out y) y in
      let l = signal_below n numbered y (All-contains (Contains (signals n)) n.outputs y closed.outputs c) in
      subst (Same (R.line (Out p) (a p))) (sym (plain (Out q) refl (b q)))
      (subst (λ v. Same v (b q)) (sym (clear (Out p) refl (a p))) (reads (Out y) y l (λ m e. source_at_out n numbered m y e))))

  cell_alike : (d : Definition) → Contains (cells n) d → AllZip Same (pins_of R a (in_first_of n fs d)) (pins_of S b (in_first n f d))
  cell_alike d c =
      let m = contains_filter is_cell n.definitions d c in
      let p : pins_of R a (in_first_of n fs d) ≡ map a (late_pins n fs d.id 0 d.pins) =
      ap (pins_of R a) (first_of_cell n fs d m.1) ∙ pins_clear R d.id 0 (map a (late_pins n fs d.id 0 d.pins)) (λ i. clear (Pin d.id i) refl) in
      let q : pins_of S b (in_first n f d) ≡ map b (read_pins n f d.id 0 d.pins) =
      ap (pins_of S b) (first_cell n f d m.1) ∙ pins_clear S d.id 0 (map b (read_pins n f d.id 0 d.pins)) (λ i. plain (Pin d.id i) refl) in
      subst (AllZip Same (pins_of R a (in_first_of n fs d))) (sym q)
      (subst (λ (vs : List V). AllZip Same vs (map b (read_pins n f d.id 0 d.pins))) (sym p) (late_alike d m.0))

  pub next_alike : AllZip Same (next R (batch_of n fs) a) (next S (frames_of n f) (λ x. a (to_batch n j x)))
  next_alike =
      subst (λ (cs : List Definition). AllZip Same (flat_map (pins_of R a) cs) (flat_map (pins_of S b) (cells (frames_of n f)))) (sym (cells_batched n fs))
      (subst (λ (cs : List Definition). AllZip Same (flat_map (pins_of R a) (map (in_first_of n fs) (cells n))) (flat_map (pins_of S b) cs)) (sym (cells_framed n f))
      (zip_flat Same (pins_of R a) (pins_of S b) (in_first_of n fs) (in_first n f) (cells n) cell_alike))
