-- What the counts and the stuck line tell of the observed points.
use Rattle.std.proofs.Common.{◌≡◌, ℕ, zero, suc, ◌+◌, ◌<◌, ◌&&◌, ◌||◌, Bool, true, false, not, cond, List, [], ◌∷◌, length, map, Some, None, get_or, refl, sym, ◌∙◌, ap, subst, inl, inr, arith}
use Rattle.std.specs.List.{All, Contains, flat_map, list_any}
use Rattle.std.proofs.lemmas.Bool.{both_ways, and_parts, not-true, true≢false}
use Rattle.std.proofs.lemmas.List.Elements.{All-nil, All-append, All-map, All-contains, All-head, All-tail}
use Rattle.statement.specs.declared.kinds.Tri.TheVariants.{X}
use Rattle.statement.specs.declared.lines.Line.{Line}
use Rattle.statement.specs.declared.lines.Line.TheVariants.{Pin, Out}
use Rattle.statement.specs.declared.lines.Fault.{Fault}
use Rattle.netlist.specs.Conditions.{IsSound}
use Rattle.statement.specs.Patterns.{Holds}
use Rattle.statement.specs.Netlists.{Definition, Netlist, is_cell, cells, gates, signals}
use Rattle.statement.specs.Values.{is_line, on_pins, pins_of, known}
use Rattle.netlist.specs.Settled.{at}
use Rattle.netlist.proofs.Acyclic.{everywhere}
use Rattle.netlist.proofs.Lists.{All-from_contains, all_flat_map, contains_filter}
use Rattle.netlist.proofs.Placed.{signal_below}
use Rattle.netlist.proofs.WellFormed.{one_pin}
use Rattle.tri.specs.declared.labels.Label.{Label}
use Rattle.tri.specs.Labels.{Decisions, is_known_as, on_line, labels, source_label, held_value, AreLabels, IsUnobserved}
use Rattle.tri.proofs.LabelLemmas.{mapped_zip}
use Rattle.label_events.specs.Lines.{IsInner, IsPointLine}
use Rattle.redundancy_cert.specs.inner.Tallies.{count_pairs, shows}
use Rattle.redundancy_cert.specs.inner.Passing.{AreObserved, no_label}
use Rattle.redundancy_cert.proofs.TallyLemmas.{count_none, count_some}

-- ---- without a fault nothing differs

module _ (path : Decisions) (n : Netlist) (holds : Holds) (sound : IsSound n) (l : ℕ → Label) (are : AreLabels None path n holds l) where
  is_same : ℕ → Bool
  is_same x = not (l x).may_differ

  none_differs : (z k : ℕ) (xs : List ℕ) → All (λ x. is_same x ≡ true) xs → list_any (λ (m : Label). m.may_differ) (on_pins (labels None path) z k (map l xs)) ≡ false
  unfolding is_same
  none_differs z k [] h = refl
  none_differs z k (x ∷ xs) h =
      ap (λ b. b || list_any (λ (m : Label). m.may_differ) (on_pins (labels None path) z (k + 1) (map l xs))) (not-true (l x).may_differ (All-head (λ y. not (l y).may_differ ≡ true) x xs h))
      ∙ none_differs z (k + 1) xs (All-tail (λ y. not (l y).may_differ ≡ true) x xs h)

  at_gate : (d : Definition) → Contains (gates n) d → All (λ x. is_same x ≡ true) d.pins → is_same d.id ≡ true
  unfolding is_same
  at_gate d c h =
      let pins : List Label = pins_of (labels None path) l d in
      let is : l d.id ≡ (labels None path).gate d pins =
      All-contains (λ (e : Definition). l e.id ≡ (labels None path).gate e (pins_of (labels None path) l e)) (gates n) d are.2 c in
      let none : list_any (λ (m : Label). m.may_differ) pins ≡ false = none_differs d.id 0 d.pins h in
      ap (λ (m : Label). not m.may_differ) is ∙ both_false (list_any (λ (m : Label). m.may_differ) pins) _ none
    where
      both_false : (a b : Bool) → a ≡ false → not (a && b) ≡ true
      both_false true b e = absurd (true≢false e)
      both_false false b e = refl

  pub nothing_differs : (x : ℕ) → Contains (signals n) x → (l x).may_differ ≡ false
  unfolding is_same
  nothing_differs x c =
      not-true (l x).may_differ
      (everywhere n is_same sound.closed
      (All-from_contains (λ y. is_same y ≡ true) n.inputs (λ y m.
      ap (λ (k : Label). not k.may_differ) (All-contains (λ z. l z ≡ source_label path z (held_value (get_or holds z None))) n.inputs y
      (mapped_zip (λ z v. l z ≡ v) (λ z. source_label path z (held_value (get_or holds z None))) n.inputs are.0) m)))
      (All-from_contains (λ (d : Definition). is_same d.id ≡ true) (cells n) (λ d m.
      ap (λ (k : Label). not k.may_differ) (All-contains (λ (e : Definition). l e.id ≡ source_label path e.id X) (cells n) d
      (mapped_zip (λ (e : Definition) v. l e.id ≡ v) (λ (e : Definition). source_label path e.id X) (cells n) are.1) m)))
      at_gate sound.acyclic x c)

-- ---- the label on the line of a point

differs_on : (f : Fault) (line : Line) (m : Label) → (on_line (Some f) line m).may_differ ≡ cond (is_line f.line line) (not (is_known_as f.value m.good)) m.may_differ
differs_on f line m =
    let step : (b : Bool) → (cond b (record { own = m.own; good = m.good; faulty = known f.value; may_differ = not (is_known_as f.value m.good) }) m).may_differ
    ≡ cond b (not (is_known_as f.value m.good)) m.may_differ = elim [ true ↦ refl | false ↦ refl ] in
    step (is_line f.line line)

by_line : (b x y v : Bool) → (b ≡ true → x ≡ v) → (b ≡ false → y ≡ v) → cond b x y ≡ v
by_line true x y v h k = h refl
by_line false x y v h k = k refl

all_flat : {A B : Type 0} (P : B → Type 0) (g : A → List B) (xs : List A) → All (λ x. All P (g x)) xs → All P (flat_map g xs)
all_flat P g [] h = All-nil _
all_flat P g (x ∷ xs) h = All-append P (g x) (flat_map g xs) (All-head (λ y. All P (g y)) x xs h) (all_flat P g xs (All-tail (λ y. All P (g y)) x xs h))

module _ (f : Fault) (path : Decisions) (n : Netlist) (sound : IsSound n) (l : ℕ → Label) where
  -- the one pin of a cell
  pins_all : (P : Label → Type 0) (z : ℕ) (pins : List ℕ) → length pins ≡ 1 → ((x : ℕ) → Contains pins x → P (on_line (Some f) (Pin z 0) (l x))) → All P (on_pins (labels (Some f) path) z 0 (map l pins))
  pins_all P z [] one h = absurd (omega (arith, one))
  pins_all P z (x ∷ []) one h = one_all (on_line (Some f) (Pin z 0) (l x)) (h x (0, omega arith, refl))
    where
      one_all : (m : Label) → P m → All P (m ∷ [])
      one_all m p zero d i = p
      one_all m p (suc k) d i = absurd (omega arith)
  pins_all P z (x ∷ y ∷ ys) one h = absurd (omega (arith, one))

  all_pins : (P : Label → Type 0) (z : ℕ) (pins : List ℕ) (x : ℕ) → length pins ≡ 1 → Contains pins x → All P (on_pins (labels (Some f) path) z 0 (map l pins)) → P (on_line (Some f) (Pin z 0) (l x))
  all_pins P z [] x one c h = absurd (omega (arith, one))
  all_pins P z (y ∷ []) x one c h = subst (λ v. P (on_line (Some f) (Pin z 0) (l v))) (only y x c) (All-head P (on_line (Some f) (Pin z 0) (l y)) [] h)
    where
      only : (y x : ℕ) → Contains (y ∷ []) x → y ≡ x
      only y x c = at_zero c.0 c.1 c.2
        where
          at_zero : (k : ℕ) → k < 1 → get_or (y ∷ []) k x ≡ x → y ≡ x
          at_zero zero i e = e
          at_zero (suc k) i e = absurd (omega arith)
  all_pins P z (y ∷ v ∷ vs) x one c h = absurd (omega (arith, one))

  -- what holds of the label at each observed point
  pub unobserved_from : ((x : ℕ) → Contains n.outputs x → (on_line (Some f) (Out x) (l x)).may_differ ≡ false)
      → ((d : Definition) (x : ℕ) → Contains (cells n) d → Contains d.pins x → (on_line (Some f) (Pin d.id 0) (l x)).may_differ ≡ false)
      → IsUnobserved f path n l
  unobserved_from at_outputs at_cells = record {
    outputs = All-map (λ (m : Label). m.may_differ ≡ false) (λ x. on_line (Some f) (Out x) (l x)) n.outputs
        (All-from_contains (λ x. (on_line (Some f) (Out x) (l x)).may_differ ≡ false) n.outputs at_outputs);
    cells = all_flat (λ (m : Label). m.may_differ ≡ false) (pins_of (labels (Some f) path) l) (cells n)
        (All-from_contains (λ (d : Definition). All (λ (m : Label). m.may_differ ≡ false) (pins_of (labels (Some f) path) l d)) (cells n) (λ d c.
        pins_all (λ (m : Label). m.may_differ ≡ false) d.id d.pins (All-contains (λ (e : Definition). length e.pins ≡ 1) (cells n) d (one_pin n sound.closed) c) (λ x m. at_cells d x c m)));
  }

  pub at_output : IsUnobserved f path n l → (x : ℕ) → Contains n.outputs x → (on_line (Some f) (Out x) (l x)).may_differ ≡ false
  at_output u x c = from_map n.outputs x u.outputs c
    where
      from_map : (xs : List ℕ) (x : ℕ) → All (λ (m : Label). m.may_differ ≡ false) (map (λ y. on_line (Some f) (Out y) (l y)) xs) → Contains xs x → (on_line (Some f) (Out x) (l x)).may_differ ≡ false
      from_map xs x h c = All-contains (λ y. (on_line (Some f) (Out y) (l y)).may_differ ≡ false) xs x (unmap xs h) c
        where
          unmap : (ys : List ℕ) → All (λ (m : Label). m.may_differ ≡ false) (map (λ y. on_line (Some f) (Out y) (l y)) ys) → All (λ y. (on_line (Some f) (Out y) (l y)).may_differ ≡ false) ys
          unmap [] g = All-nil _
          unmap (y ∷ ys) g = more y ys (All-head (λ (m : Label). m.may_differ ≡ false) (on_line (Some f) (Out y) (l y)) (map (λ z. on_line (Some f) (Out z) (l z)) ys) g)
              (unmap ys (All-tail (λ (m : Label). m.may_differ ≡ false) (on_line (Some f) (Out y) (l y)) (map (λ z. on_line (Some f) (Out z) (l z)) ys) g))
            where
              more : (y : ℕ) (ys : List ℕ) → (on_line (Some f) (Out y) (l y)).may_differ ≡ false → All (λ y. (on_line (Some f) (Out y) (l y)).may_differ ≡ false) ys
                  → All (λ y. (on_line (Some f) (Out y) (l y)).may_differ ≡ false) (y ∷ ys)
              more y ys a b zero d i = a
              more y ys a b (suc k) d i = b k d (omega arith)

  pub at_cell : IsUnobserved f path n l → (d : Definition) (x : ℕ) → Contains (cells n) d → Contains d.pins x → (on_line (Some f) (Pin d.id 0) (l x)).may_differ ≡ false
  at_cell u d x c m =
      all_pins (λ (k : Label). k.may_differ ≡ false) d.id d.pins x (All-contains (λ (e : Definition). length e.pins ≡ 1) (cells n) d (one_pin n sound.closed) c) m
      (All-contains (λ (e : Definition). All (λ (k : Label). k.may_differ ≡ false) (pins_of (labels (Some f) path) l e)) (cells n) d
      (all_flat_map (λ (k : Label). k.may_differ ≡ false) (pins_of (labels (Some f) path) l) (cells n) u.cells) c)

-- ---- a line that no point reads: the signals that are observed are counted

module _ (f : Fault) (path : Decisions) (n : Netlist) (sound : IsSound n) (marks : List Bool) (values : List Label) (size : length values ≡ length (signals n))
    (seen : AreObserved n marks) (x : ℕ) (inner : IsInner n f.line x) where
  same_at : (y : ℕ) → count_pairs shows marks values ≡ 0 → Contains (signals n) y → get_or marks y false ≡ true → (at values no_label y).may_differ ≡ false
  same_at y none c mark =
      let low : y < length (signals n) = signal_below n sound.formed.numbered y c in
      let zero : shows (get_or marks y false) (at values no_label y) ≡ false =
      count_none shows marks values y false no_label none (let e = seen.size in omega arith) (omega arith) in
      subst (λ b. shows b (at values no_label y) ≡ false) mark zero

  pub none_seen : count_pairs shows marks values ≡ 0 → IsUnobserved f path n (at values no_label)
  none_seen none = unobserved_from f path n sound (at values no_label)
      (λ y c. differs_on f (Out y) (at values no_label y)
      ∙ by_line (is_line f.line (Out y)) _ _ false (λ h. absurd (both_ways (is_line f.line (Out y)) (inner.outputs y) h))
      (λ h. same_at y none (All-contains (Contains (signals n)) n.outputs y sound.closed.outputs c) (All-contains (λ z. get_or marks z false ≡ true) n.outputs y seen.outputs c)))
      (λ d y c m. differs_on f (Pin d.id 0) (at values no_label y)
      ∙ by_line (is_line f.line (Pin d.id 0)) _ _ false (λ h. absurd (both_ways (is_line f.line (Pin d.id 0)) (inner.pins d c) h))
      (λ h. same_at y none
      (All-contains (Contains (signals n)) d.pins y (All-contains (λ (e : Definition). All (Contains (signals n)) e.pins) n.definitions d sound.closed.pins (contains_filter is_cell n.definitions d c).0) m)
      (All-contains (λ z. get_or marks z false ≡ true) d.pins y (All-contains (λ (e : Definition). All (λ z. get_or marks z false ≡ true) e.pins) (cells n) d seen.pins c) m)))

  pub some_seen : 0 < count_pairs shows marks values → IsUnobserved f path n (at values no_label) → ⊥
  some_seen some u =
      let w = count_some shows marks values false no_label some in
      let y = w.0 in
      let both = and_parts (get_or marks y false) (at values no_label y).may_differ w.3 in
      elim (seen.only y both.0) [
        | inl out ↦ both_ways (at values no_label y).may_differ (sym (off (Out y) (inner.outputs y) (at values no_label y)) ∙ at_output f path n sound (at values no_label) u y out) both.1
        | inr pin ↦ both_ways (at values no_label y).may_differ
            (sym (off (Pin pin.0.id 0) (inner.pins pin.0 pin.1) (at values no_label y)) ∙ at_cell f path n sound (at values no_label) u pin.0 y pin.1 pin.2) both.1
      ]
    where
      off : (line : Line) → is_line f.line line ≡ false → (m : Label) → (on_line (Some f) line m).may_differ ≡ m.may_differ
      off line h m = differs_on f line m ∙ ap (λ b. cond b (not (is_known_as f.value m.good)) m.may_differ) h

-- ---- a line that a point reads: it alone may differ

module _ (f : Fault) (path : Decisions) (n : Netlist) (sound : IsSound n) (l : ℕ → Label) (same : (y : ℕ) → Contains (signals n) y → (l y).may_differ ≡ false)
    (x : ℕ) (read : IsPointLine n f.line x) where
  pub known_unseen : is_known_as f.value (l x).good ≡ true → IsUnobserved f path n l
  known_unseen is = unobserved_from f path n sound l
      (λ y c. differs_on f (Out y) (l y)
      ∙ by_line (is_line f.line (Out y)) _ _ false (λ h. ap not (ap (λ z. is_known_as f.value (l z).good) (read.outputs y h) ∙ is))
      (λ h. same y (All-contains (Contains (signals n)) n.outputs y sound.closed.outputs c)))
      (λ d y c m. differs_on f (Pin d.id 0) (l y)
      ∙ by_line (is_line f.line (Pin d.id 0)) _ _ false
      (λ h. ap not (ap (λ z. is_known_as f.value (l z).good) (All-contains (λ z. z ≡ x) d.pins y (read.pins d c h) m) ∙ is))
      (λ h. same y (All-contains (Contains (signals n)) d.pins y (All-contains (λ (e : Definition). All (Contains (signals n)) e.pins) n.definitions d sound.closed.pins (contains_filter is_cell n.definitions d c).0) m)))

  pub unknown_seen : is_known_as f.value (l x).good ≡ false → IsUnobserved f path n l → ⊥
  unknown_seen is u = elim read.point [
    | inl out ↦ differs (Out x) out.1 (at_output f path n sound l u x out.0)
    | inr pin ↦ differs (Pin pin.0.id 0) pin.3 (at_cell f path n sound l u pin.0 x pin.1 pin.2)
  ]
    where
      differs : (line : Line) → is_line f.line line ≡ true → (on_line (Some f) line (l x)).may_differ ≡ false → ⊥
      differs line h e =
          both_ways (not (is_known_as f.value (l x).good)) (sym (differs_on f line (l x) ∙ ap (λ b. cond b (not (is_known_as f.value (l x).good)) (l x).may_differ) h) ∙ e) (ap not is)
