-- The labels and the bits of a batch are those of the two frames of each of its slow lines.
use Rattle.std.proofs.Common.{◌≡◌, ℕ, ◌+◌, ◌*◌, ◌<◌, ◌≤◌, Bool, false, not, cond, List, [], ◌∷◌, map, length, get_or, Option, Some, None, refl, sym, ◌∙◌, ap, subst, inl, inr, arith}
use Rattle.std.specs.List.{All, AllPairs, AllZip, Contains, list_any, slice_get}
use Rattle.std.proofs.lemmas.Bool.{cases_lt}
use Rattle.std.proofs.lemmas.List.Elements.{All-contains}
use Rattle.std.proofs.lemmas.Option.{none-some, slice_get_within, get_or_from_slice_get}
use Rattle.statement.specs.declared.kinds.Kind.{Kind}
use Rattle.statement.specs.declared.kinds.Tri.{Tri}
use Rattle.statement.specs.declared.kinds.Tri.TheVariants.{X}
use Rattle.statement.specs.declared.lines.Line.{Line}
use Rattle.statement.specs.declared.lines.Line.TheVariants.{Stem}
use Rattle.statement.specs.declared.lines.Fault.{Fault}
use Rattle.statement.specs.declared.lines.Point.{Point}
use Rattle.statement.specs.declared.lines.Point.TheVariants.{Output, Cell}
use Rattle.statement.specs.Netlists.{Definition, Netlist, is_cell, cells, signals}
use Rattle.netlist.specs.Netlist.{is_gate, define}
use Rattle.netlist.specs.Conditions.{IsSound}
use Rattle.netlist.specs.Designs.{IsDesign}
use Rattle.statement.specs.Values.{gate_bit, Rule, Settles, is_line, stuck, bits, outs, next, known}
use Rattle.netlist.specs.Lines.{IsLineOf}
use Rattle.statement.specs.Patterns.{Holds, Detects, observed}
use Rattle.netlist.proofs.Lists.{All-from_contains, contains_filter, map_map, map_agree}
use Rattle.netlist.proofs.Placed.{signal_below, signal_from, signal_cases}
use Rattle.tri.specs.declared.labels.Label.{Label}
use Rattle.tri.specs.Gates.{gate_tri}
use Rattle.tri.specs.Labels.{Decisions, labels, source_label, held_value, input_labels, cell_labels, AreLabels, IsContradicted, IsUnobserved}
use Rattle.tri.proofs.LabelLemmas.{mapped_zip}
use Rattle.transition_frames.specs.Frames.{source_of, second, tie, in_first, frames_of, frame_fault}
use Rattle.transition_frames.proofs.Framed.{cells_framed, first_id, second_input, second_defined, inputs_low}
use Rattle.transition_frames.proofs.Numbered.{frames_count, frames_numbered}
use Rattle.transition_frames.proofs.Sources.{same_line, source_is_signal}
use Rattle.transition_batches.specs.Batches.{tie_at, hold_at, late_at, in_first_of, batch_of, batch_fault, AreApart}
use Rattle.transition_batches.proofs.Places.{to_batch, to_batch_below, to_batch_from, cells_batched, first_of_id, batch_signal}
use Rattle.transition_batches.proofs.Passing.{IsAlike, IsReduced, itself, goods_alike, faults_alike, differing_alike, quiet_alike, alike_quiet, label_of_alike, label_of_reduced, passes_bit, tie_firm, hold_firm, late_alike, line_clear, stuck_line, firm}
use Rattle.transition_batches.proofs.Within.{input_value, again_value, taken_value, other_tie, hold_value, late_value, frames_settle, outs_alike, next_alike}

zip_equal : {X : Type 0} (xs ys : List X) → AllZip (λ x y. x ≡ y) xs ys → xs ≡ ys
zip_equal [] [] h = refl
zip_equal [] (y ∷ ys) h = absurd h
zip_equal (x ∷ xs) [] h = absurd h
zip_equal (x ∷ xs) (y ∷ ys) h = ap (λ z. z ∷ xs) h.0 ∙ ap (λ zs. y ∷ zs) (zip_equal xs ys h.1)

module _ (n : Netlist) (sound : IsSound n) (design : IsDesign n) (fs : List Fault) (valid : All (λ (g : Fault). IsLineOf n g.line) fs)
    (apart : AllPairs (AreApart n) fs) (whole : IsSound (batch_of n fs)) (j : ℕ) (f : Fault) (here : slice_get fs j ≡ Some f) where
  valid_at : (i : ℕ) (g : Fault) → slice_get fs i ≡ Some g → IsLineOf n g.line
  valid_at i g e = subst (λ (h : Fault). IsLineOf n h.line) (get_or_from_slice_get fs i g g e) (valid i g (slice_get_within fs i g e))

  source_low : (i : ℕ) (g : Fault) → slice_get fs i ≡ Some g → source_of n g.line < length (signals n)
  source_low i g e = signal_below n sound.formed.numbered (source_of n g.line) (source_is_signal n sound.formed.numbered sound.closed g.line (valid_at i g e))

  -- ---- labels, under decisions on signals of the two frames

  module _ (path : Decisions) (low : (x : ℕ) → tie n ≤ x → path x ≡ None) where
    abbrev in_batch : Rule Label
    in_batch = labels (Some (batch_fault n j f)) path

    abbrev in_frames : Rule Label
    in_frames = labels (Some (frame_fault n f)) path

    path_alike : (z y : ℕ) → to_batch n j z ≡ y → path y ≡ path z
    path_alike z y e = elim (cases_lt z (tie n)) [
      | inl l ↦ ap path (sym e ∙ to_batch_below n j z l)
      | inr h ↦ let p : y ≡ z + 3 * j = sym e ∙ to_batch_from n j z h in low y (omega arith) ∙ sym (low z h)
    ]

    gate_alike : (z y : ℕ) (kind : Kind) (ps qs : List ℕ) (vs ws : List Label) → to_batch n j z ≡ y → AllZip IsAlike vs ws
        → in_batch.gate (define y kind ps) vs ≡ in_frames.gate (define z kind qs) ws
    gate_alike z y kind ps qs vs ws place h =
        label_of_alike (path y) (path z) (gate_tri kind (map (λ (l : Label). l.good) vs)) (gate_tri kind (map (λ (l : Label). l.good) ws))
        (gate_tri kind (map (λ (l : Label). l.faulty) vs)) (gate_tri kind (map (λ (l : Label). l.faulty) ws))
        (list_any (λ (l : Label). l.may_differ) vs) (list_any (λ (l : Label). l.may_differ) ws)
        (path_alike z y place) (ap (gate_tri kind) (goods_alike vs ws h)) (ap (gate_tri kind) (faults_alike vs ws h)) (differing_alike vs ws h)

    stem_alike : (l : Label) → in_batch.line (Stem (tie_at n j)) l ≡ in_frames.line (Stem (tie n)) l
    stem_alike l = stuck_line (batch_fault n j f) l ∙ sym (stuck_line (frame_fault n f) l)

    sources_alike : cell_labels path (batch_of n fs) ≡ cell_labels path (frames_of n f)
    sources_alike =
        let given : Definition → Label = λ (d : Definition). source_label path d.id X in
        ap (map given) (cells_batched n fs)
        ∙ (map_map (in_first_of n fs) given (cells n)
        ∙ (map_agree (λ (d : Definition). given (in_first_of n fs d)) (λ (d : Definition). given (in_first n f d)) (cells n)
        (All-from_contains (λ (d : Definition). given (in_first_of n fs d) ≡ given (in_first n f d)) (cells n)
        (λ d c. ap (λ x. source_label path x X) (first_of_id n fs d ∙ sym (first_id n f d))))
        ∙ (sym (map_map (in_first n f) given (cells n)) ∙ ap (map given) (sym (cells_framed n f)))))

    module _ (holds : Holds) (l : ℕ → Label) (r : AreLabels (Some (batch_fault n j f)) path (batch_of n fs) holds l) where
      abbrev given : List Label
      given = input_labels path (batch_of n fs) holds

      abbrev state : List Label
      state = cell_labels path (batch_of n fs)

      -- no fault stands on the signals of the second frame
      second_reduced : (x : ℕ) → x < length (signals n) → IsReduced (l (second n x))
      second_reduced x small = elim (signal_cases n sound.formed.numbered x small) [
        | inl i ↦
            let own : Tri = held_value (get_or holds x None) in
            let e : l x ≡ in_batch.line (Stem x) (source_label path x own) =
            All-contains (λ y. l y ≡ in_batch.line (Stem y) (source_label path y (held_value (get_or holds y None)))) n.inputs x
            (mapped_zip (λ y v. l y ≡ in_batch.line (Stem y) v) (λ y. source_label path y (held_value (get_or holds y None))) n.inputs r.0) i in
            let is : l x ≡ source_label path x own =
            input_value in_batch n sound.formed.numbered fs j (line_clear (batch_fault n j f)) given state l r x (source_label path x own) i e in
            subst IsReduced (sym (ap l (second_input n x (inputs_low n sound.formed.numbered x i)) ∙ is)) (label_of_reduced (path x) own X false)
        | inr s ↦ elim s [
          | inl q ↦
              let place : second n x ≡ q.0.id + length n.definitions = ap (second n) (sym q.2) ∙ second_defined n sound.formed.numbered q.0 (contains_filter is_cell n.definitions q.0 q.1).0 in
              subst IsReduced (sym (ap l place ∙ taken_value in_batch n sound.formed.numbered fs j (line_clear (batch_fault n j f)) given state l r q.0 q.1)) (label_of_reduced _ _ _ _)
          | inr g ↦
              let place : second n x ≡ g.0.id + length n.definitions = ap (second n) (sym g.2) ∙ second_defined n sound.formed.numbered g.0 (contains_filter is_gate n.definitions g.0 g.1).0 in
              subst IsReduced (sym (ap l place ∙ again_value in_batch n sound.formed.numbered fs j (line_clear (batch_fault n j f)) given state l r g.0 g.1)) (label_of_reduced _ _ _ _)
        ]
      ]

      passes_label : (i : ℕ) (g : Fault) → slice_get fs i ≡ Some g → (i ≡ j → ⊥) → IsAlike (l (late_at n i)) (l (second n (source_of n g.line)))
      passes_label i g e other =
          let x = source_of n g.line in
          let tied : l (tie_at n i) ≡ firm (not g.value) =
          other_tie in_batch n sound.formed.numbered fs j (line_clear (batch_fault n j f)) given state l r i g e other
          ∙ tie_firm g.value (path (tie_at n i)) (low (tie_at n i) (omega arith)) in
          let held : l (hold_at n i) ≡ firm (not g.value) =
          hold_value in_batch n sound.formed.numbered fs j (line_clear (batch_fault n j f)) given state l r i g e
          ∙ hold_firm g.value (path (hold_at n i)) (low (hold_at n i) (omega arith)) (l x) (l (tie_at n i)) tied in
          subst (λ (m : Label). IsAlike m (l (second n x))) (sym (late_value in_batch n sound.formed.numbered fs j (line_clear (batch_fault n j f)) given state l r i g e))
          (late_alike g.value (path (late_at n i)) (low (late_at n i) (omega arith)) (l (second n x)) (l (hold_at n i)) held (second_reduced x (source_low i g e)))

      labels_settle : Settles in_frames (frames_of n f) given state (λ x. l (to_batch n j x))
      labels_settle = frames_settle in_batch in_frames IsAlike itself n sound.formed.numbered sound.closed fs apart j f here (valid_at j f here)
          (line_clear (batch_fault n j f)) (line_clear (frame_fault n f)) stem_alike gate_alike given state l r passes_label

      labels_out : AllZip IsAlike (outs in_batch (batch_of n fs) l) (outs in_frames (frames_of n f) (λ x. l (to_batch n j x)))
      labels_out = outs_alike in_batch in_frames IsAlike itself n sound.formed.numbered sound.closed fs apart j f here (valid_at j f here)
          (line_clear (batch_fault n j f)) (line_clear (frame_fault n f)) stem_alike gate_alike given state l r passes_label

      labels_next : AllZip IsAlike (next in_batch (batch_of n fs) l) (next in_frames (frames_of n f) (λ x. l (to_batch n j x)))
      labels_next = next_alike in_batch in_frames IsAlike itself n sound.formed.numbered sound.closed fs apart j f here (valid_at j f here)
          (line_clear (batch_fault n j f)) (line_clear (frame_fault n f)) stem_alike gate_alike given state l r passes_label

      pub pulled_labels : AreLabels (Some (frame_fault n f)) path (frames_of n f) holds (λ x. l (to_batch n j x))
      pulled_labels = subst (λ (st : List Label). Settles in_frames (frames_of n f) (input_labels path (frames_of n f) holds) st (λ x. l (to_batch n j x))) sources_alike labels_settle

      pub pulled_unobserved : IsUnobserved (batch_fault n j f) path (batch_of n fs) l → IsUnobserved (frame_fault n f) path (frames_of n f) (λ x. l (to_batch n j x))
      pulled_unobserved u = record {
        outputs = quiet_alike (outs in_batch (batch_of n fs) l) (outs in_frames (frames_of n f) (λ x. l (to_batch n j x))) labels_out u.outputs;
        cells = quiet_alike (next in_batch (batch_of n fs) l) (next in_frames (frames_of n f) (λ x. l (to_batch n j x))) labels_next u.cells;
      }

      pub pushed_unobserved : IsUnobserved (frame_fault n f) path (frames_of n f) (λ x. l (to_batch n j x)) → IsUnobserved (batch_fault n j f) path (batch_of n fs) l
      pushed_unobserved u = record {
        outputs = alike_quiet (outs in_batch (batch_of n fs) l) (outs in_frames (frames_of n f) (λ x. l (to_batch n j x))) labels_out u.outputs;
        cells = alike_quiet (next in_batch (batch_of n fs) l) (next in_frames (frames_of n f) (λ x. l (to_batch n j x))) labels_next u.cells;
      }

    -- what is decided is a signal of the two frames
    decided_low : (x : ℕ) (b : Bool) → path x ≡ Some b → x < tie n
    decided_low x b e = elim (cases_lt x (tie n)) [ inl l ↦ l | inr h ↦ absurd (none-some b (sym (low x h) ∙ e)) ]

    pub pulled_contradiction : (l : ℕ → Label) → IsContradicted path (batch_of n fs) l → IsContradicted path (frames_of n f) (λ x. l (to_batch n j x))
    pulled_contradiction l c =
        let w = c.2 in
        let small : c.0 < tie n = decided_low c.0 w.0 w.1 in
        let there : Contains (signals (frames_of n f)) c.0 =
        signal_from (frames_of n f) (frames_numbered n sound.formed.numbered f) c.0 (let e = frames_count n f in omega arith) in
        (c.0, there, (w.0, w.1, subst (λ y. (l y).own ≡ known (not w.0)) (sym (to_batch_below n j c.0 small)) w.2))

    pub pushed_contradiction : (l : ℕ → Label) → IsContradicted path (frames_of n f) (λ x. l (to_batch n j x)) → IsContradicted path (batch_of n fs) l
    pushed_contradiction l c =
        let w = c.2 in
        let small : c.0 < tie n = decided_low c.0 w.0 w.1 in
        (c.0, batch_signal n fs whole.formed.numbered c.0 small, (w.0, w.1, subst (λ y. (l y).own ≡ known (not w.0)) (to_batch_below n j c.0 small) w.2))

  -- ---- bits

  -- under these two faults, or none, which stand on the tie alone if anywhere
  module _ (p q : Option Fault) (clear : (l : Line) → is_line (Stem (tie_at n j)) l ≡ false → (v : Bool) → stuck (λ b. b) p l v ≡ v)
      (plain : (l : Line) → is_line (Stem (tie n)) l ≡ false → (v : Bool) → stuck (λ b. b) q l v ≡ v)
      (stem : (v : Bool) → stuck (λ b. b) p (Stem (tie_at n j)) v ≡ stuck (λ b. b) q (Stem (tie n)) v)
      (inputs state : List Bool) (a : ℕ → Bool) (r : Settles (bits p) (batch_of n fs) inputs state a) where
    bits_alike : (z y : ℕ) (kind : Kind) (ps qs : List ℕ) (vs ws : List Bool) → to_batch n j z ≡ y → AllZip (λ v w. v ≡ w) vs ws → gate_bit kind vs ≡ gate_bit kind ws
    bits_alike z y kind ps qs vs ws place h = ap (gate_bit kind) (zip_equal vs ws h)

    bit_passes : (i : ℕ) (g : Fault) → slice_get fs i ≡ Some g → (i ≡ j → ⊥) → a (late_at n i) ≡ a (second n (source_of n g.line))
    bit_passes i g e other =
        late_value (bits p) n sound.formed.numbered fs j clear inputs state a r i g e
        ∙ passes_bit g.value (a (source_of n g.line)) (a (second n (source_of n g.line))) (a (tie_at n i)) (a (hold_at n i))
        (other_tie (bits p) n sound.formed.numbered fs j clear inputs state a r i g e other)
        (hold_value (bits p) n sound.formed.numbered fs j clear inputs state a r i g e)

    bits_settle : Settles (bits q) (frames_of n f) inputs state (λ x. a (to_batch n j x))
    bits_settle = frames_settle (bits p) (bits q) (λ v w. v ≡ w) (λ v. refl) n sound.formed.numbered sound.closed fs apart j f here (valid_at j f here)
        clear plain stem bits_alike inputs state a r bit_passes

    bits_observed : (point : Point) → observed (bits p) (batch_of n fs) a point ≡ observed (bits q) (frames_of n f) (λ x. a (to_batch n j x)) point
    bits_observed (Output k) =
        ap (λ vs. slice_get vs k) (zip_equal (outs (bits p) (batch_of n fs) a) (outs (bits q) (frames_of n f) (λ x. a (to_batch n j x)))
        (outs_alike (bits p) (bits q) (λ v w. v ≡ w) (λ v. refl) n sound.formed.numbered sound.closed fs apart j f here (valid_at j f here)
        clear plain stem bits_alike inputs state a r bit_passes))
    bits_observed (Cell k) =
        ap (λ vs. slice_get vs k) (zip_equal (next (bits p) (batch_of n fs) a) (next (bits q) (frames_of n f) (λ x. a (to_batch n j x)))
        (next_alike (bits p) (bits q) (λ v w. v ≡ w) (λ v. refl) n sound.formed.numbered sound.closed fs apart j f here (valid_at j f here)
        clear plain stem bits_alike inputs state a r bit_passes))

  bit_clear : (g : Fault) (l : Line) → is_line g.line l ≡ false → (v : Bool) → stuck (λ b. b) (Some g) l v ≡ v
  bit_clear g l e v = ap (λ b. cond b g.value v) e

  bit_stuck : (g : Fault) (v : Bool) → stuck (λ b. b) (Some g) g.line v ≡ g.value
  bit_stuck g v = ap (λ b. cond b g.value v) (same_line g.line)

  bit_stem : (v : Bool) → stuck (λ b. b) (Some (batch_fault n j f)) (Stem (tie_at n j)) v ≡ stuck (λ b. b) (Some (frame_fault n f)) (Stem (tie n)) v
  bit_stem v = bit_stuck (batch_fault n j f) v ∙ sym (bit_stuck (frame_fault n f) v)

  pub pulled_detects : (inputs state : List Bool) (point : Point) → Detects (batch_of n fs) (batch_fault n j f) inputs state point
      → Detects (frames_of n f) (frame_fault n f) inputs state point
  pulled_detects inputs state point d =
      let p = batch_fault n j f in
      let q = frame_fault n f in
      let good = bits_observed None None (λ l e v. refl) (λ l e v. refl) (λ v. refl) inputs state d.good d.good_settles point in
      let faulty = bits_observed (Some p) (Some q) (bit_clear p) (bit_clear q) bit_stem inputs state d.faulty d.faulty_settles point in
      record {
        good = λ x. d.good (to_batch n j x);
        faulty = λ x. d.faulty (to_batch n j x);
        good_settles = bits_settle None None (λ l e v. refl) (λ l e v. refl) (λ v. refl) inputs state d.good d.good_settles;
        faulty_settles = bits_settle (Some p) (Some q) (bit_clear p) (bit_clear q) bit_stem inputs state d.faulty d.faulty_settles;
        differs = λ same. d.differs (good ∙ (same ∙ sym faulty));
      }
