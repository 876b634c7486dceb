-- What three-valued play shows on the opened netlist allows what the netlist shows, whatever the unknown inputs have.
use Rattle.std.proofs.Common.{◌≡◌, ℕ, ◌+◌, Bool, true, false, cond, List, [], ◌∷◌, ◌++◌, map, length, replicate, Option, Some, None, refl, sym, ◌∙◌, ap, subst, arith, eqb, length-append}
use Rattle.std.specs.List.{All, AllZip, Contains, flat_map}
use Rattle.std.proofs.lemmas.Bool.{and_left, ne_eqb}
use Rattle.std.proofs.lemmas.List.{length-map, replicate-append-replicate}
use Rattle.statement.specs.declared.kinds.Tri.{Tri}
use Rattle.statement.specs.declared.kinds.Tri.TheVariants.{X}
use Rattle.statement.specs.declared.lines.Line.{Line}
use Rattle.statement.specs.declared.lines.Line.TheVariants.{Stem, Pin, Out}
use Rattle.statement.specs.declared.lines.Fault.{Fault}
use Rattle.statement.specs.Netlists.{Definition, Netlist, cells, gates}
use Rattle.statement.specs.Values.{Settles, is_line, stuck, bits, bit_table, outs, next, pins_of, known, allows}
use Rattle.statement.specs.Runs.{Cycle, Ticks, Runs}
use Rattle.netlist.specs.Conditions.{IsClosed, IsNumbered}
use Rattle.netlist.specs.Netlist.{IsAcyclic}
use Rattle.netlist.specs.Lines.{IsLineOf, IsFaultOf}
use Rattle.netlist.specs.ThreeValues.{AreAllowed}
use Rattle.netlist.proofs.Alike.{outs_alike, next_alike}
use Rattle.netlist.proofs.Orders.{input_low, definition_high}
use Rattle.tri.specs.Settled.{tri_table, tris}
use Rattle.tri.proofs.AboveBits.{keeps_allowed}
use Rattle.scan_play.specs.Playing.{PlayRuns}
use Rattle.scan_play.proofs.Shifting.{zip_length}
use Rattle.scan_play.proofs.RunLaws.{xs_allow}
use Rattle.unknown_inputs.specs.Unknowns.{Unknowns, known_part, unknown_part, IsFilled}
use Rattle.unknown_inputs.specs.Opened.{opened_number, fault_opened, reads_itself, definition_by, opened}
use Rattle.unknown_inputs.specs.Laws.{OpenedAllows}
use Rattle.unknown_inputs.proofs.KnownParts.{unknown_member, merged, zip_merged, merged_allowed}
use Rattle.unknown_inputs.proofs.Numbers.{opened_one_to_one}
use Rattle.unknown_inputs.proofs.Moved.{cells_by, gates_by, same_line, sources_by, cells_settle, themselves_settle, gates_settle, outs_by, next_by}

-- ---- lists

zip_front : {X Y : Type 0} (R : X → Y → Type 0) (xs xs' : List X) (ys ys' : List Y) → length xs ≡ length ys → AllZip R (xs ++ xs') (ys ++ ys') → AllZip R xs ys × AllZip R xs' ys'
zip_front R [] xs' [] ys' e h = (tt, h)
zip_front R [] xs' (y ∷ ys) ys' e h = absurd (omega (arith, e))
zip_front R (x ∷ xs) xs' [] ys' e h = absurd (omega (arith, e))
zip_front R (x ∷ xs) xs' (y ∷ ys) ys' e h = let r = zip_front R xs xs' ys ys' (omega (arith, e)) h.1 in ((h.0, r.0), r.1)

cond_append : {V : Type 0} (b : Bool) (xs xs' ys ys' : List V) → cond b (xs ++ xs') (ys ++ ys') ≡ cond b xs ys ++ cond b xs' ys'
cond_append true xs xs' ys ys' = refl
cond_append false xs xs' ys ys' = refl

cond_allowed : (b : Bool) (vs ws : List Tri) (cs ds : List Bool) → AreAllowed vs cs → AreAllowed ws ds → AreAllowed (cond b vs ws) (cond b cs ds)
cond_allowed true vs ws cs ds h k = h
cond_allowed false vs ws cs ds h k = k

-- ---- what a stem makes of what its cell holds is what it makes of X

stuck_twice : (f : Option Fault) (l : Line) (v : Tri) → stuck known f l (stuck known f l v) ≡ stuck known f l v
stuck_twice None l v = refl
stuck_twice (Some f) l v =
    let step : (b : Bool) → cond b (known f.value) (cond b (known f.value) v) ≡ cond b (known f.value) v = elim [ true ↦ refl | false ↦ refl ] in
    step (is_line f.line l)

abbrev AreIdle : Option Fault → List ℕ → List Tri → Type 0
AreIdle f xs vs = AllZip (λ x v. stuck known f (Stem x) v ≡ stuck known f (Stem x) X) xs vs

idle_at_first : (f : Option Fault) (xs : List ℕ) → AreIdle f xs (replicate (length xs) X)
idle_at_first f [] = tt
idle_at_first f (x ∷ xs) = (refl, idle_at_first f xs)

-- what is driven there
idle_driven : (f : Option Fault) (t : ℕ → Tri) (xs : List ℕ) (vs : List Tri) → AreIdle f xs vs → AllZip (λ x v. t x ≡ stuck known f (Stem x) v) xs vs
    → AllZip (λ x (v : Tri). t x ≡ stuck known f (Stem x) X) xs vs
idle_driven f t [] [] i h = tt
idle_driven f t [] (v ∷ vs) i h = absurd h
idle_driven f t (x ∷ xs) [] i h = absurd h
idle_driven f t (x ∷ xs) (v ∷ vs) i h = (h.0 ∙ i.0, idle_driven f t xs vs i.1 h.1)

idle_next : (f : Option Fault) (t : ℕ → Tri) (xs : List ℕ) (vs : List Tri) → AllZip (λ x (v : Tri). t x ≡ stuck known f (Stem x) X) xs vs → AreIdle f xs (map t xs)
idle_next f t [] vs h = tt
idle_next f t (x ∷ xs) [] h = absurd h
idle_next f t (x ∷ xs) (v ∷ vs) h = (ap (stuck known f (Stem x)) h.0 ∙ stuck_twice f (Stem x) X, idle_next f t xs vs h.1)

cond_idle : (f : Option Fault) (b : Bool) (xs : List ℕ) (vs ws : List Tri) → AreIdle f xs vs → AreIdle f xs ws → AreIdle f xs (cond b vs ws)
cond_idle f true xs vs ws h k = h
cond_idle f false xs vs ws h k = k

-- ---- one cycle, and a run

module _ (n : Netlist) (unknown : Unknowns) (f : Option Fault) (numbered : IsNumbered n) (closed : IsClosed n) (acyclic : IsAcyclic n) (valid : IsFaultOf n f) where
  -- no fault of the netlist stands on the pin of an input
  pin_apart : (l : Line) → IsLineOf n l → (x : ℕ) → Contains n.inputs x → is_line l (Pin x 0) ≡ false
  pin_apart (Stem y) v x c = refl
  pin_apart (Out y) v x c = refl
  pin_apart (Pin z k) v x c =
      and_left (eqb z x) (eqb k 0) (ne_eqb z x (λ e.
      let low = input_low n numbered x c in
      let high = definition_high n numbered v.0 v.1 in
      let same : v.0.id ≡ z = v.2 in
      omega arith))

  free_pin : (g : Option Fault) → IsFaultOf n g → (x : ℕ) → Contains n.inputs x → (v : Tri) → stuck known (fault_opened n unknown g) (Pin (opened_number n unknown x) 0) v ≡ v
  free_pin None h x c v = refl
  free_pin (Some g) h x c v =
      ap (λ t. cond t (known g.value) v) (same_line (opened_number n unknown) (opened_one_to_one n unknown) g.line (Pin x 0) ∙ pin_apart g.line (h g refl) x c)

  -- the values by the netlist's own numbers
  abbrev own : (ℕ → Tri) → ℕ → Tri
  own b x = b (opened_number n unknown x)

  pub cells_opened : cells (opened n unknown) ≡ map reads_itself (map (opened_number n unknown) (unknown_part unknown n.inputs)) ++ map (definition_by (opened_number n unknown)) (cells n)
  cells_opened = cells_by (opened_number n unknown) (map (opened_number n unknown) (unknown_part unknown n.inputs)) n.definitions

  module _ (us st : List Tri) (drive : List Bool) (b : ℕ → Tri) (idle : AreIdle f (unknown_part unknown n.inputs) us)
      (settles : Settles (tris (fault_opened n unknown f)) (opened n unknown) (map known drive) (us ++ st) b) where
    state_parts : AllZip (λ x v. own b x ≡ stuck known f (Stem x) v) (unknown_part unknown n.inputs) us × AllZip (λ (d : Definition) v. own b d.id ≡ stuck known f (Stem d.id) v) (cells n) st
    state_parts =
        let r = opened_number n unknown in
        let inj = opened_one_to_one n unknown in
        let xs = unknown_part unknown n.inputs in
        let R : Definition → Tri → Type 0 = λ d v. b d.id ≡ stuck known (fault_opened n unknown f) (Stem d.id) v in
        let long : length (map reads_itself (map r xs)) ≡ length us = length-map (map r xs) reads_itself ∙ (length-map xs r ∙ zip_length _ xs us idle) in
        let parts = zip_front R (map reads_itself (map r xs)) (map (definition_by r) (cells n)) us st long
        (subst (λ (cs : List Definition). AllZip R cs (us ++ st)) cells_opened settles.1) in
        (themselves_settle r inj tri_table f b xs us parts.0, cells_settle r inj tri_table f b (cells n) st parts.1)

    unknown_driven : AllZip (λ x (v : Tri). own b x ≡ stuck known f (Stem x) X) (unknown_part unknown n.inputs) us
    unknown_driven = idle_driven f (own b) (unknown_part unknown n.inputs) us idle state_parts.0

    -- the same values settle on the netlist with X at the unknown inputs
    own_settles : Settles (tris f) n (merged X unknown n.inputs (map known drive)) st (own b)
    own_settles =
        let r = opened_number n unknown in
        let inj = opened_one_to_one n unknown in
        let P : Definition → Type 0 = λ d. b d.id ≡ stuck known (fault_opened n unknown f) (Stem d.id) (tri_table.gate d.kind (pins_of (tris (fault_opened n unknown f)) b d)) in (
          zip_merged (λ x v. own b x ≡ stuck known f (Stem x) v) X unknown n.inputs (map known drive) us
              (sources_by r inj tri_table f b (known_part unknown n.inputs) (map known drive) settles.0) unknown_driven,
          state_parts.1,
          gates_settle r inj tri_table f b (gates n)
              (subst (λ (gs : List Definition). All P gs) (gates_by r (map r (unknown_part unknown n.inputs)) n.definitions) settles.2),
        )

    own_outs : outs (tris (fault_opened n unknown f)) (opened n unknown) b ≡ outs (tris f) n (own b)
    own_outs = outs_by (opened_number n unknown) (opened_one_to_one n unknown) tri_table f b n.outputs

    own_next : next (tris (fault_opened n unknown f)) (opened n unknown) b ≡ map (own b) (unknown_part unknown n.inputs) ++ next (tris f) n (own b)
    own_next =
        ap (flat_map (pins_of (tris (fault_opened n unknown f)) b)) cells_opened
        ∙ next_by (opened_number n unknown) (opened_one_to_one n unknown) tri_table f b (unknown_part unknown n.inputs) (cells n)
        (λ x c. free_pin f valid x (unknown_member unknown n.inputs x c))

  -- what a cycle leaves
  abbrev IsLeft : List Tri → List Bool → Type 0
  IsLeft after bit_after =
      (us : List Tri) × (st : List Tri) × (after ≡ us ++ st) × AreIdle f (unknown_part unknown n.inputs) us × AreAllowed st bit_after

  tick_opened : (us st : List Tri) (bit_state : List Bool) (cycle whole : Cycle) (shown after : List Tri) (bit_shown bit_after : List Bool)
      → AreIdle f (unknown_part unknown n.inputs) us → AreAllowed st bit_state → IsFilled unknown cycle whole
      → Ticks tri_table (fault_opened n unknown f) (opened n unknown) (us ++ st) cycle shown after → Ticks bit_table f n bit_state whole bit_shown bit_after
      → AreAllowed shown bit_shown × IsLeft after bit_after
  tick_opened us st bit_state cycle whole shown after bit_shown bit_after idle h filled t u =
      let xs = unknown_part unknown n.inputs in
      let a = own t.values in
      let ins = merged X unknown n.inputs (map known cycle.drive) in
      let bit_ins : List Bool = map (λ c. c) whole.drive in
      let keeps = keeps_allowed f n in
      let wide : length n.inputs ≡ length whole.drive = zip_length _ n.inputs bit_ins u.settles.0 ∙ length-map whole.drive (λ c. c) in
      let driven : AreAllowed ins bit_ins =
      subst (λ (ds : List Bool). AreAllowed (merged X unknown n.inputs (map known ds)) bit_ins) filled.drive (merged_allowed unknown n.inputs whole.drive wide) in
      let s = own_settles us st cycle.drive t.values idle t.settles in
      let o : AreAllowed (outs (tris f) n a) (outs (bits f) n u.values) =
      outs_alike allows (tris f) (bits f) n keeps closed acyclic ins st bit_ins bit_state a u.values driven h s u.settles in
      let x : AreAllowed (next (tris f) n a) (next (bits f) n u.values) =
      next_alike allows (tris f) (bits f) n keeps closed acyclic ins st bit_ins bit_state a u.values driven h s u.settles in
      let seen : shown ≡ outs (tris f) n a = t.shows ∙ own_outs us st cycle.drive t.values idle t.settles in
      let kept : after ≡ cond cycle.pulse (map a xs) us ++ cond cycle.pulse (next (tris f) n a) st =
      t.keeps ∙ (ap (λ vs. cond cycle.pulse vs (us ++ st)) (own_next us st cycle.drive t.values idle t.settles)
      ∙ cond_append cycle.pulse (map a xs) (next (tris f) n a) us st) in
      let bit_kept : bit_after ≡ cond cycle.pulse (next (bits f) n u.values) bit_state = u.keeps ∙ ap (λ p. cond p (next (bits f) n u.values) bit_state) filled.pulse in (
        subst (λ (vs : List Tri). AreAllowed vs bit_shown) (sym seen) (subst (λ (bs : List Bool). AreAllowed (outs (tris f) n a) bs) (sym u.shows) o),
        (
          cond cycle.pulse (map a xs) us,
          cond cycle.pulse (next (tris f) n a) st,
          kept,
          cond_idle f cycle.pulse xs (map a xs) us (idle_next f a xs us (unknown_driven us st cycle.drive t.values idle t.settles)) idle,
          subst (λ (bs : List Bool). AreAllowed (cond cycle.pulse (next (tris f) n a) st) bs) (sym bit_kept)
              (cond_allowed cycle.pulse (next (tris f) n a) st (next (bits f) n u.values) bit_state x h),
        ),
      )

  runs_opened : (us st : List Tri) (bit_state : List Bool) (cycles wholes : List Cycle) (shown : List (List Tri)) (bit_shown : List (List Bool))
      → AreIdle f (unknown_part unknown n.inputs) us → AreAllowed st bit_state → AllZip (IsFilled unknown) cycles wholes
      → Runs tri_table (fault_opened n unknown f) (opened n unknown) (us ++ st) cycles shown → Runs bit_table f n bit_state wholes bit_shown → AllZip AreAllowed shown bit_shown
  runs_opened us st bit_state [] [] [] [] idle h filled p q = tt
  runs_opened us st bit_state [] [] [] (y ∷ ys) idle h filled p q = absurd q
  runs_opened us st bit_state [] [] (x ∷ xs) bit_shown idle h filled p q = absurd p
  runs_opened us st bit_state [] (w ∷ ws) shown bit_shown idle h filled p q = absurd filled
  runs_opened us st bit_state (c ∷ cs) [] shown bit_shown idle h filled p q = absurd filled
  runs_opened us st bit_state (c ∷ cs) (w ∷ ws) [] bit_shown idle h filled p q = absurd p
  runs_opened us st bit_state (c ∷ cs) (w ∷ ws) (x ∷ xs) [] idle h filled p q = absurd q
  runs_opened us st bit_state (c ∷ cs) (w ∷ ws) (x ∷ xs) (y ∷ ys) idle h filled p q =
      let one = tick_opened us st bit_state c w x p.0 y q.0 idle h filled.0 p.1 q.1 in
      let left = one.1 in (
        one.0,
        runs_opened left.0 left.1 q.0 cs ws xs ys left.3 left.4 filled.1
            (subst (λ (vs : List Tri). Runs tri_table (fault_opened n unknown f) (opened n unknown) vs cs xs) left.2 p.2) q.2,
      )

  all_unknown : replicate (length (cells (opened n unknown))) X ≡ replicate (length (unknown_part unknown n.inputs)) X ++ replicate (length (cells n)) X
  all_unknown =
      let r = opened_number n unknown in
      let xs = unknown_part unknown n.inputs in
      let count : length (cells (opened n unknown)) ≡ length xs + length (cells n) =
      ap length cells_opened
      ∙ (length-append (map reads_itself (map r xs)) (map (definition_by r) (cells n))
      ∙ omega (arith, length-map (map r xs) reads_itself, length-map xs r, length-map (cells n) (definition_by r))) in
      ap (λ k. replicate k X) count ∙ sym (replicate-append-replicate (length xs) (length (cells n)) X)

  pub play_allowed : (cycles wholes : List Cycle) (shown : List (List Tri)) (state : List Bool) (bit_shown : List (List Bool)) → AllZip (IsFilled unknown) cycles wholes
      → PlayRuns (opened n unknown) (fault_opened n unknown f) cycles shown → Runs bit_table f n state wholes bit_shown → AllZip AreAllowed shown bit_shown
  play_allowed [] [] [] state [] filled p q = tt
  play_allowed [] [] [] state (y ∷ ys) filled p q = absurd q
  play_allowed [] [] (x ∷ xs) state bit_shown filled p q = absurd p
  play_allowed [] (w ∷ ws) shown state bit_shown filled p q = absurd filled
  play_allowed (c ∷ cs) [] shown state bit_shown filled p q = absurd filled
  play_allowed (c ∷ cs) (w ∷ ws) shown state [] filled p q = absurd q
  play_allowed (c ∷ cs) (w ∷ ws) shown state (y ∷ ys) filled p q =
      let size : length state ≡ length (cells n) = sym (zip_length _ (cells n) state q.1.settles.1) in
      runs_opened (replicate (length (unknown_part unknown n.inputs)) X) (replicate (length (cells n)) X) state (c ∷ cs) (w ∷ ws) shown (y ∷ ys)
      (idle_at_first f (unknown_part unknown n.inputs)) (xs_allow state (length (cells n)) size) filled
      (subst (λ (vs : List Tri). Runs tri_table (fault_opened n unknown f) (opened n unknown) vs (c ∷ cs) shown) all_unknown p) q

pub opened_allows : OpenedAllows
opened_allows n unknown f cycles wholes shown state bits sound valid filled p q =
    play_allowed n unknown f sound.formed.numbered sound.closed sound.acyclic valid cycles wholes shown state bits filled p q
