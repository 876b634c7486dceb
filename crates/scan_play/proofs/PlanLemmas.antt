-- A cycle that is played by the steps of a plan shows and takes what settles.
use Rattle.std.proofs.Common.{◌≡◌, ◌≢◌, ℕ, suc, zero, ◌+◌, ◌-◌, ◌*◌, ◌<◌, ◌≤◌, Bool, true, false, cond, ◌⊎◌, List, [], ◌∷◌, ◌++◌, map, length, get_or, set, take, drop, replicate, Option, Some, None, slice_get, refl, sym, ◌∙◌, ap, subst, inl, inr, arith, length-append}
use Rattle.std.specs.List.{All, Contains, flat_map}
use Rattle.std.proofs.lemmas.Bool.{cases_eq, both_ways}
use Rattle.std.proofs.lemmas.List.{take_all, length-map, map-append, get_or-map, get_or_default, get_or-set_same, get_or-set_other}
use Rattle.std.proofs.lemmas.List.Elements.{All-contains, Contains-append_cases}
use Rattle.statement.specs.declared.kinds.Tri.{Tri}
use Rattle.statement.specs.declared.kinds.Tri.TheVariants.{Zero, One, X}
use Rattle.statement.specs.declared.lines.Fault.{Fault}
use Rattle.statement.specs.declared.lines.Line.TheVariants.{Stem, Out}
use Rattle.statement.specs.Netlists.{Definition, Netlist, cells, gates, signals}
use Rattle.netlist.specs.Conditions.{IsNumbered, IsSound}
use Rattle.statement.specs.Values.{Rule, Settles, on_pins, pins_of, outs, next, known}
use Rattle.netlist.specs.Settled.{at}
use Rattle.netlist.specs.ThreeValues.{is_x}
use Rattle.netlist.specs.Settling.{AreSourcesDriven, IsEvaluated, AreEvaluated}
use Rattle.netlist.proofs.Alike.{signals_alike, zip_append}
use Rattle.netlist.proofs.Lists.{All-from_contains, contains_cases, contains_map, contains_nil, map_agree, zip_same}
use Rattle.netlist.proofs.Orders.{gate_below}
use Rattle.netlist.proofs.Placed.{signal_from}
use Rattle.netlist.proofs.Settling.{by_steps}
use Rattle.netlist.proofs.SomeSettled.{some_settled}
use Rattle.tri.specs.Known.{allows_tri, AreAllowedTris}
use Rattle.tri.specs.Settled.{tris}
use Rattle.tri.proofs.Choices.{no}
use Rattle.tri.proofs.TriAlike.{allows_tri_itself, keeps_tris}
use Rattle.scan_play.specs.declared.cycles.Burst.{Burst}
use Rattle.scan_play.specs.declared.played.Played.{Played}
use Rattle.scan_play.specs.Bursts.{cycles_of}
use Rattle.scan_play.specs.Cycles.{IsCycleOf}
use Rattle.scan_play.specs.Steps.{IsReady, Stays, AreOrderedSteps}
use Rattle.scan_play.specs.inner.Plans.{IsPlanned, AreSettled}
use Rattle.scan_play.specs.inner.Steps.{IsStep}
use Rattle.scan_play.specs.Judging.{IsOpen, Judging, judged_in, played_or_else}
use Rattle.scan_play.proofs.PlanMarks.{taken_more}
use Rattle.scan_play.proofs.PlaySteps.{cycle_fits}
use Rattle.scan_play.proofs.RunLaws.{next_length}

-- ---- values that stay

known_stays : (v w : Tri) → is_x v ≡ false → allows_tri v w ≡ true → v ≡ w
known_stays Zero Zero e h = refl
known_stays Zero One e h = no h
known_stays Zero X e h = no h
known_stays One Zero e h = no h
known_stays One One e h = refl
known_stays One X e h = no h
known_stays X w e h = absurd (both_ways true e refl)

same_allowed : (vs : List Tri) → AreAllowedTris vs vs
same_allowed [] = tt
same_allowed (v ∷ vs) = (allows_tri_itself v, same_allowed vs)

xs_allow : (vs : List Tri) (k : ℕ) → length vs ≡ k → AreAllowedTris (replicate k X) vs
xs_allow [] zero e = tt
xs_allow [] (suc k) e = absurd (omega (arith, e))
xs_allow (v ∷ vs) zero e = absurd (omega (arith, e))
xs_allow (v ∷ vs) (suc k) e = (refl, xs_allow vs k (omega (arith, e)))

-- ---- evaluating

module _ (f : Option Fault) (n : Netlist) (numbered : IsNumbered n) (base inputs state : List Tri) (settled : ℕ → Tri) (q : Settles (tris f) n inputs state settled) where
  -- the gate's pins have what settles
  pins_settled : (values : List Tri) (done : List ℕ) (g : Definition) → AreSettled n base done settled values → All (IsReady n base done) g.pins
      → pins_of (tris f) (at values X) g ≡ pins_of (tris f) settled g
  pins_settled values done g h ready =
      ap (on_pins (tris f) g.id 0) (map_agree (at values X) settled g.pins
      (All-from_contains (λ x. at values X x ≡ settled x) g.pins (λ x c. h x (All-contains (IsReady n base done) g.pins x ready c))))

  pub step_settled : (steps : List ℕ) (m x : ℕ) (old new : List Tri) → AreOrderedSteps n base steps → m < length steps → x ≡ get_or steps m x → length old ≡ length (signals n)
      → IsEvaluated (tris f) n x old new → AreSettled n base (take m steps) settled old → AreSettled n base (take (m + 1) steps) settled new
  step_settled steps m x old new path l is size made h y ready =
      let w = path.are_gates m 0 l in
      let g = w.0 in
      let at_m : get_or steps m 0 ≡ x = get_or_default steps m 0 x l ∙ sym is in
      let same : g.id ≡ x = w.2 ∙ at_m in
      let line : Tri → Tri = (tris f).line (Stem g.id) in
      let set_to : new ≡ set old x (line ((tris f).gate g (pins_of (tris f) (at old X) g))) = made.set g X w.1 same in
      let pins = pins_settled old (take m steps) g h (path.reads m g l w.1 w.2) in
      let own : settled g.id ≡ line ((tris f).gate g (pins_of (tris f) settled g)) =
      All-contains (λ (d : Definition). settled d.id ≡ (tris f).line (Stem d.id) ((tris f).gate d (pins_of (tris f) settled d))) (gates n) g q.2 w.1 in
      let below : x < length old = subst (λ z. z < length old) same (subst (λ k. g.id < k) (sym size) (gate_below n numbered g.id (g, w.1, refl))) in
      elim (cases_eq y x) [
        | inl here ↦
            ap (λ (vs : List Tri). at vs X y) set_to
            ∙ (ap (at (set old x (line ((tris f).gate g (pins_of (tris f) (at old X) g)))) X) here
            ∙ (get_or-set_same old x (line ((tris f).gate g (pins_of (tris f) (at old X) g))) X below
            ∙ (ap (λ ps. line ((tris f).gate g ps)) pins ∙ (sym own ∙ ap settled (same ∙ sym here)))))
        | inr other ↦
            ap (λ (vs : List Tri). at vs X y) set_to
            ∙ (get_or-set_other old x y (line ((tris f).gate g (pins_of (tris f) (at old X) g))) X other
            ∙ h y (before y other (subst (λ (done : List ℕ). IsReady n base done y) (taken_more steps m x l is) ready)))
      ]
    where
      before : (y : ℕ) → (y ≡ x → ⊥) → IsReady n base (take m steps ++ x ∷ []) y → IsReady n base (take m steps) y
      before y other r = elim r [
        | inl i ↦ inl i
        | inr r1 ↦ elim r1 [
          | inl c ↦ inr (inl c)
          | inr r2 ↦ elim r2 [
            | inl s ↦ inr (inr (inl s))
            | inr d ↦ elim (Contains-append_cases (take m steps) (x ∷ []) y d) [
              | inl c ↦ inr (inr (inr c))
              | inr c ↦ elim (contains_cases x y [] c) [
                | inl e ↦ absurd (other (sym e))
                | inr none ↦ absurd (contains_nil y none)
              ]
            ]
          ]
        ]
      ]

-- evaluating gates on a path keeps the values what settles
pub steps_settled : (f : Option Fault) (n : Netlist) → IsNumbered n → (base inputs state : List Tri) (settled : ℕ → Tri) → Settles (tris f) n inputs state settled
    → (steps : List ℕ) (old new : List Tri) → AreOrderedSteps n base steps → length old ≡ length (signals n) → AreEvaluated (tris f) n steps old new
    → AreSettled n base [] settled old → AreSettled n base steps settled new
steps_settled f n numbered base inputs state settled q steps old new path size made h =
    let all = by_steps (tris f) n (λ m values. (length values ≡ length (signals n)) × AreSettled n base (take m steps) settled values) steps
    (λ m x a b l is one so_far.
    (one.size ∙ so_far.0, step_settled f n numbered base inputs state settled q steps m x a b path l is so_far.0 one so_far.1)) old new made (size, h) in
    subst (λ (done : List ℕ). AreSettled n base done settled new) (take_all (length steps) steps (omega arith)) all.1

steps_size : {V : Type 0} (rule : Rule V) (n : Netlist) (steps : List ℕ) (old new : List V) → AreEvaluated rule n steps old new → length new ≡ length old
steps_size rule n steps old new made = by_steps rule n (λ m values. length values ≡ length old) steps (λ m x a b l is one so_far. one.size ∙ so_far) old new made refl

-- ---- a cycle

-- what is shown is the same wherever it is strobed
judged_alike : (J : Judging) → IsOpen J → (c o : ℕ) (ss vs ws : List Tri) → length vs ≡ length ws → ((k : ℕ) → k < length vs → (slice_get ss k ≡ Some X) ⊎ (get_or vs k X ≡ get_or ws k X))
    → judged_in J c o ss vs ≡ judged_in J c o ss ws
judged_alike J opens c o [] vs ws e h = refl
judged_alike J opens c o (s ∷ ss) [] [] e h = refl
judged_alike J opens c o (s ∷ ss) [] (w ∷ ws) e h = absurd (omega (arith, e))
judged_alike J opens c o (s ∷ ss) (v ∷ vs) [] e h = absurd (omega (arith, e))
judged_alike J opens c o (s ∷ ss) (v ∷ vs) (w ∷ ws) e h =
    let rest : judged_in J c (o + 1) ss vs ≡ judged_in J c (o + 1) ss ws = judged_alike J opens c (o + 1) ss vs ws (omega (arith, e)) (λ k l. h (suc k) (omega (arith, l))) in
    let here : J c o s v ≡ J c o s w = elim (h zero (omega arith)) [
      | inl x ↦ open_strobe s x
      | inr same ↦ ap (J c o s) same
    ] in
    ap (λ x. played_or_else x (judged_in J c (o + 1) ss vs)) here ∙ ap (played_or_else (J c o s w)) rest
  where
    some_same : (x y : Tri) → Some x ≡ Some y → x ≡ y
    some_same x y e = cc

    open_strobe : (s : Tri) → Some s ≡ Some X → J c o s v ≡ J c o s w
    open_strobe s x = let is = some_same s X x in ap (λ t. J c o t v) is ∙ (opens c o v ∙ sym (ap (λ t. J c o t w) is ∙ opens c o w))

slice_front : (xs ys : List Tri) (k : ℕ) (x : Tri) → slice_get xs k ≡ Some x → slice_get (xs ++ ys) k ≡ Some x
slice_front [] ys k x e = absurd (none_some e)
  where
    none_some : None ≡ Some x → ⊥
    none_some e = cc
slice_front (z ∷ xs) ys zero x e = e
slice_front (z ∷ xs) ys (suc k) x e = slice_front xs ys k x e

-- a strobe is X, or it isn't
strobe_cases : (s : Option Tri) → (s ≡ Some X) ⊎ (s ≢ Some X)
strobe_cases None = inr (λ e. cc)
strobe_cases (Some X) = inl refl
strobe_cases (Some Zero) = inr (λ e. zero_x (inner e))
  where
    inner : Some Zero ≡ Some X → Zero ≡ X
    inner e = cc

    zero_x : Zero ≡ X → ⊥
    zero_x e = cc
strobe_cases (Some One) = inr (λ e. one_x (inner e))
  where
    inner : Some One ≡ Some X → One ≡ X
    inner e = cc

    one_x : One ≡ X → ⊥
    one_x e = cc

pub flat_map_agree : {A B : Type 0} (f g : A → List B) (xs : List A) → ((x : A) → Contains xs x → f x ≡ g x) → flat_map f xs ≡ flat_map g xs
flat_map_agree f g [] h = refl
flat_map_agree f g (x ∷ xs) h =
    let e : f x ≡ g x = h x (0, omega arith, refl) in
    let r : flat_map f xs ≡ flat_map g xs = flat_map_agree f g xs (λ y c. h y (suc c.0, omega (arith, c.1), c.2)) in
    cc

module _ (J : Judging) (opens : IsOpen J) (f : Option Fault) (n : Netlist) (sound : IsSound n) (drive : List Bool) (strobe : List Tri) (steps : List ℕ) (v0 v1 v2 : List Tri) (plan : IsPlanned f n drive strobe steps v0)
    (ins : List Bool) (outs_of : List Tri) (pulse : Bool) (state row after : List Tri) (number : ℕ) (found : Option Played)
    (wide : length (drive ++ ins) ≡ length n.inputs) (size : length state ≡ length (cells n))
    (onto : AreSourcesDriven (tris f) n (map known (drive ++ ins)) state v0 v1) (stepped : AreEvaluated (tris f) n steps v1 v2)
    (shows : row ≡ outs (tris f) n (at v2 X)) (keeps : after ≡ cond pulse (next (tris f) n (at v2 X)) state) (is : found ≡ judged_in J number 0 (strobe ++ outs_of) row) where
  module _ (t : ℕ → Tri) (q : Settles (tris f) n (map known (drive ++ ins)) state t) where
    base_allows : (x : ℕ) → Contains (signals n) x → allows_tri (at plan.base X x) (t x) ≡ true
    base_allows =
        let rest : length ins ≡ length n.inputs - length drive = omega (arith, wide, length-append drive ins) in
        let driven_allowed : AreAllowedTris (map known drive ++ replicate (length n.inputs - length drive) X) (map known (drive ++ ins)) =
        subst (λ (vs : List Tri). AreAllowedTris (map known drive ++ replicate (length n.inputs - length drive) X) vs) (sym (map-append known drive ins))
        (zip_append (λ v w. allows_tri v w ≡ true) (map known drive) (replicate (length n.inputs - length drive) X) (map known drive) (map known ins) (same_allowed (map known drive))
        (xs_allow (map known ins) (length n.inputs - length drive) (length-map ins known ∙ rest))) in
        signals_alike allows_tri (tris f) (tris f) n (keeps_tris f n) sound.closed sound.acyclic (map known drive ++ replicate (length n.inputs - length drive) X) (replicate (length (cells n)) X)
        (map known (drive ++ ins)) state (at plan.base X) t driven_allowed (xs_allow state (length (cells n)) size) plan.settles q

    stays_settled : (x : ℕ) → Stays n plan.base x → at plan.base X x ≡ t x
    stays_settled x s = known_stays (at plan.base X x) (t x) s.1 (base_allows x (signal_from n sound.formed.numbered x (gate_below n sound.formed.numbered x s.0)))

    at_start : AreSettled n plan.base [] t v1
    at_start x r = elim r [
      | inl i ↦
          All-contains (λ y. at v1 X y ≡ t y) n.inputs x
          (zip_same (λ y. y) (at v1 X) t (λ y v. (tris f).line (Stem y) v) n.inputs (map known (drive ++ ins)) (onto.inputs_driven X) q.0) i
      | inr r1 ↦ elim r1 [
        | inl c ↦
            let m = contains_map (λ (d : Definition). d.id) (cells n) x c in
            subst (λ y. at v1 X y ≡ t y) m.2
            (All-contains (λ (d : Definition). at v1 X d.id ≡ t d.id) (cells n) m.0
            (zip_same (λ (d : Definition). d.id) (at v1 X) t (λ y v. (tris f).line (Stem y) v) (cells n) state (onto.cells_driven X) q.1) m.1)
        | inr r2 ↦ elim r2 [
          | inl s ↦ onto.gates_stay x X s.0 ∙ (plan.stand x s ∙ stays_settled x s)
          | inr d ↦ absurd (contains_nil x d)
        ]
      ]
    ]

    at_end : AreSettled n plan.base steps t v2
    at_end = steps_settled f n sound.formed.numbered plan.base (map known (drive ++ ins)) state t q steps v1 v2 plan.has.path (onto.size ∙ plan.size) stepped at_start

    next_same : next (tris f) n (at v2 X) ≡ next (tris f) n t
    next_same = flat_map_agree (pins_of (tris f) (at v2 X)) (pins_of (tris f) t) (cells n) (λ d c.
        pins_settled f n sound.formed.numbered plan.base (map known (drive ++ ins)) state t q v2 steps d at_end (All-contains (λ (e : Definition). All (IsReady n plan.base steps) e.pins) (cells n) d plan.has.cells_ready c))

    shown_same : judged_in J number 0 (strobe ++ outs_of) (outs (tris f) n (at v2 X)) ≡ judged_in J number 0 (strobe ++ outs_of) (outs (tris f) n t)
    shown_same =
        let line : ℕ → Tri → Tri = λ x. (tris f).line (Out x) in
        judged_alike J opens number 0 (strobe ++ outs_of) (outs (tris f) n (at v2 X)) (outs (tris f) n t) (length-map n.outputs (λ x. line x (at v2 X x)) ∙ sym (length-map n.outputs (λ x. line x (t x))))
        (λ k l.
        let w : k < length n.outputs = omega (arith, length-map n.outputs (λ x. line x (at v2 X x))) in
        elim (strobe_cases (slice_get strobe k)) [
          | inl x ↦ inl (slice_front strobe outs_of k X x)
          | inr s ↦ inr (get_or-map (λ x. line x (at v2 X x)) n.outputs k 0 X w
              ∙ (ap (line (get_or n.outputs k 0)) (at_end (get_or n.outputs k 0) (plan.has.outputs_ready k w s)) ∙ sym (get_or-map (λ x. line x (t x)) n.outputs k 0 X w)))
        ])

  pub planned_step : IsStep J f n state after (record { drive = drive ++ ins; strobe = strobe ++ outs_of; pulse = pulse }) number found
  planned_step = record {
    size = ap length keeps ∙ cond_length pulse (next (tris f) n (at v2 X)) state (length (cells n)) (next_length (tris f) n (at v2 X) sound.closed) size;
    outcome = λ shown then tick. (
      ap (judged_in J number 0 (strobe ++ outs_of)) tick.shows ∙ (sym (shown_same tick.values tick.settles) ∙ (ap (judged_in J number 0 (strobe ++ outs_of)) (sym shows) ∙ sym is)),
      tick.keeps ∙ (ap (λ x. cond pulse x state) (sym (next_same tick.values tick.settles)) ∙ sym keeps),
    );
  }
    where
      cond_length : (b : Bool) (xs ys : List Tri) (k : ℕ) → length xs ≡ k → length ys ≡ k → length (cond b xs ys) ≡ k
      cond_length true xs ys k e h = e
      cond_length false xs ys k e h = h

  pub still_planned : IsPlanned f n drive strobe steps v2
  still_planned =
      let a = some_settled X (tris f) n (map known (drive ++ ins)) state sound.formed.numbered sound.closed sound.acyclic (length-map (drive ++ ins) known ∙ wide) size in
      record {
        base = plan.base;
        settles = plan.settles;
        has = plan.has;
        size = steps_size (tris f) n steps v1 v2 stepped ∙ (onto.size ∙ plan.size);
        stand = λ x s. at_end a.0 a.1 x (inr (inr (inl s))) ∙ sym (stays_settled a.0 a.1 x s);
      }

-- ---- a burst

-- what stays of the drive is no wider than the inputs
pub narrow : (n : Netlist) (b : Burst) → All (IsCycleOf n) (cycles_of b) → 0 < b.count → length b.drive.items ≤ length n.inputs
narrow n b fit some =
    let c = cycle_fits n b 0 fit some in
    omega (arith, c.drive, length-append b.drive.items (take b.width (drop (0 * b.width) b.ins.items)))

-- ---- as the player has it

module _ (J : Judging) (opens : IsOpen J) (f : Option Fault) (n net : Netlist) (drive : List Bool) (strobe : List Tri) (steps : List ℕ) (v0 v1 v2 : List Tri) (ins : List Bool) (outs_of : List Tri) (state driven from : List Tri)
    (there : net ≡ n) (sound : IsSound n) (plan : IsPlanned f n drive strobe steps v0) (wide : length (drive ++ ins) ≡ length n.inputs) (size : length state ≡ length (cells n))
    (is_driven : driven ≡ map known (drive ++ ins)) (is_from : from ≡ state) (onto : AreSourcesDriven (tris f) net driven from v0 v1) (stepped : AreEvaluated (tris f) net steps v1 v2) where
  onto_here : AreSourcesDriven (tris f) n (map known (drive ++ ins)) state v0 v1
  onto_here =
      subst (λ (m : Netlist). AreSourcesDriven (tris f) m (map known (drive ++ ins)) state v0 v1) there
      (subst (λ (s : List Tri). AreSourcesDriven (tris f) net (map known (drive ++ ins)) s v0 v1) is_from (subst (λ (i : List Tri). AreSourcesDriven (tris f) net i from v0 v1) is_driven onto))

  stepped_here : AreEvaluated (tris f) n steps v1 v2
  stepped_here = subst (λ (m : Netlist). AreEvaluated (tris f) m steps v1 v2) there stepped

  pub shift_step : (pulse : Bool) (number : ℕ) (seen row strobes after : List Tri) (found : Option Played) → seen ≡ v2 → row ≡ outs (tris f) n (at seen X) → strobes ≡ strobe ++ outs_of
      → found ≡ judged_in J number 0 strobes row → after ≡ cond pulse (next (tris f) n (at v2 X)) state
      → IsStep J f n state after (record { drive = drive ++ ins; strobe = strobe ++ outs_of; pulse = pulse }) number found
  shift_step pulse number seen row strobes after found s shows t is keeps =
      planned_step J opens f n sound drive strobe steps v0 v1 v2 plan ins outs_of pulse state row after number found wide size onto_here stepped_here
      (shows ∙ ap (λ (vs : List Tri). outs (tris f) n (at vs X)) s) keeps (is ∙ ap (λ (x : List Tri). judged_in J number 0 x row) t)

  pub shift_planned : IsPlanned f n drive strobe steps v2
  shift_planned =
      still_planned J opens f n sound drive strobe steps v0 v1 v2 plan ins outs_of false state (outs (tris f) n (at v2 X)) state 0 (judged_in J 0 0 (strobe ++ outs_of) (outs (tris f) n (at v2 X))) wide size
      onto_here stepped_here refl refl refl

-- what is driven where a burst is planned
pub planned_driven : (f : Option Fault) (n : Netlist) (drive : List Bool) (empty front whole seen idle values : List Tri) (wide narrow : ℕ) → wide ≡ length n.inputs → narrow ≡ length drive → empty ≡ []
    → front ≡ empty ++ map known drive → whole ≡ front ++ replicate (wide - narrow) X → seen ≡ whole → idle ≡ replicate (length (cells n)) X → Settles (tris f) n seen idle (at values X)
    → Settles (tris f) n (map known drive ++ replicate (length n.inputs - length drive) X) (replicate (length (cells n)) X) (at values X)
planned_driven f n drive empty front whole seen idle values wide narrow p r e h w s i q =
    let count : wide - narrow ≡ length n.inputs - length drive = ap (λ k. k - narrow) p ∙ ap (λ k. length n.inputs - k) r in
    let all : seen ≡ map known drive ++ replicate (length n.inputs - length drive) X =
    s ∙ (w ∙ (ap (λ x. x ++ replicate (wide - narrow) X) (h ∙ ap (λ x. x ++ map known drive) e) ∙ ap (λ k. map known drive ++ replicate k X) count)) in
    subst (λ (x : List Tri). Settles (tris f) n (map known drive ++ replicate (length n.inputs - length drive) X) x (at values X)) i
    (subst (λ (x : List Tri). Settles (tris f) n x idle (at values X)) all q)
