-- The signals that a fault may reach at observed points, and where a path stands by their labels.
use Rattle.std.proofs.Common.{◌≡◌, ◌≢◌, ◌≤◌, ◌<◌, ◌+◌, ◌-◌, ◌⊎◌, ℕ, zero, suc, Bool, true, false, not, cond, ltb, ◌&&◌, ◌||◌, List, [], ◌∷◌, ◌++◌, map, take, length, get_or, Some, None, refl, sym, ◌∙◌, ap, subst, inl, inr, arith}
use Rattle.std.specs.List.{All, Contains, flat_map, slice_get}
use Rattle.std.proofs.lemmas.Bool.{cases_Bool, cases_lt, cases_eq, both_ways, and_parts, and_from, or_cases, or_parts, lt-ltb, ltb-true, false_from_ne_true}
use Rattle.std.proofs.lemmas.List.{get_or_append_left, get_or-append_right, get_or-map, get_or_default, length-map, length-append}
use Rattle.std.proofs.lemmas.List.Elements.{All-nil, All-cons, All-contains, Contains-get_or, Contains-append_left, Contains-append_right, Contains-append_cases, Contains-push}
use Rattle.std.proofs.lemmas.Option.{slice_get-get_or}
use Rattle.statement.specs.declared.kinds.Kind.TheVariants.{Dff}
use Rattle.statement.specs.declared.lines.Fault.{Fault}
use Rattle.statement.specs.declared.lines.Line.{Line}
use Rattle.statement.specs.declared.lines.Line.TheVariants.{Pin, Out}
use Rattle.statement.specs.declared.lines.Point.{Point}
use Rattle.statement.specs.declared.lines.Point.TheVariants.{Output, Cell}
use Rattle.netlist.specs.Conditions.{IsSound}
use Rattle.statement.specs.Patterns.{Holds}
use Rattle.statement.specs.Netlists.{Definition, Netlist, is_cell, cells, signals}
use Rattle.netlist.specs.Settled.{at}
use Rattle.statement.specs.Values.{is_line, outs, next, known}
use Rattle.netlist.proofs.Lists.{contains_nil, contains_head, contains_tail, contains_cases, contains_map, contains_filter, All-from_contains, map_agree}
use Rattle.netlist.proofs.Orders.{cell_no_gate}
use Rattle.netlist.proofs.Placed.{signal_below}
use Rattle.netlist.proofs.WellFormed.{one_pin}
use Rattle.tri.specs.declared.labels.Label.{Label}
use Rattle.tri.specs.Labels.{Decisions, labels, on_line, is_known_as, IsContradicted}
use Rattle.tri.specs.Labelling.{AreLabelled}
use Rattle.tri.specs.Paths.{decisions, has_effect, HaveNoEffect, IsFirstEffect, IsFirstPoint}
use Rattle.tri.proofs.MoreKnown.{more_known}
use Rattle.events.specs.declared.trails.Change.{Change}
use Rattle.events.specs.Stuck.{IsObservedOnly}
use Rattle.events.specs.Trails.{AreChanges}
use Rattle.observed_points.specs.Points.{ArePoints, watched, point_of}
use Rattle.observed_points.proofs.ObservedPoints.{next_map, watched_count}
use Rattle.observed_points.proofs.PointTables.{points_few}
use Rattle.observed_points.proofs.LineReads.{same_line}
use Rattle.pair_sim.specs.declared.states.State.{State}
use Rattle.pair_sim.specs.declared.states.State.TheVariants.{Test, Blocked, Going}
use Rattle.pair_sim.specs.inner.Levels.{blank}
use Rattle.pair_sim.specs.inner.Points.{IsStateOf, MayNot, SomeMay}
use Rattle.pair_sim.specs.inner.Reach.{reached_one, AreReached, IsReach, AreViewed, IsStateInView}
use Rattle.pair_sim.proofs.Effects.{effect_differs, none_differs}
use Rattle.pair_sim.proofs.Noting.{labelled_once}

-- ---- lists

mapped : {A B : Type 0} (g : A → B) (xs : List A) (x : A) → Contains xs x → Contains (map g xs) (g x)
mapped g xs x c = (c.0, (let l = c.1 in let s = length-map xs g in omega arith), get_or-map g xs c.0 x (g x) c.1 ∙ ap g c.2)

in_flat : {A : Type 0} (g : A → List ℕ) (cs : List A) (c : A) (y : ℕ) → Contains cs c → Contains (g c) y → Contains (flat_map g cs) y
in_flat g [] c y m h = absurd (contains_nil c m)
in_flat g (d ∷ cs) c y m h = elim (contains_cases d c cs m) [
  | inl e ↦ Contains-append_left (g d) (flat_map g cs) y (subst (λ b. Contains (g b) y) (sym e) h)
  | inr later ↦ Contains-append_right (g d) (flat_map g cs) y (in_flat g cs c y later h)
]

from_flat : {A : Type 0} (g : A → List ℕ) (cs : List A) (y : ℕ) → Contains (flat_map g cs) y → (c : A) × Contains cs c × Contains (g c) y
from_flat g [] y h = absurd (contains_nil y h)
from_flat g (d ∷ cs) y h = elim (Contains-append_cases (g d) (flat_map g cs) y h) [
  | inl here ↦ (d, contains_head d cs, here)
  | inr later ↦ let w = from_flat g cs y later in (w.0, contains_tail d w.0 cs w.1, w.2)
]

-- a list has a change of the signal, or none
change_of : (changes : List (Change Label)) (x : ℕ) → ((d : Change Label) × Contains changes d × (d.signal ≡ x)) ⊎ ((d : Change Label) → Contains changes d → d.signal ≢ x)
change_of [] x = inr (λ d m e. contains_nil d m)
change_of (c ∷ cs) x = elim (cases_eq c.signal x) [
  | inl e ↦ inl (c, contains_head c cs, e)
  | inr ne ↦ elim (change_of cs x) [
    | inl w ↦ inl (w.0, contains_tail c w.0 cs w.1, w.2)
    | inr none ↦ inr (λ d m e. elim (contains_cases c d cs m) [
      | inl is ↦ ne (ap (λ (b : Change Label). b.signal) is ∙ e)
      | inr later ↦ none d later e
    ])
  ]
]

only_where : (b : Bool) (z y : ℕ) → Contains (cond b (z ∷ []) []) y → (b ≡ true) × (z ≡ y)
only_where true z y h = (refl, elim (contains_cases z y [] h) [ inl e ↦ e | inr none ↦ absurd (contains_nil y none) ])
only_where false z y h = absurd (contains_nil y h)

there_where : (b : Bool) (z : ℕ) → b ≡ true → Contains (cond b (z ∷ []) []) z
there_where true z e = contains_head z []
there_where false z e = absurd (both_ways false refl e)

not_below : (a b : ℕ) → b ≤ a → ltb a b ≡ false
not_below a b l = false_from_ne_true (ltb a b) (λ h. let m = ltb-true a b h in omega arith)

none_of : (ls : List Label) → ((k : ℕ) → k < length ls → has_effect (get_or ls k blank) ≡ false) → HaveNoEffect ls
none_of [] h = All-nil _
none_of (m ∷ ms) h = All-cons (λ (k : Label). has_effect k ≡ false) m ms (h 0 (omega arith)) (none_of ms (λ k low. h (suc k) (omega arith)))

none_up_to : (ls : List Label) (c : ℕ) → ((k : ℕ) → k < c → k < length ls → has_effect (get_or ls k blank) ≡ false) → HaveNoEffect (take c ls)
none_up_to ls zero h = All-nil _
none_up_to [] (suc c) h = All-nil _
none_up_to (m ∷ ms) (suc c) h = All-cons (λ (k : Label). has_effect k ≡ false) m (take c ms) (h 0 (omega arith) (omega arith)) (none_up_to ms c (λ k low inside. h (suc k) (omega arith) (omega arith)))

-- ---- the signals that observed points read

module _ (n : Netlist) (sound : IsSound n) where
  abbrev pin_of : Definition → ℕ
  pin_of d = get_or d.pins 0 0

  one : (d : Definition) → Contains (cells n) d → length d.pins ≡ 1
  one d c = All-contains (λ (e : Definition). length e.pins ≡ 1) (cells n) d (one_pin n sound.closed) c

  watched_signal : (x : ℕ) → Contains (watched n) x → Contains (signals n) x
  watched_signal x w = elim (Contains-append_cases n.outputs (map (λ (d : Definition). get_or d.pins 0 0) (cells n)) x w) [
    | inl o ↦ All-contains (Contains (signals n)) n.outputs x sound.closed.outputs o
    | inr m ↦
        let d = contains_map (λ (d : Definition). get_or d.pins 0 0) (cells n) x m in
        let pins = All-contains (λ (e : Definition). All (Contains (signals n)) e.pins) n.definitions d.0 sound.closed.pins (contains_filter is_cell n.definitions d.0 d.1).0 in
        let some : 0 < length d.0.pins = (let l = one d.0 d.1 in omega arith) in
        subst (Contains (signals n)) d.2 (All-contains (Contains (signals n)) d.0.pins (get_or d.0.pins 0 0) pins (Contains-get_or d.0.pins 0 0 some))
  ]

  module _ (seen first numbers : List ℕ) (points : ArePoints n seen first numbers) where
    -- the first point of a signal that is read stands below their count
    first_below : (x : ℕ) → Contains (watched n) x → get_or first x 0 < length seen
    first_below x w =
        let low = signal_below n sound.formed.numbered x (watched_signal x w) in
        let o = points.first_is.each x low in
        let size : length seen ≡ length (watched n) = ap length points.seen_is in
        let k : w.0 < length (watched n) = w.1 in
        let at_k : get_or seen w.0 0 ≡ x = ap (λ (xs : List ℕ). get_or xs w.0 0) points.seen_is ∙ (get_or_default (watched n) w.0 0 x w.1 ∙ w.2) in
        elim (cases_lt w.0 (get_or first x 0)) [
          | inl below ↦ absurd (o.before w.0 (omega arith) below at_k)
          | inr high ↦ omega arith
        ]

    -- and it reads it
    first_reads : (x : ℕ) → x < length (signals n) → get_or first x 0 < length seen → get_or seen (get_or first x 0) 0 ≡ x
    first_reads x low l = (points.first_is.each x low).here l

    is_watched : (x : ℕ) → x < length (signals n) → get_or first x 0 < length seen → Contains (watched n) x
    is_watched x low l = subst (λ (xs : List ℕ). Contains xs x) points.seen_is
        (subst (Contains seen) (first_reads x low l) (Contains-get_or seen (get_or first x 0) 0 l))

    -- ---- the signals that are noted of a fault's changes

    module _ (f : Fault) (holds : Holds) (good new : List Label) (changes : List (Change Label)) (good_are : AreLabelled None (decisions []) n holds good)
        (new_are : AreLabelled (Some f) (decisions []) n holds new) (are : AreChanges good new changes) (ids : List ℕ)
        (ids_are : ids ≡ flat_map (reached_one first (length seen) new) changes) where
      test : Change Label → Bool
      test c = ltb (get_or first c.signal 0) (length seen) && (at new blank c.signal).may_differ

      within : (c : Change Label) → Contains changes c → c.signal < length (signals n)
      within c m = let b = (are.before c blank m).0 in let s = good_are.size in omega arith

      noted : (c : Change Label) → Contains changes c → get_or first c.signal 0 < length seen → (at new blank c.signal).may_differ ≡ true → Contains ids c.signal
      noted c m l h = subst (λ (xs : List ℕ). Contains xs c.signal) (sym ids_are)
          (in_flat (reached_one first (length seen) new) changes c c.signal m
          (there_where (ltb (get_or first c.signal 0) (length seen) && (at new blank c.signal).may_differ) c.signal
          (and_from (ltb (get_or first c.signal 0) (length seen)) (at new blank c.signal).may_differ (lt-ltb (get_or first c.signal 0) (length seen) l) h)))

      all_watched : (x : ℕ) → Contains ids x → Contains (watched n) x
      all_watched x h =
          let w = from_flat (reached_one first (length seen) new) changes x (subst (λ (xs : List ℕ). Contains xs x) ids_are h) in
          let o = only_where (ltb (get_or first w.0.signal 0) (length seen) && (at new blank w.0.signal).may_differ) w.0.signal x w.2 in
          let p = and_parts (ltb (get_or first w.0.signal 0) (length seen)) (at new blank w.0.signal).may_differ o.0 in
          subst (Contains (watched n)) o.1 (is_watched w.0.signal (within w.0 w.1) (ltb-true (get_or first w.0.signal 0) (length seen) p.0))

      pub reached_all : (IsObservedOnly n f.line → ⊥) → AreReached f n holds ids
      reached_all enters = record {
        enters = enters;
        watched_are = All-from_contains (Contains (watched n)) ids all_watched;
        each = λ start start_are x w h.
            let now : (at new blank x).may_differ ≡ true = subst (λ (vs : List Label). (at vs blank x).may_differ ≡ true) (labelled_once f n holds sound (decisions []) start new start_are new_are) h in
            elim (change_of changes x) [
              | inl c ↦ subst (Contains ids) c.2 (noted c.0 c.1
                  (subst (λ y. get_or first y 0 < length seen) (sym c.2) (first_below x w))
                  (subst (λ y. (at new blank y).may_differ ≡ true) (sym c.2) now))
              | inr none ↦ absurd (both_ways (at new blank x).may_differ
                  (ap (λ (m : Label). m.may_differ) (are.others x blank none) ∙ none_differs (decisions []) n holds sound (at good blank) (good_are.labels blank) x (watched_signal x w)) now)
            ];
      }

    -- they are signals of the netlist
    pub reached_within : (f : Fault) (holds : Holds) (ids : List ℕ) (count : ℕ) → AreReached f n holds ids → count ≡ length (signals n) → All (λ x. x < count) ids
    reached_within f holds ids count reached e = All-from_contains (λ x. x < count) ids (λ x m.
        let l = signal_below n sound.formed.numbered x (watched_signal x (All-contains (Contains (watched n)) ids x reached.watched_are m)) in
        omega arith)

    -- the points are few
    pub few_points : length seen < 4294967296
    few_points = let a = ap length points.seen_is in let b = watched_count n sound in let c = points_few n sound in omega arith

    -- ---- where a path stands

    module _ (f : Fault) (holds : Holds) (path : Decisions) (values start : List Label) (are : AreLabelled (Some f) path n holds values)
        (start_are : AreLabelled (Some f) (decisions []) n holds start) (possible : IsContradicted path n (at values blank) → ⊥) (ids : List ℕ) (reached : AreReached f n holds ids) where
      abbrev l : ℕ → Label
      l = at values blank

      -- a signal that may differ is among these
      stands : (x : ℕ) → Contains (watched n) x → (at values blank x).may_differ ≡ true → Contains ids x
      stands x w h = elim (cases_Bool (at start blank x).may_differ) [
        | inl some ↦ reached.each start start_are x w some
        | inr none ↦ absurd (both_ways (at values blank x).may_differ
            ((more_known (Some f) (decisions []) path n holds (at start blank) (at values blank) sound (start_are.labels blank) (are.labels blank) (λ y b e. absurd cc) possible x (watched_signal x w)).may_differ none) h)
      ]

      effect_stands : (x : ℕ) → Contains (watched n) x → has_effect (at values blank x) ≡ true → Contains ids x
      effect_stands x w h = stands x w (effect_differs f path n holds sound (at values blank) (are.labels blank) x (signal_below n sound.formed.numbered x (watched_signal x w)) h)

      -- the fault's line is read by no point
      off : (line : Line) → IsObservedOnly n line → is_line f.line line ≡ false
      off line only = false_from_ne_true (is_line f.line line) (λ h. reached.enters (subst (IsObservedOnly n) (sym (same_line f.line line h)) only))

      on_point : (line : Line) → IsObservedOnly n line → (v : Label) → on_line (Some f) line v ≡ v
      on_point line only v = ap (λ b. cond b (record { own = v.own; good = v.good; faulty = known f.value; may_differ = not (is_known_as f.value v.good) }) v) (off line only)

      abbrev outputs : List Label
      outputs = map (at values blank) n.outputs

      abbrev pins : List Label
      pins = map (λ (d : Definition). at values blank (get_or d.pins 0 0)) (cells n)

      outs_are : outs (labels (Some f) path) n (at values blank) ≡ outputs
      outs_are = map_agree (λ x. on_line (Some f) (Out x) (at values blank x)) (at values blank) n.outputs
          (All-from_contains (λ x. on_line (Some f) (Out x) (at values blank x) ≡ at values blank x) n.outputs (λ x c. on_point (Out x) tt (at values blank x)))

      next_are : next (labels (Some f) path) n (at values blank) ≡ pins
      next_are = next_map (labels (Some f) path) (at values blank) (cells n) one
          ∙ map_agree (λ (d : Definition). on_line (Some f) (Pin d.id 0) (at values blank (get_or d.pins 0 0))) (λ (d : Definition). at values blank (get_or d.pins 0 0)) (cells n)
          (All-from_contains (λ (d : Definition). on_line (Some f) (Pin d.id 0) (at values blank (get_or d.pins 0 0)) ≡ at values blank (get_or d.pins 0 0)) (cells n)
          (λ d c. on_point (Pin d.id 0) (cell_no_gate n sound.formed.numbered d c) (at values blank (get_or d.pins 0 0))))

      output_watched : (x : ℕ) → Contains n.outputs x → Contains (watched n) x
      output_watched x c = Contains-append_left n.outputs (map (λ (d : Definition). get_or d.pins 0 0) (cells n)) x c

      pin_watched : (d : Definition) → Contains (cells n) d → Contains (watched n) (get_or d.pins 0 0)
      pin_watched d c = Contains-append_right n.outputs (map (λ (d : Definition). get_or d.pins 0 0) (cells n)) (get_or d.pins 0 0) (mapped (λ (d : Definition). get_or d.pins 0 0) (cells n) d c)

      -- ---- no point may differ

      module _ (least : ℕ) (view : AreViewed first (length seen) values ids least false) where
        none_may : (x : ℕ) → Contains (watched n) x → (at values blank x).may_differ ≡ false
        none_may x w = false_from_ne_true (at values blank x).may_differ (λ h. both_ways (at values blank x).may_differ (view.none refl x (stands x w h)) h)

        outputs_may_not : MayNot outputs
        outputs_may_not = All-from_contains (λ (m : Label). m.may_differ ≡ false) outputs (λ m c.
            let w = contains_map (at values blank) n.outputs m c in
            subst (λ (k : Label). k.may_differ ≡ false) w.2 (none_may w.0 (output_watched w.0 w.1)))

        pins_may_not : MayNot pins
        pins_may_not = All-from_contains (λ (m : Label). m.may_differ ≡ false) pins (λ m c.
            let w = contains_map (λ (d : Definition). at values blank (get_or d.pins 0 0)) (cells n) m c in
            subst (λ (k : Label). k.may_differ ≡ false) w.2 (none_may (get_or w.0.pins 0 0) (pin_watched w.0 w.1)))

      -- ---- one may

      some_may : (x : ℕ) → Contains ids x → (at values blank x).may_differ ≡ true → SomeMay outputs ⊎ SomeMay pins
      some_may x m h = elim (Contains-append_cases n.outputs (map (λ (d : Definition). get_or d.pins 0 0) (cells n)) x (All-contains (Contains (watched n)) ids x reached.watched_are m)) [
        | inl o ↦ inl (at values blank x, mapped (at values blank) n.outputs x o, h)
        | inr p ↦
            let d = contains_map (λ (d : Definition). get_or d.pins 0 0) (cells n) x p in
            inr (at values blank (get_or d.0.pins 0 0), mapped (λ (d : Definition). at values blank (get_or d.pins 0 0)) (cells n) d.0 d.1, ap (λ y. (at values blank y).may_differ) d.2 ∙ h)
      ]

      -- ---- no point below the least has an effect

      module _ (least : ℕ) (differs : Bool) (view : AreViewed first (length seen) values ids least differs) where
        seen_output : (k : ℕ) → k < length n.outputs → get_or seen k 0 ≡ get_or n.outputs k 0
        seen_output k low = ap (λ (xs : List ℕ). get_or xs k 0) points.seen_is ∙ get_or_append_left n.outputs (map (λ (d : Definition). get_or d.pins 0 0) (cells n)) 0 k low

        seen_pin : (j : ℕ) (e : Definition) → j < length (cells n) → get_or seen (length n.outputs + j) 0 ≡ get_or (get_or (cells n) j e).pins 0 0
        seen_pin j e low =
            let k : length n.outputs + j - length n.outputs ≡ j = omega arith in
            ap (λ (xs : List ℕ). get_or xs (length n.outputs + j) 0) points.seen_is
            ∙ (get_or-append_right n.outputs (map (λ (d : Definition). get_or d.pins 0 0) (cells n)) (length n.outputs) (length n.outputs + j) 0 refl (omega arith)
            ∙ (ap (λ i. get_or (map (λ (d : Definition). get_or d.pins 0 0) (cells n)) i 0) k ∙ get_or-map (λ (d : Definition). get_or d.pins 0 0) (cells n) j e 0 low))

        count : length seen ≡ length n.outputs + length (cells n)
        count = ap length points.seen_is ∙ (length-append n.outputs (map (λ (d : Definition). get_or d.pins 0 0) (cells n))
            ∙ ap (λ k. length n.outputs + k) (length-map (cells n) (λ (d : Definition). get_or d.pins 0 0)))

        none_before : (k x : ℕ) → k < least → get_or seen k 0 ≡ x → Contains (watched n) x → has_effect (at values blank x) ≡ false
        none_before k x low reads w = false_from_ne_true (has_effect (at values blank x)) (λ h.
            let m = view.before x (effect_stands x w h) h in
            let o = points.first_is.each x (signal_below n sound.formed.numbered x (watched_signal x w)) in
            o.before k (omega arith) (omega arith) reads)

        outputs_before : (k : ℕ) → k < least → k < length n.outputs → has_effect (get_or outputs k blank) ≡ false
        outputs_before k low inside =
            ap has_effect (get_or-map (at values blank) n.outputs k 0 blank inside)
            ∙ none_before k (get_or n.outputs k 0) low (seen_output k inside) (output_watched (get_or n.outputs k 0) (Contains-get_or n.outputs k 0 inside))

        pins_before : (j : ℕ) → length n.outputs + j < least → j < length (cells n) → has_effect (get_or pins j blank) ≡ false
        pins_before j low inside =
            let e : Definition = record { id = 0; kind = Dff; pins = [] } in
            ap has_effect (get_or-map (λ (d : Definition). at values blank (get_or d.pins 0 0)) (cells n) j e blank inside)
            ∙ none_before (length n.outputs + j) (get_or (get_or (cells n) j e).pins 0 0) low (seen_pin j e inside) (pin_watched (get_or (cells n) j e) (Contains-get_or (cells n) j e inside))

        no_output : length n.outputs ≤ least → HaveNoEffect outputs
        no_output high = none_of outputs (λ k inside. let s = length-map n.outputs (at values blank) in outputs_before k (omega arith) (omega arith))

        no_pin : least ≡ length seen → HaveNoEffect pins
        no_pin e = none_of pins (λ k inside. let s = length-map (cells n) (λ (d : Definition). at values blank (get_or d.pins 0 0)) in let c = count in pins_before k (omega arith) (omega arith))

        -- the least is the first point with an effect
        first_point : least < length seen → IsFirstPoint outputs pins (point_of n least)
        first_point low =
            let w = view.here low in
            let x = w.0 in
            let is_seen = All-contains (Contains (watched n)) ids w.0 reached.watched_are w.1 in
            let inside = signal_below n sound.formed.numbered w.0 (watched_signal w.0 is_seen) in
            let reads : get_or seen least 0 ≡ w.0 = subst (λ k. get_or seen k 0 ≡ w.0) w.3 (first_reads w.0 inside (first_below w.0 is_seen)) in
            elim (cases_lt least (length n.outputs)) [
              | inl here ↦
                  let s = length-map n.outputs (at values blank) in
                  let same : get_or n.outputs least 0 ≡ w.0 = sym (seen_output least here) ∙ reads in
                  subst (IsFirstPoint outputs pins) (sym (ap (λ b. cond b (Output least) (Cell (least - length n.outputs))) (lt-ltb least (length n.outputs) here))) (record {
                    label = at values blank w.0;
                    here = slice_get-get_or outputs least blank (omega arith) ∙ ap Some (get_or-map (at values blank) n.outputs least 0 blank here ∙ ap (at values blank) same);
                    effect = w.2;
                    before = none_up_to outputs least (λ k below within. outputs_before k below (omega arith));
                  })
              | inr there ↦
                  let c = count in
                  let e : Definition = record { id = 0; kind = Dff; pins = [] } in
                  let s = length-map (cells n) (λ (d : Definition). at values blank (get_or d.pins 0 0)) in
                  let j : least - length n.outputs < length (cells n) = omega arith in
                  let k : length n.outputs + (least - length n.outputs) ≡ least = omega arith in
                  let same : get_or (get_or (cells n) (least - length n.outputs) e).pins 0 0 ≡ w.0 = sym (seen_pin (least - length n.outputs) e j) ∙ (ap (λ i. get_or seen i 0) k ∙ reads) in
                  subst (IsFirstPoint outputs pins) (sym (ap (λ b. cond b (Output least) (Cell (least - length n.outputs))) (not_below least (length n.outputs) there))) (
                    no_output there,
                    record {
                      label = at values blank w.0;
                      here = slice_get-get_or pins (least - length n.outputs) blank (omega arith)
                          ∙ ap Some (get_or-map (λ (d : Definition). at values blank (get_or d.pins 0 0)) (cells n) (least - length n.outputs) e blank j ∙ ap (at values blank) same);
                      effect = w.2;
                      before = none_up_to pins (least - length n.outputs) (λ i below within. pins_before i (omega arith) (omega arith));
                    },
                  )
            ]

      at_points : (state : State) → IsStateInView n first (length seen) values ids state → IsStateOf false outputs pins state
      at_points (Test point) h = (refl, subst (IsFirstPoint outputs pins) (sym h.4) (first_point h.0 h.1 h.2 h.3))
      at_points Blocked h = inr (outputs_may_not (length seen) h, pins_may_not (length seen) h)
      at_points Going h =
          let w = h.some refl in
          (refl, no_output (length seen) true h (let c = count (length seen) true h in omega arith), no_pin (length seen) true h refl, some_may w.0 w.1 w.2)

      pub state_seen : (state : State) → IsStateInView n first (length seen) values ids state
          → IsStateOf false (outs (labels (Some f) path) n (at values blank)) (next (labels (Some f) path) n (at values blank)) state
      state_seen state h =
          subst (λ (ls : List Label). IsStateOf false ls (next (labels (Some f) path) n (at values blank)) state) (sym outs_are)
          (subst (λ (ls : List Label). IsStateOf false outputs ls state) (sym next_are) (at_points state h))

-- ---- one signal more in view

module _ (first : List ℕ) (count : ℕ) (values : List Label) (ids : List ℕ) (x least least' : ℕ) (differs : Bool) (view : AreViewed first count values ids least differs) where
  least_more : (c : Bool) → c ≡ (has_effect (at values blank x) && ltb (get_or first x 0) least) → least' ≡ cond c (get_or first x 0) least
      → (least' ≤ least)
      × (least' < count → (y : ℕ) × Contains (ids ++ x ∷ []) y × (has_effect (at values blank y) ≡ true) × (get_or first y 0 ≡ least'))
      × (has_effect (at values blank x) ≡ true → least' ≤ get_or first x 0)
  least_more true e is =
      let p = and_parts (has_effect (at values blank x)) (ltb (get_or first x 0) least) (sym e) in
      let low = ltb-true (get_or first x 0) least p.1 in (
        omega arith,
        λ l. (x, Contains-push ids x, p.0, sym is),
        λ h. omega arith,
      )
  least_more false e is = (
    omega arith,
    λ l. let w = view.here (omega arith) in (w.0, Contains-append_left ids (x ∷ []) w.0 w.1, w.2, w.3 ∙ sym is),
    λ h. elim (cases_lt (get_or first x 0) least) [
      | inl low ↦ absurd (both_ways false refl (e ∙ and_from (has_effect (at values blank x)) (ltb (get_or first x 0) least) h (lt-ltb (get_or first x 0) least low)))
      | inr high ↦ omega arith
    ],
  )

  pub viewed_more : least' ≡ cond (has_effect (at values blank x) && ltb (get_or first x 0) least) (get_or first x 0) least
      → AreViewed first count values (ids ++ x ∷ []) least' (differs || (at values blank x).may_differ)
  viewed_more is =
      let m = least_more (has_effect (at values blank x) && ltb (get_or first x 0) least) refl is in
      let low = m.0 in record {
        bounded = (let b = view.bounded in omega arith);
        here = m.1;
        before = λ y c h. elim (Contains-append_cases ids (x ∷ []) y c) [
          | inl old ↦ (let b = view.before y old h in omega arith)
          | inr new ↦ elim (contains_cases x y [] new) [
            | inl e ↦ subst (λ z. least' ≤ get_or first z 0) e (m.2 (ap (λ z. has_effect (at values blank z)) e ∙ h))
            | inr none ↦ absurd (contains_nil y none)
          ]
        ];
        some = λ h. elim (or_cases differs (at values blank x).may_differ h) [
          | inl old ↦ (let w = view.some old in (w.0, Contains-append_left ids (x ∷ []) w.0 w.1, w.2))
          | inr new ↦ (x, Contains-push ids x, new)
        ];
        none = λ h y c. (
            let p = or_parts differs (at values blank x).may_differ h in
            elim (Contains-append_cases ids (x ∷ []) y c) [
              | inl old ↦ view.none p.0 y old
              | inr new ↦ elim (contains_cases x y [] new) [
                | inl e ↦ subst (λ z. (at values blank z).may_differ ≡ false) e p.1
                | inr none ↦ absurd (contains_nil y none)
              ]
            ]
            );
      }
