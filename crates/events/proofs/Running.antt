-- One gate more has settled.
use Rattle.std.proofs.Common.{◌≡◌, ℕ, ◌+◌, ◌<◌, ◌≤◌, ◌≢◌, Bool, true, false, List, [], ◌∷◌, ◌++◌, ◌||◌, length, get_or, set, refl, sym, ◌∙◌, ap, subst, inl, inr, eqb, arith, append_assoc}
use Rattle.std.specs.List.{Contains, list_any}
use Rattle.std.proofs.lemmas.Bool.{cases_eq, cases_lt, cases_Bool, both_ways, or_parts, or_from, or_cases, eqb-false, ne_eqb}
use Rattle.std.proofs.lemmas.List.{append-nil, length-set, get_or-set_same, get_or-set_other, get_or_past}
use Rattle.std.proofs.lemmas.List.Elements.{Contains-push_cases, Contains-append_cases}
use Rattle.statement.specs.declared.lines.Line.TheVariants.{Stem}
use Rattle.statement.specs.Netlists.{Definition, Netlist, is_cell, cells, gates, signals, readers_of}
use Rattle.netlist.specs.Netlist.{also}
use Rattle.netlist.specs.Conditions.{IsSound}
use Rattle.netlist.specs.Orders.{IsOrder, ArePlaces}
use Rattle.statement.specs.Values.{Rule}
use Rattle.netlist.specs.Settled.{at}
use Rattle.netlist.proofs.Lists.{contains_nil, contains_cases, contains_filter}
use Rattle.netlist.proofs.Placed.{gate_defined, definition_below, input_below}
use Rattle.netlist.proofs.Settling.{zip_kept}
use Rattle.events.specs.declared.trails.Change.{Change}
use Rattle.events.specs.Agendas.{marked, IsFirst, AreClear}
use Rattle.events.specs.inner.Placing.{waiting, is_pin_at}
use Rattle.events.specs.inner.Running.{CallsTurned, IsMade, StaysSame, Turns, Takes, AreUnderway, Resettles, PutsSource, Touches}
use Rattle.events.specs.Trails.{AreChanges}
use Rattle.events.specs.Waiting.{IsDrivenTo}
use Rattle.events.proofs.Sources.{source_step_settles, source_turn_settles}
use Rattle.events.proofs.Steps.{step_settles, turn_settles, none_waits, more_wait}
use Rattle.netlist.proofs.Orders.{place_of, place_there, reads_above}
use Rattle.events.proofs.Placing.{gate_at_place, read_called, called_reads, marked_set}
use Rattle.events.proofs.Changes.{none_changed, one_changed, both_changes}

-- at the start
pub begun : {V : Type 0} (rule : Rule V) (n : Netlist) (places : List ℕ) (values : List V) (marks : List Bool) (trail : List (Change V))
    → AreUnderway rule n places values values marks marks trail trail 0
begun rule n places values marks trail = record {
  size = refl;
  bounded = omega arith;
  later = λ q h. omega arith;
  settles = λ inputs state d h. h;
  changes = [];
  trail_is = sym (append-nil trail);
  are_changes = none_changed values;
  placed = λ c m. absurd (contains_nil c m);
}

-- at the end
pub ended : {V : Type 0} (rule : Rule V) (n : Netlist) (places : List ℕ) (old new : List V) (marks marks' : List Bool) (trail trail' : List (Change V)) (below : ℕ)
    → AreUnderway rule n places old new marks marks' trail trail' below → AreClear marks' → Resettles rule n places old new marks trail trail'
ended rule n places old new marks marks' trail trail' below h clear = record {
  settles = λ inputs state d s. none_waits rule n inputs state (at new d) (waiting marks' places) (λ x. clear (get_or places x 0)) (h.settles inputs state d s);
  changes = h.changes;
  trail_is = h.trail_is;
  are_changes = h.are_changes;
  placed = λ c m. let l = h.placed c m in let b = h.bounded in omega arith;
}

-- a mark is taken out
unmarked_same : (marks : List Bool) (p : ℕ) → marked (set marks p false) p ≡ false
unmarked_same marks p = elim (cases_lt p (length marks)) [
  | inl l ↦ get_or-set_same marks p false false l
  | inr past ↦ let n = length-set marks p false in get_or_past (set marks p false) p false (omega arith)
]

unmarked_other : (marks : List Bool) (p q : ℕ) → q ≢ p → marked (set marks p false) q ≡ marked marks q
unmarked_other marks p q ne = get_or-set_other marks p q false false ne

module _ {V : Type 0} (rule : Rule V) (n : Netlist) (sound : IsSound n) (order places : List ℕ) (ordered : IsOrder n order) (h : ArePlaces n order places)
    (old values new : List V) (marks before after : List Bool) (trail trail' trail'' : List (Change V)) (below p id : ℕ) (v : V)
    (size : length old ≡ length (signals n)) (marks_size : length marks ≡ length order)
    (so_far : AreUnderway rule n places old values marks before trail trail' below)
    (first : IsFirst before p) (here : id ≡ get_or order p 0) (value : IsMade rule n id values v) where
  p_low : p < length order
  p_low = let l = first.within in let s = so_far.size in omega arith

  gate : (g : Definition) × Contains (gates n) g × (g.id ≡ id)
  gate = let w = ordered.members p 0 p_low in (w.0, w.1, w.2 ∙ sym here)

  id_place : get_or places id 0 ≡ p
  id_place = ap (λ x. get_or places x 0) here ∙ h.gates p p_low

  id_low : id < length (signals n)
  id_low = subst (λ x. x < length (signals n)) gate.2 (definition_below n sound.formed.numbered gate.0 (gate_defined n sound.formed.numbered gate.0 gate.1))

  below_p : below ≤ p
  below_p = so_far.later p first.here

  -- a signal but this one that doesn't wait once the mark is taken out didn't wait before
  kept : (x : ℕ) → x < length (signals n) → x ≢ id → marked (set before p false) (get_or places x 0) ≡ false → marked before (get_or places x 0) ≡ false
  kept x l ne f =
      let other : get_or places x 0 ≢ p = λ e. ne (sym (place_there n sound.formed.numbered order ordered places h x l (subst (λ k. k < length order) (sym e) p_low)) ∙ (ap (λ k. get_or order k 0) e ∙ sym here)) in
      sym (unmarked_other before p (get_or places x 0) other) ∙ f

  -- what is marked once the mark is taken out comes later
  left_later : (q : ℕ) → marked (set before p false) q ≡ true → p + 1 ≤ q
  left_later q m = elim (cases_eq q p) [
    | inl e ↦ absurd (both_ways (marked (set before p false) q) (ap (marked (set before p false)) e ∙ unmarked_same before p) m)
    | inr ne ↦ elim (cases_lt q p) [
      | inl low ↦ absurd (both_ways (marked before q) (first.before q low) (sym (unmarked_other before p q ne) ∙ m))
      | inr high ↦ omega arith
    ]
  ]

  stays : StaysSame id v values new (set before p false) after trail' trail'' → AreUnderway rule n places old new marks after trail trail'' (p + 1)
  stays s = record {
    size = ap length s.marks_are ∙ (length-set before p false ∙ so_far.size);
    bounded = let l = p_low in omega arith;
    later = λ q m. left_later q (sym (ap (λ ms. marked ms q) s.marks_are) ∙ m);
    settles = λ inputs state d start. step_settles rule n inputs state (at values d) (at new d) (waiting before places) (waiting after places) gate.0 sound gate.1
        record {
          value = ap (λ vs. at vs d gate.0.id) s.values ∙ (ap (at values d) gate.2 ∙ (sym (s.same d) ∙ value gate.0 d gate.1 gate.2));
          others = λ x ne. ap (λ vs. at vs d x) s.values;
          waiting = λ x l ne f. kept x l (λ e. ne (e ∙ sym gate.2)) (sym (ap (λ ms. marked ms (get_or places x 0)) s.marks_are) ∙ f);
          readers = λ e c r f. ap (λ vs. at vs d gate.0.id) s.values;
        }
        (so_far.settles inputs state d start);
    changes = so_far.changes;
    trail_is = s.trail_is ∙ so_far.trail_is;
    are_changes = subst (λ vs. AreChanges old vs so_far.changes) (sym s.values) so_far.are_changes;
    placed = λ c m. let l = so_far.placed c m in let b = below_p in omega arith;
  }

  -- what doesn't wait after the readers are called didn't wait before
  called_kept : CallsTurned rule n (readers_of n id) places values new (set before p false) after → (q : ℕ) → marked after q ≡ false → marked (set before p false) q ≡ false
  called_kept calls q f = elim (cases_Bool (marked (set before p false) q)) [
    | inl m ↦ absurd (both_ways (marked after q) f (calls.kept q m))
    | inr none ↦ none
  ]

  turns : Turns rule n places id v values new (set before p false) after trail' trail'' → AreUnderway rule n places old new marks after trail trail'' (p + 1)
  turns t =
      let values_size : length values ≡ length old = so_far.are_changes.size in
      let within : id < length values = subst (λ k. id < k) (sym (values_size ∙ size)) id_low in
      let bound : length (set before p false) ≡ length order = length-set before p false ∙ (so_far.size ∙ marks_size) in
      record {
        size = t.calls.size ∙ (length-set before p false ∙ so_far.size);
        bounded = let l = p_low in omega arith;
        later = λ q m. elim (cases_lt q (length (set before p false))) [
          | inr past ↦ absurd (let s = t.calls.size in both_ways (marked after q) (get_or_past after q false (omega arith)) m)
          | inl l ↦ elim (or_cases (marked (set before p false) q) (list_any (is_pin_at places q) (readers_of n id)) (t.calls.only q l m)) [
            | inl was ↦ left_later q was
            | inr called ↦
                let w = called_reads places q id n called in
                let at_q : get_or places w.0.id 0 ≡ q = w.2 in
                let is = gate_at_place n sound.formed.numbered order places ordered h w.0 w.1 (omega arith) in
                let i = id_place in
                let p_in = p_low in
                let above = reads_above n sound.formed.numbered order ordered places h sound.closed w.0 id is w.3 (omega arith) in
                omega arith
          ]
        ];
        settles = λ inputs state d start. turn_settles rule n inputs state (at values d) (at new d) (waiting before places) (waiting after places) gate.0 sound gate.1
            record {
              value = ap (λ vs. at vs d gate.0.id) t.values ∙ (ap (at (set values id v) d) gate.2 ∙ (get_or-set_same values id v d within ∙ value gate.0 d gate.1 gate.2));
              others = λ x ne. ap (λ vs. at vs d x) t.values ∙ get_or-set_other values id x v d (λ e. ne (e ∙ sym gate.2));
              waiting = λ x l ne f. kept x l (λ e. ne (e ∙ sym gate.2)) (called_kept t.calls (get_or places x 0) f);
              readers = λ e c r f. elim (t.calls.called e c (read_called places (get_or places e.id 0) id n e (gate_defined n sound.formed.numbered e c) refl (subst (λ x. Contains e.pins x) gate.2 r))) [
                | inl m ↦ absurd (both_ways (marked after (get_or places e.id 0)) f m)
                | inr same ↦ same d
              ];
            }
            (so_far.settles inputs state d start);
        changes = so_far.changes ++ t.change ∷ [];
        trail_is = t.trail_is ∙ (ap (λ cs. cs ++ t.change ∷ []) so_far.trail_is ∙ append_assoc trail so_far.changes (t.change ∷ []));
        are_changes = subst (λ vs. AreChanges old vs (so_far.changes ++ t.change ∷ [])) (ap (λ x. set values x v) t.signal ∙ sym t.values)
            (one_changed old values so_far.changes t.change v so_far.are_changes
            (subst (λ x. x < length old) (sym t.signal) (subst (λ k. id < k) (sym size) id_low))
            (λ b m e. let l = so_far.placed b m in let bp = below_p in
            let same : get_or places b.signal 0 ≡ p = ap (λ x. get_or places x 0) (e ∙ t.signal) ∙ id_place in omega arith)
            (λ d. t.before d ∙ ap (at values d) (sym t.signal)) t.differs);
        placed = λ c m. elim (Contains-push_cases so_far.changes t.change c m) [
          | inl was ↦ let l = so_far.placed c was in let b = below_p in omega arith
          | inr is ↦
              let same : get_or places c.signal 0 ≡ p = ap (λ (b : Change V). get_or places b.signal 0) (sym is) ∙ (ap (λ x. get_or places x 0) t.signal ∙ id_place) in
              omega arith
        ];
      }

  pub one_more : Takes rule n places id v values new (set before p false) after trail' trail'' → AreUnderway rule n places old new marks after trail trail'' (p + 1)
  one_more takes = elim takes.does [
    | inl s ↦ stays s
    | inr t ↦ turns t
  ]

-- an input or a cell takes a value
module _ {V : Type 0} (rule : Rule V) (n : Netlist) (sound : IsSound n) (order places : List ℕ) (ordered : IsOrder n order) (h : ArePlaces n order places)
    (old new : List V) (marks after : List Bool) (trail trail' : List (Change V)) (id : ℕ) (v : V)
    (low : id < length (signals n)) (size : length old ≡ length (signals n)) (marks_size : length marks ≡ length order) (behind : get_or places id 0 ≡ length order) where
  no_gate : (d : Definition) → Contains (gates n) d → d.id ≢ id
  no_gate d c e = let l = (place_of n sound.formed.numbered order ordered places h d c).0 in let s : get_or places d.id 0 ≡ get_or places id 0 = ap (λ x. get_or places x 0) e in omega arith

  source_stays : StaysSame id v old new marks after trail trail' → PutsSource rule n places id v old new marks after trail trail'
  source_stays s = record {
    size = ap length s.marks_are;
    settles = λ inputs state d before after' driven cover rest start. source_step_settles rule n inputs state (at old d) (at new d) before after' id v sound
        record {
          source = no_gate;
          value = ap (λ vs. at vs d id) s.values ∙ sym (s.same d);
          others = λ y ne. ap (λ vs. at vs d y) s.values;
          waiting = λ y l ne f. rest y ne (sym (ap (λ ms. marked ms (get_or places y 0)) s.marks_are) ∙ cover y f) f;
          readers = λ e c r f. ap (λ vs. at vs d id) s.values;
        }
        driven start;
    changes = [];
    trail_is = s.trail_is ∙ sym (append-nil trail);
    are_changes = subst (λ vs. AreChanges old vs []) (sym s.values) (none_changed old);
    own = λ c m. absurd (contains_nil c m);
    behind = λ c m. absurd (contains_nil c m);
  }

  source_turns : Turns rule n places id v old new marks after trail trail' → PutsSource rule n places id v old new marks after trail trail'
  source_turns t =
      let within : id < length old = subst (λ k. id < k) (sym size) low in
      record {
        size = t.calls.size;
        settles = λ inputs state d before after' driven cover rest start. source_turn_settles rule n inputs state (at old d) (at new d) before after' id v sound
            record {
              source = no_gate;
              value = ap (λ vs. at vs d id) t.values ∙ get_or-set_same old id v d within;
              others = λ y ne. ap (λ vs. at vs d y) t.values ∙ get_or-set_other old id y v d ne;
              waiting = λ y l ne f. rest y ne (elim (cases_Bool (marked marks (get_or places y 0))) [
                | inl m ↦ absurd (both_ways (marked after (get_or places y 0)) (cover y f) (t.calls.kept (get_or places y 0) m))
                | inr none ↦ none
              ]) f;
              readers = λ e c r f. elim (t.calls.called e c (read_called places (get_or places e.id 0) id n e (gate_defined n sound.formed.numbered e c) refl r)) [
                | inl m ↦ absurd (both_ways (marked after (get_or places e.id 0)) (cover e.id f) m)
                | inr same ↦ same d
              ];
            }
            driven start;
        changes = t.change ∷ [];
        trail_is = t.trail_is;
        are_changes = subst (λ vs. AreChanges old vs (t.change ∷ [])) (ap (λ x. set old x v) t.signal ∙ sym t.values)
            (one_changed old old [] t.change v (none_changed old) (subst (λ x. x < length old) (sym t.signal) within) (λ b m. absurd (contains_nil b m))
            (λ d. t.before d ∙ ap (at old d) (sym t.signal)) t.differs);
        own = λ c m. elim (contains_cases t.change c [] m) [
          | inl is ↦ sym (ap (λ (b : Change V). b.signal) is) ∙ t.signal
          | inr none ↦ absurd (contains_nil c none)
        ];
        behind = λ c m. elim (contains_cases t.change c [] m) [
          | inl is ↦ ap (λ x. get_or places x 0) (sym (ap (λ (b : Change V). b.signal) is) ∙ t.signal) ∙ (behind ∙ sym marks_size)
          | inr none ↦ absurd (contains_nil c none)
        ];
      }

  pub source_takes : Takes rule n places id v old new marks after trail trail' → PutsSource rule n places id v old new marks after trail trail'
  source_takes takes = elim takes.does [
    | inl s ↦ source_stays s
    | inr t ↦ source_turns t
  ]

-- a gate is marked
module _ {V : Type 0} (rule : Rule V) (n : Netlist) (sound : IsSound n) (order places : List ℕ) (h : ArePlaces n order places)
    (old : List V) (marks after : List Bool) (trail : List (Change V)) (id : ℕ) (v : V) (marks_size : length marks ≡ length order)
    (low : get_or places id 0 < length order) (id_in : id < length (signals n)) (is : after ≡ set marks (get_or places id 0) true) where
  less_waits : (y : ℕ) → waiting after places y ≡ false → (marked marks (get_or places y 0) ≡ false) × (y ≢ id)
  less_waits y f =
      let g : marked (set marks (get_or places id 0) true) (get_or places y 0) ≡ false = sym (ap (λ ms. marked ms (get_or places y 0)) is) ∙ f in
      let parts = or_parts (marked marks (get_or places y 0)) (eqb (get_or places id 0) (get_or places y 0))
      (sym (marked_set marks (get_or places id 0) (get_or places y 0) (omega arith)) ∙ g) in
      (parts.0, λ e. eqb-false (get_or places id 0) (get_or places y 0) parts.1 (ap (λ x. get_or places x 0) (sym e)))

  pub gate_marked : PutsSource rule n places id v old old marks after trail trail
  gate_marked = record {
    size = ap length is ∙ length-set marks (get_or places id 0) true;
    settles = λ inputs state d before after' driven cover rest start. more_wait rule n inputs state (at old d) before after' (λ y f. let w = less_waits y (cover y f) in rest y w.1 w.0 f) start;
    changes = [];
    trail_is = sym (append-nil trail);
    are_changes = none_changed old;
    own = λ c m. absurd (contains_nil c m);
    behind = λ c m. absurd (contains_nil c m);
  }

-- what a touch changed, and then what settled anew
pub put_then_settled : {V : Type 0} (rule : Rule V) (n : Netlist) (places : List ℕ) (id : ℕ) (v : V) (v0 v1 v2 : List V) (marks marks' : List Bool) (t0 t1 t2 : List (Change V))
    → (p : PutsSource rule n places id v v0 v1 marks marks' t0 t1) (r : Resettles rule n places v1 v2 marks' t1 t2)
    → (t2 ≡ t0 ++ (p.changes ++ r.changes)) × AreChanges v0 v2 (p.changes ++ r.changes)
put_then_settled rule n places id v v0 v1 v2 marks marks' t0 t1 t2 p r = (
  r.trail_is ∙ (ap (λ t. t ++ r.changes) p.trail_is ∙ append_assoc t0 p.changes r.changes),
  both_changes v0 v1 v2 p.changes r.changes p.are_changes r.are_changes (λ c d l m s.
      let one = p.behind c l in
      let two = r.placed d m in
      let size = p.size in
      let same : get_or places c.signal 0 ≡ get_or places d.signal 0 = ap (λ x. get_or places x 0) s in
      omega arith),
)

-- no signal is touched yet
pub none_touched : {V : Type 0} (rule : Rule V) (n : Netlist) (places ids : List ℕ) (values : List V) (marks : List Bool) (trail : List (Change V))
    → Touches rule n places ids values values marks marks trail trail 0
none_touched rule n places ids values marks trail = record {
  size = refl;
  settles = λ inputs state d before after driven cover rest start.
      more_wait rule n inputs state (at values d) before after (λ x f. rest x (λ k l. absurd (omega (arith, l))) (cover x f) f) start;
  changes = [];
  trail_is = sym (append-nil trail);
  are_changes = none_changed values;
  own = λ c m. absurd (contains_nil c m);
  behind = λ c m. absurd (contains_nil c m);
}

-- one signal more is touched, which isn't among those before
module _ {V : Type 0} (rule : Rule V) (n : Netlist) (places ids : List ℕ) (v0 v1 v2 : List V) (m0 m1 m2 : List Bool) (t0 t1 t2 : List (Change V)) (m i : ℕ) (w : V)
    (h : Touches rule n places ids v0 v1 m0 m1 t0 t1 m) (p : PutsSource rule n places i (rule.line (Stem i) w) v1 v2 m1 m2 t1 t2)
    (here : i ≡ get_or ids m 0) (read : (d : V) → w ≡ at v1 d i) (fresh : (k : ℕ) → k < m → get_or ids k 0 ≢ get_or ids m 0) where
  apart : (c : Change V) → Contains h.changes c → c.signal ≢ i
  apart c l e = let o = h.own c l in fresh o.0 o.1 (sym o.2 ∙ (e ∙ here))

  had : (d : V) → w ≡ at v0 d i
  had d = read d ∙ h.are_changes.others i d apart

  abbrev between : (ℕ → Bool) → ℕ → Bool
  between after x = (after x || waiting m1 places x) || eqb x i

  pub one_touched : Touches rule n places ids v0 v2 m0 m2 t0 t2 (m + 1)
  one_touched = record {
    size = p.size ∙ h.size;
    settles = λ inputs state d before after driven cover rest start.
        p.settles inputs state d (between after) after
        (subst (λ v. IsDrivenTo rule n inputs state i (rule.line (Stem i) v)) (sym (had d))
        (subst (λ x. IsDrivenTo rule n inputs state x (rule.line (Stem x) (at v0 d x))) (sym here) (driven m (omega arith))))
        cover
        (λ x ne free f. or_from (after x || waiting m1 places x) (eqb x i) (or_from (after x) (waiting m1 places x) f free) (ne_eqb x i ne))
        (h.settles inputs state d before (between after) (λ k l. driven k (omega (arith, l)))
        (λ x f. (or_parts (after x) (waiting m1 places x) (or_parts (after x || waiting m1 places x) (eqb x i) f).0).1)
        (λ x none free f.
        let parts = or_parts (after x || waiting m1 places x) (eqb x i) f in
        rest x
        (λ k l e. elim (cases_eq k m) [
          | inl last ↦ eqb-false x i parts.1 (e ∙ (ap (λ j. get_or ids j 0) last ∙ sym here))
          | inr ne ↦ none k (omega (arith, l, ne)) e
        ])
        free (or_parts (after x) (waiting m1 places x) parts.0).0)
        start);
    changes = h.changes ++ p.changes;
    trail_is = p.trail_is ∙ (ap (λ t. t ++ p.changes) h.trail_is ∙ append_assoc t0 h.changes p.changes);
    are_changes = both_changes v0 v1 v2 h.changes p.changes h.are_changes p.are_changes (λ c d l k e. apart c l (e ∙ p.own d k));
    own = λ c k. elim (Contains-append_cases h.changes p.changes c k) [
      | inl was ↦ let o = h.own c was in (o.0, (let l : o.0 < m = o.1 in omega arith), o.2)
      | inr new ↦ (m, omega arith, p.own c new ∙ here)
    ];
    behind = λ c k. elim (Contains-append_cases h.changes p.changes c k) [
      | inl was ↦ h.behind c was
      | inr new ↦ p.behind c new ∙ h.size
    ];
  }

-- what a few touches changed, and then what settled anew
pub touched_then_settled : {V : Type 0} (rule : Rule V) (n : Netlist) (places ids : List ℕ) (m : ℕ) (v0 v1 v2 : List V) (marks marks' : List Bool) (t0 t1 t2 : List (Change V))
    → (p : Touches rule n places ids v0 v1 marks marks' t0 t1 m) (r : Resettles rule n places v1 v2 marks' t1 t2)
    → (t2 ≡ t0 ++ (p.changes ++ r.changes)) × AreChanges v0 v2 (p.changes ++ r.changes)
touched_then_settled rule n places ids m v0 v1 v2 marks marks' t0 t1 t2 p r = (
  r.trail_is ∙ (ap (λ t. t ++ r.changes) p.trail_is ∙ append_assoc t0 p.changes r.changes),
  both_changes v0 v1 v2 p.changes r.changes p.are_changes r.are_changes (λ c d l m s.
      let one = p.behind c l in
      let two = r.placed d m in
      let size = p.size in
      let same : get_or places c.signal 0 ≡ get_or places d.signal 0 = ap (λ x. get_or places x 0) s in
      omega arith),
)
