-- Ways that are open, as their check goes over them.
use Rattle.std.proofs.Common.{◌≡◌, ◌↔◌, ℕ, ◌+◌, ◌<◌, ◌≤◌, ◌⊎◌, Bool, true, false, cond, ◌&&◌, List, [], ◌∷◌, length, get_or, map, Result, refl, sym, ◌∙◌, ap, subst, inl, inr, eqb, eq-eqb, arith}
use Rattle.std.specs.Bool.{MatchBool}
use Rattle.std.specs.Result.{IfOk}
use Rattle.std.specs.List.{All, Contains, filter, flat_map}
use Rattle.std.proofs.lemmas.Bool.{both_ways, cases_Bool, cases_lt, eqb-true, ne_eqb, and_left, false_from_ne_true}
use Rattle.std.proofs.lemmas.List.{get_or_default, get_or_append_left}
use Rattle.std.proofs.lemmas.List.Elements.{All-contains, Contains-append_left, Contains-append_right, Contains-append_cases}
use Rattle.std.proofs.lemmas.Result.{IfOk-weaker}
use Rattle.statement.specs.declared.lines.Line.{Line}
use Rattle.statement.specs.declared.lines.Line.TheVariants.{Stem, Pin, Out}
use Rattle.statement.specs.declared.lines.Fault.{Fault}
use Rattle.statement.specs.Netlists.{Definition, Netlist, is_cell, cells, pins_reading, readers_of}
use Rattle.netlist.specs.Netlist.{Reads, IsGateAt}
use Rattle.netlist.specs.Conditions.{IsSound}
use Rattle.netlist.specs.Lines.{IsLineOf}
use Rattle.statement.specs.Values.{is_line}
use Rattle.netlist.proofs.Lists.{All-from_contains, contains_cases, contains_head, contains_tail, contains_nil, contains_filter, filter_contains}
use Rattle.refutation.specs.Cones.{Enters}
use Rattle.refutation.specs.Refutations.{Told, may_differ, IsShutOff, IsNoWay}
use Rattle.refutation_check.specs.inner.Marks.{Marked, is_marked, AreListed, IsClear, Spreads}
use Rattle.refutation_check.specs.inner.Ways.{IsDiffering, PassedBy, IsObserved, IsPassed, AreWaysPassed, AreOnWays, IsWayOpen, IsWayShut}
use Rattle.refutation_check.proofs.MarkLemmas.{spreads_then, spreads_wider, pin_at, part_in, part_from, gate_reader, reader_gate, pin_signal, not_gate, gate_at}
use Rattle.refutation_check.proofs.ReasonLemmas.{mapped_contains}

-- ---- the lines that read a signal

pins_only : (x z j : ℕ) (ys : List ℕ) (line : Line) → Contains (pins_reading x z j ys) line → (k : ℕ) × (line ≡ Pin z k) × Contains ys x
pins_only x z j [] line c = absurd (contains_nil line c)
pins_only x z j (y ∷ ys) line c =
    let rest : List Line = pins_reading x z (j + 1) ys in
    let later : Contains rest line → (k : ℕ) × (line ≡ Pin z k) × Contains (y ∷ ys) x = λ c. let r = pins_only x z (j + 1) ys line c in (r.0, r.1, contains_tail y x ys r.2) in
    let step : (t : Bool) → eqb y x ≡ t → Contains (cond t (Pin z j ∷ rest) rest) line → (k : ℕ) × (line ≡ Pin z k) × Contains (y ∷ ys) x =
    elim [
      | true ↦ λ e c. elim (contains_cases (Pin z j) line rest c) [
        | inl is ↦ (j, sym is, subst (λ v. Contains (y ∷ ys) v) (eqb-true y x e) (contains_head y ys))
        | inr r ↦ later r
      ]
      | false ↦ λ e c. later c
    ] in
    step (eqb y x) refl c

line_cases : (n : Netlist) (x : ℕ) (line : Line) → Contains (readers_of n x) line
    → ((d : Definition) × (k : ℕ) × Contains n.definitions d × (line ≡ Pin d.id k) × Contains d.pins x) ⊎ Contains n.outputs x
line_cases n x line c =
    let kept : List ℕ = filter (λ y. eqb y x) n.outputs in
    elim (Contains-append_cases (flat_map (λ (d : Definition). pins_reading x d.id 0 d.pins) n.definitions) (map (λ y. Out y) kept) line c) [
      | inl m ↦
          let p = part_from (λ (d : Definition). pins_reading x d.id 0 d.pins) n.definitions line m in
          let r = pins_only x p.0.id 0 p.0.pins line p.2 in
          inl (p.0, r.0, p.1, r.1, r.2)
      | inr o ↦
          let w = out_from kept line o in
          let m = contains_filter (λ y. eqb y x) n.outputs w.0 w.1 in
          inr (subst (Contains n.outputs) (eqb-true w.0 x m.1) m.0)
    ] where
      out_from : (ys : List ℕ) (line : Line) → Contains (map (λ y. Out y) ys) line → (y : ℕ) × Contains ys y
      out_from [] line c = absurd (contains_nil line c)
      out_from (y ∷ ys) line c = (y, contains_head y ys)

pin_reader : (n : Netlist) (x : ℕ) (d : Definition) → Contains n.definitions d → Contains d.pins x → (k : ℕ) × Contains (readers_of n x) (Pin d.id k)
pin_reader n x d c m =
    let p = pin_at x d.id 0 d.pins m in
    let outs : List Line = map (λ y. Out y) (filter (λ y. eqb y x) n.outputs) in (
      p.0,
      Contains-append_left (flat_map (λ (d : Definition). pins_reading x d.id 0 d.pins) n.definitions) outs (Pin d.id p.0)
          (part_in (λ (d : Definition). pins_reading x d.id 0 d.pins) n.definitions d (Pin d.id p.0) c p.1),
    )

out_reader : (n : Netlist) (x : ℕ) → Contains n.outputs x → Contains (readers_of n x) (Out x)
out_reader n x c =
    Contains-append_right (flat_map (λ (d : Definition). pins_reading x d.id 0 d.pins) n.definitions) (map (λ y. Out y) (filter (λ y. eqb y x) n.outputs)) (Out x)
    (mapped_contains (λ y. Out y) (filter (λ y. eqb y x) n.outputs) x (filter_contains (λ y. eqb y x) n.outputs x c (eq-eqb x x refl)))

-- a line that isn't a gate's pin observes the signal
pub line_observed : (n : Netlist) (x : ℕ) (line : Line) → Contains (readers_of n x) line → ((z k : ℕ) → line ≡ Pin z k → IsGateAt n z → ⊥) → IsObserved n x
line_observed n x line c h = elim (line_cases n x line c) [
  | inl w ↦ elim (cases_Bool (is_cell w.0)) [
    | inl cell ↦ inr (w.0, filter_contains is_cell n.definitions w.0 w.2 cell, w.4)
    | inr gate ↦ absurd (h w.0.id w.1 w.3 (gate_at n w.0 w.0.id w.2 refl gate))
  ]
  | inr o ↦ inl o
]

-- ---- one signal's readers

-- a gate's pin; and the gate is marked, if it may differ
abbrev pub IsPassedLine : Netlist → Told → List Bool → Line → Type 0
IsPassedLine n told marks line = (z : ℕ) × ((k : ℕ) × (line ≡ Pin z k)) × IsGateAt n z × (may_differ told z ≡ true → is_marked marks z ≡ true)

pub lines_more : (n : Netlist) (told : Told) (lines : List Line) (k : ℕ) (line : Line) (old new : List Bool) → k < length lines → line ≡ get_or lines k line
    → ((y : ℕ) → is_marked old y ≡ true → is_marked new y ≡ true) → IsPassedLine n told new line
    → ((j : ℕ) (d : Line) → j < k → IsPassedLine n told old (get_or lines j d)) → (j : ℕ) (d : Line) → j < k + 1 → IsPassedLine n told new (get_or lines j d)
lines_more n told lines k line old new below is kept here before j d l = elim (cases_lt j k) [
  | inl low ↦ let w = before j d low in (w.0, w.1, w.2, λ m. kept w.0 (w.3 m))
  | inr high ↦
      let at : k ≡ j = omega arith in
      subst (IsPassedLine n told new) (is ∙ (get_or_default lines k line d below ∙ ap (λ m. get_or lines m d) at)) here
]

pub lines_passed : (n : Netlist) → IsSound n → (told : Told) (x : ℕ) (lines : List Line) (k : ℕ) (m : Marked) → lines ≡ readers_of n x → length lines ≤ k
    → ((j : ℕ) (d : Line) → j < k → IsPassedLine n told m.marks (get_or lines j d)) → IsPassed n told m x
lines_passed n sound told x lines k m e l h =
    let all : (line : Line) → Contains (readers_of n x) line → IsPassedLine n told m.marks line =
    λ line c. let c = subst (λ (ls : List Line). Contains ls line) (sym e) c in let low = c.1 in subst (IsPassedLine n told m.marks) c.2 (h c.0 line (omega arith)) in
    record {
      gates = λ z r.
          let p = gate_reader n x z r.0 in
          let w = all (Pin z p.0) p.1 in
          let same : z ≡ w.0 = pin_signal z p.0 w.0 w.1.0 w.1.1 in
          subst (λ y. is_marked m.marks y ≡ true) (sym same) (w.3 (subst (λ y. may_differ told y ≡ true) same r.1));
      unseen = λ o. elim o [
        | inl out ↦ let w = all (Out x) (out_reader n x out) in not_pin x w.0 w.1.0 w.1.1
        | inr cell ↦
            let d = cell.0 in
            let c = contains_filter is_cell n.definitions d cell.1 in
            let p = pin_reader n x d c.0 cell.2 in
            let w = all (Pin d.id p.0) p.1 in
            not_gate n sound d d.id w.0 c.0 refl c.1 (sym (pin_signal d.id p.0 w.0 w.1.0 w.1.1)) w.2
      ];
    } where
      not_pin : (x z k : ℕ) → Out x ≡ Pin z k → ⊥
      not_pin x z k e = cc

pub spreads_passer : (n : Netlist) → IsSound n → (told : Told) (x : ℕ) (line : Line) → Contains (readers_of n x) line → (start old new : Marked) (z k : ℕ) → IsGateAt n z → line ≡ Pin z k
    → Spreads (PassedBy n told x) start old → Spreads (IsDiffering told z) old new → Spreads (PassedBy n told x) start new
spreads_passer n sound told x line c start old new z k g is s t =
    spreads_then (PassedBy n told x) start old new s
    (spreads_wider (IsDiffering told z) (PassedBy n told x) old new
    (λ y e. (subst (λ w. Reads n w x) (sym e.0) (reader_gate n sound x z k g (subst (Contains (readers_of n x)) is c)), e.1)) t)

-- ---- one signal after the other

pub ways_more : (n : Netlist) (told : Told) (start old new : Marked) (id : ℕ) → is_marked old.marks id ≡ true → Spreads (PassedBy n told id) old new → AreOnWays n told start old → AreOnWays n told start new
ways_more n told start old new id here s h x m set closed = elim (s.only x m) [ inl w ↦ h x w set closed | inr r ↦ closed.passed id x (h id here set closed) r ]

pub ways_passed_more : (n : Netlist) (told : Told) (old new : Marked) (id next : ℕ) → next < length old.list → id ≡ get_or old.list next id → Spreads (PassedBy n told id) old new
    → IsPassed n told new id → AreWaysPassed n told old next → AreWaysPassed n told new (next + 1)
ways_passed_more n told old new id next below is s here h j x l k e =
    let place : (i : ℕ) → i < length old.list → get_or new.list i x ≡ get_or old.list i x =
    λ i low. ap (λ xs. get_or xs i x) s.list ∙ get_or_append_left old.list s.ids x i low in
    elim (cases_lt j next) [
      | inl low ↦
          let w = h j x low (omega arith) (sym (place j (omega arith)) ∙ e) in
          record { gates = λ z p. s.kept z (w.gates z p); unseen = w.unseen }
      | inr high ↦
          let at : next ≡ j = omega arith in
          let same : x ≡ id = sym e ∙ (place j (omega arith) ∙ (ap (λ i. get_or old.list i x) (sym at) ∙ (get_or_default old.list next x id below ∙ sym is))) in
          subst (IsPassed n told new) (sym same) here
    ]

-- ---- from where the fault enters

enters_once : (n : Netlist) (line : Line) (x y : ℕ) → Enters n line x → Enters n line y → x ≡ y
enters_once n (Stem w) x y e g = e ∙ sym g
enters_once n (Pin w k) x y e g = e.0 ∙ sym g.0
enters_once n (Out w) x y e g = absurd e

pub off_out : (n : Netlist) (line : Line) (x y : ℕ) → Enters n line x → is_line line (Out y) ≡ false
off_out n (Stem w) x y e = refl
off_out n (Pin w k) x y e = refl
off_out n (Out w) x y e = absurd e

pub off_cell : (n : Netlist) → IsSound n → (line : Line) (x : ℕ) (d : Definition) (k : ℕ) → Enters n line x → Contains (cells n) d → is_line line (Pin d.id k) ≡ false
off_cell n sound (Stem w) x d k e c = refl
off_cell n sound (Out w) x d k e c = refl
off_cell n sound (Pin w j) x d k e c =
    let m = contains_filter is_cell n.definitions d c in
    and_left (eqb w d.id) (eqb j k) (ne_eqb w d.id (λ same. not_gate n sound d d.id x m.0 refl m.1 (e.0 ∙ same) (subst (IsGateAt n) (sym e.0) e.1)))

-- it enters no gate: its line is an output or a cell's
pub no_entry : (n : Netlist) (f : Fault) (told : Told) → IsLineOf n f.line → ((x : ℕ) → Enters n f.line x → ⊥) → (false ≡ true) ↔ IsNoWay n f told
no_entry n f told line none = ((λ e. absurd (both_ways false refl e)), (λ w. absurd (refused n f told w.0 w.1 f.line refl line none))) where
  refused : (n : Netlist) (f : Fault) (told : Told) (set : ℕ → Bool) → IsShutOff n f told set → (line : Line) → line ≡ f.line → IsLineOf n line → ((x : ℕ) → Enters n f.line x → ⊥) → ⊥
  refused n f told set shut (Stem x) e c none = none x (subst (λ (l : Line). Enters n l x) e refl)
  refused n f told set shut (Out x) e c none =
      let off = All-contains (λ y. (set y ≡ false) × (is_line f.line (Out y) ≡ false)) n.outputs x shut.outputs c in
      both_ways (is_line f.line (Out x)) off.1 (ap (λ (l : Line). is_line l (Out x)) (sym e) ∙ eq-eqb x x refl)
  refused n f told set shut (Pin z k) e c none = elim (cases_Bool (is_cell c.0)) [
    | inl cell ↦
        let off = All-contains (λ (d : Definition). All (λ y. set y ≡ false) d.pins × ((j : ℕ) → is_line f.line (Pin d.id j) ≡ false)) (cells n) c.0 shut.cells
        (filter_contains is_cell n.definitions c.0 c.1 cell) in
        both_ways (is_line f.line (Pin c.0.id k)) (off.1 k) (ap (λ (l : Line). is_line l (Pin c.0.id k)) (sym e) ∙ both_so (eqb z c.0.id) (eqb k k) (eq-eqb z c.0.id (sym c.2)) (eq-eqb k k refl))
    | inr gate ↦ none z (subst (λ (l : Line). Enters n l z) e (refl, gate_at n c.0 z c.1 c.2 gate))
  ] where
    both_so : (a b : Bool) → a ≡ true → b ≡ true → (a && b) ≡ true
    both_so true b e h = h
    both_so false b e h = e

module _ (n : Netlist) (sound : IsSound n) (f : Fault) (told : Told) (id : ℕ) (enters : Enters n f.line id) (none one : Marked) (clear : IsClear none)
    (here : may_differ told id ≡ true → is_marked one.marks id ≡ true) (s : Spreads (IsDiffering told id) none one) where
  shut_from : (all : Marked) → AreListed all → IsWayShut n told one all → IsNoWay n f told
  shut_from all listed w =
      let passed : (x : ℕ) → is_marked all.marks x ≡ true → IsPassed n told all x = λ x m. let c = listed.only x m in w.passed c.0 x c.1 c.1 c.2 in
      let off : (x : ℕ) → IsObserved n x → is_marked all.marks x ≡ false = λ x o. false_from_ne_true (is_marked all.marks x) (λ m. (passed x m).unseen o) in (
        is_marked all.marks,
        record {
          entered = λ x e d.
              let same : x ≡ id = enters_once n f.line x id e enters in
              w.kept x (subst (λ y. is_marked one.marks y ≡ true) (sym same) (here (subst (λ y. may_differ told y ≡ true) same d)));
          passed = λ x z m r d. (passed x m).gates z (r, d);
          outputs = All-from_contains (λ x. (is_marked all.marks x ≡ false) × (is_line f.line (Out x) ≡ false)) n.outputs (λ x c. (off x (inl c), off_out n f.line id x enters));
          cells = All-from_contains (λ (d : Definition). All (λ x. is_marked all.marks x ≡ false) d.pins × ((k : ℕ) → is_line f.line (Pin d.id k) ≡ false)) (cells n)
              (λ d c. (All-from_contains (λ x. is_marked all.marks x ≡ false) d.pins (λ x m. off x (inr (d, c, m))), λ k. off_cell n sound f.line id d k enters c));
        },
      )

  open_from : IsWayOpen n told one → IsNoWay n f told → ⊥
  open_from w none_open =
      let set = none_open.0 in
      let shut = none_open.1 in
      let on : set w.0 ≡ true = w.2 set (record {
        marked = λ x m. elim (s.only x m) [
          | inl old ↦ absurd (both_ways (is_marked none.marks x) (clear.none x) old)
          | inr d ↦ shut.entered x (subst (Enters n f.line) (sym d.0) enters) d.1
        ];
        passed = λ x z m p. shut.passed x z m p.0 p.1;
      }) in
      elim w.1 [
        | inl out ↦ both_ways (set w.0) (All-contains (λ y. (set y ≡ false) × (is_line f.line (Out y) ≡ false)) n.outputs w.0 shut.outputs out).0 on
        | inr cell ↦
            let off = All-contains (λ (d : Definition). All (λ y. set y ≡ false) d.pins × ((j : ℕ) → is_line f.line (Pin d.id j) ≡ false)) (cells n) cell.0 shut.cells cell.1 in
            both_ways (set w.0) (All-contains (λ y. set y ≡ false) cell.0.pins w.0 off.0 cell.2) on
      ]

  pub way_answer : {E : Type 0} (all : Marked) (r : Result Bool E) → AreListed all → IfOk r (λ b. MatchBool b (IsWayShut n told one all) (IsWayOpen n told one)) → IfOk r (λ b. (b ≡ true) ↔ IsNoWay n f told)
  way_answer all r listed h =
      IfOk-weaker r (λ b. MatchBool b (IsWayShut n told one all) (IsWayOpen n told one)) (λ b. (b ≡ true) ↔ IsNoWay n f told) (at_bit all listed) h where
        at_bit : (all : Marked) → AreListed all → (b : Bool) → MatchBool b (IsWayShut n told one all) (IsWayOpen n told one) → (b ≡ true) ↔ IsNoWay n f told
        at_bit all listed true w = ((λ e. shut_from all listed w), (λ _. refl))
        at_bit all listed false w = ((λ e. absurd (both_ways false refl e)), (λ v. absurd (open_from w v)))
