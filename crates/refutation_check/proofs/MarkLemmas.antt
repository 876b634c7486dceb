-- Marks with their list, and what is reached.
use Rattle.std.proofs.Common.{◌≡◌, ℕ, ◌+◌, ◌<◌, ◌≤◌, suc, zero, Bool, true, false, cond, List, [], ◌∷◌, ◌++◌, length, get_or, set, map, Option, Some, None, refl, sym, ◌∙◌, ap, subst, inl, inr, eqb, eq-eqb, arith, append_assoc, length-append}
use Rattle.std.specs.List.{Contains, filter, flat_map}
use Rattle.std.proofs.lemmas.Bool.{both_ways, cases_eq, cases_lt, eqb-true, not_from_false, not-true}
use Rattle.std.proofs.lemmas.List.{length-set, get_or-set_same, get_or-set_other, get_or_default, get_or_append_left}
use Rattle.std.proofs.lemmas.List.Elements.{All-push, All-weaker, Contains-append_left, Contains-append_right, Contains-append_cases, Contains-push}
use Rattle.statement.specs.declared.lines.Line.{Line}
use Rattle.statement.specs.declared.lines.Line.TheVariants.{Stem, Pin, Out}
use Rattle.statement.specs.Netlists.{Definition, Netlist, is_flip_flop, is_cell, signals, pins_reading, readers_of}
use Rattle.netlist.specs.Netlist.{is_gate, Reads, IsGateAt}
use Rattle.netlist.specs.Lines.{signal_of}
use Rattle.netlist.specs.Conditions.{IsSound}
use Rattle.std.specs.Option.{MatchOption}
use Rattle.netlist.proofs.Placed.{same_definition, signal_below}
use Rattle.netlist.proofs.Settling.{above_inputs}
use Rattle.tri.proofs.LabelLemmas.{defined_is_signal}
use Rattle.refutation.specs.Cones.{Enters, IsCone}
use Rattle.netlist.proofs.Lists.{contains_cases, contains_head, contains_tail, contains_nil, contains_filter, filter_contains}
use Rattle.refutation_check.specs.inner.Marks.{Marked, marked, is_marked, AreListed, IsClear, unmarked, Spreads, Is, ReadersOf, ArePassed, AreReachedFrom, IsDefinedPin}

no : {P : Type 0} → false ≡ true → P
no e = absurd (both_ways false refl e)

-- ---- one more

unmarked_set : (marks : List Bool) (x : ℕ) → x < length marks → is_marked marks x ≡ false → unmarked (set marks x true) + 1 ≡ unmarked marks
unmarked_set [] x l h = absurd (omega (arith, l))
unmarked_set (true ∷ marks) zero l h = no (sym h)
unmarked_set (false ∷ marks) zero l h = refl
unmarked_set (true ∷ marks) (suc x) l h = unmarked_set marks x (omega arith) h
unmarked_set (false ∷ marks) (suc x) l h = let r = unmarked_set marks x (omega arith) h in omega arith

append_nil : {X : Type 0} (xs : List X) → xs ++ [] ≡ xs
append_nil [] = refl
append_nil (x ∷ xs) = ap (λ ys. x ∷ ys) (append_nil xs)

pub spreads_then : (P : ℕ → Type 0) (a b c : Marked) → Spreads P a b → Spreads P b c → Spreads P a c
spreads_then P a b c g h = record {
  size = h.size ∙ g.size;
  ids = g.ids ++ h.ids;
  list = h.list ∙ (ap (λ xs. xs ++ h.ids) g.list ∙ append_assoc a.list g.ids h.ids);
  kept = λ x m. h.kept x (g.kept x m);
  only = λ x m. elim (h.only x m) [ inl w ↦ g.only x w | inr p ↦ inr p ];
  count = h.count ∙ g.count;
  listed = λ l. h.listed (g.listed l);
}

pub spreads_wider : (P Q : ℕ → Type 0) (a b : Marked) → ((x : ℕ) → P x → Q x) → Spreads P a b → Spreads Q a b
spreads_wider P Q a b f g = record {
  size = g.size;
  ids = g.ids;
  list = g.list;
  kept = g.kept;
  only = λ x m. elim (g.only x m) [ inl w ↦ inl w | inr p ↦ inr (f x p) ];
  count = g.count;
  listed = g.listed;
}

pub marked_there : (marks : List Bool) (x : ℕ) → x < length marks → is_marked (set marks x true) x ≡ true
marked_there marks x l = get_or-set_same marks x true false l

still_marked : (marks : List Bool) (x y : ℕ) → x < length marks → is_marked marks y ≡ true → is_marked (set marks x true) y ≡ true
still_marked marks x y l h = elim (cases_eq y x) [
  | inl e ↦ ap (is_marked (set marks x true)) e ∙ marked_there marks x l
  | inr ne ↦ get_or-set_other marks x y true false ne ∙ h
]

pub spreads_one : (marks : List Bool) (list : List ℕ) (x : ℕ) → x < length marks → is_marked marks x ≡ false → Spreads (Is x) (marked marks list) (marked (set marks x true) (list ++ x ∷ []))
spreads_one marks list x l off = record {
  size = length-set marks x true;
  ids = x ∷ [];
  list = refl;
  kept = λ y h. still_marked marks x y l h;
  only = λ y h. elim (cases_eq y x) [ inl e ↦ inr e | inr ne ↦ inl (sym (get_or-set_other marks x y true false ne) ∙ h) ];
  count = let c = unmarked_set marks x l off in let s = length-append list (x ∷ []) in omega arith;
  listed = λ w. record {
    each = All-push (λ y. is_marked (set marks x true) y ≡ true) list x
        (All-weaker (λ y. is_marked marks y ≡ true) (λ y. is_marked (set marks x true) y ≡ true) (λ y h. still_marked marks x y l h) list w.each) (marked_there marks x l);
    only = λ y h. elim (cases_eq y x) [
      | inl e ↦ subst (λ z. Contains (list ++ x ∷ []) z) (sym e) (Contains-push list x)
      | inr ne ↦ Contains-append_left list (x ∷ []) y (w.only y (sym (get_or-set_other marks x y true false ne) ∙ h))
    ];
  };
}

-- ---- the pins that read a signal

pub pin_at : (x z j : ℕ) (ys : List ℕ) → Contains ys x → (k : ℕ) × Contains (pins_reading x z j ys) (Pin z k)
pin_at x z j [] c = absurd (contains_nil x c)
pin_at x z j (y ∷ ys) c =
    let rest : List Line = pins_reading x z (j + 1) ys in
    let step : (t : Bool) → eqb y x ≡ t → (k : ℕ) × Contains (cond t (Pin z j ∷ rest) rest) (Pin z k) =
    elim [
      | true ↦ λ e. (j, contains_head (Pin z j) rest)
      | false ↦ λ e. elim (contains_cases y x ys c) [ inl is ↦ absurd (both_ways (eqb y x) e (eq-eqb y x is)) | inr r ↦ pin_at x z (j + 1) ys r ]
    ] in
    step (eqb y x) refl

pin_reads : (x z j : ℕ) (ys : List ℕ) (w k : ℕ) → Contains (pins_reading x z j ys) (Pin w k) → (z ≡ w) × Contains ys x
pin_reads x z j [] w k c = absurd (contains_nil (Pin w k) c)
pin_reads x z j (y ∷ ys) w k c =
    let rest : List Line = pins_reading x z (j + 1) ys in
    let later : Contains rest (Pin w k) → (z ≡ w) × Contains (y ∷ ys) x = λ c. let r = pin_reads x z (j + 1) ys w k c in (r.0, contains_tail y x ys r.1) in
    let step : (t : Bool) → eqb y x ≡ t → Contains (cond t (Pin z j ∷ rest) rest) (Pin w k) → (z ≡ w) × Contains (y ∷ ys) x =
    elim [
      | true ↦ λ e c. elim (contains_cases (Pin z j) (Pin w k) rest c) [
        | inl is ↦ (ap signal_of is, subst (λ v. Contains (y ∷ ys) v) (eqb-true y x e) (contains_head y ys))
        | inr r ↦ later r
      ]
      | false ↦ λ e c. later c
    ] in
    step (eqb y x) refl c

pub part_in : {X Y : Type 0} (f : X → List Y) (xs : List X) (x : X) (y : Y) → Contains xs x → Contains (f x) y → Contains (flat_map f xs) y
part_in f [] x y c m = absurd (contains_nil x c)
part_in {X} {Y} f (w ∷ xs) x y c m = elim (contains_cases w x xs c) [
  | inl e ↦ Contains-append_left (f w) (flat_map f xs) y (subst (λ (v : X). Contains (f v) y) (sym e) m)
  | inr r ↦ Contains-append_right (f w) (flat_map f xs) y (part_in f xs x y r m)
]

pub part_from : {X Y : Type 0} (f : X → List Y) (xs : List X) (y : Y) → Contains (flat_map f xs) y → (x : X) × Contains xs x × Contains (f x) y
part_from f [] y c = absurd (contains_nil y c)
part_from f (w ∷ xs) y c = elim (Contains-append_cases (f w) (flat_map f xs) y c) [
  | inl m ↦ (w, contains_head w xs, m)
  | inr r ↦ let m = part_from f xs y r in (m.0, contains_tail w m.0 xs m.1, m.2)
]

not_out : (w k : ℕ) (ys : List ℕ) → Contains (map (λ y. Out y) ys) (Pin w k) → ⊥
not_out w k [] c = contains_nil (Pin w k) c
not_out w k (y ∷ ys) c = elim (contains_cases (Out y) (Pin w k) (map (λ y. Out y) ys) c) [ inl e ↦ cc | inr r ↦ not_out w k ys r ]

pub reader_pin : (n : Netlist) (x w k : ℕ) → Contains (readers_of n x) (Pin w k) → (d : Definition) × Contains n.definitions d × (d.id ≡ w) × Contains d.pins x
reader_pin n x w k c =
    let outs : List Line = map (λ y. Out y) (filter (λ y. eqb y x) n.outputs) in
    elim (Contains-append_cases (flat_map (λ (d : Definition). pins_reading x d.id 0 d.pins) n.definitions) outs (Pin w k) c) [
      | inl m ↦
          let p = part_from (λ (d : Definition). pins_reading x d.id 0 d.pins) n.definitions (Pin w k) m in
          let r = pin_reads x p.0.id 0 p.0.pins w k p.2 in
          (p.0, p.1, r.0, r.1)
      | inr o ↦ absurd (not_out w k (filter (λ y. eqb y x) n.outputs) o)
    ]

pub gate_reader : (n : Netlist) (x z : ℕ) → Reads n z x → (k : ℕ) × Contains (readers_of n x) (Pin z k)
gate_reader n x z r =
    let d = r.0 in
    let c = (contains_filter is_gate n.definitions d r.1).0 in
    let p = pin_at x d.id 0 d.pins r.3 in
    let outs : List Line = map (λ y. Out y) (filter (λ y. eqb y x) n.outputs) in (
      p.0,
      subst (λ w. Contains (readers_of n x) (Pin w p.0)) r.2
          (Contains-append_left (flat_map (λ (d : Definition). pins_reading x d.id 0 d.pins) n.definitions) outs (Pin d.id p.0)
          (part_in (λ (d : Definition). pins_reading x d.id 0 d.pins) n.definitions d (Pin d.id p.0) c p.1)),
    )

-- ---- gates and their pins

pub defined_place : (n : Netlist) → IsSound n → (d : Definition) (z : ℕ) → Contains n.definitions d → d.id ≡ z → (length n.inputs ≤ z) × (z < length (signals n))
defined_place n sound d z c is =
    let high = above_inputs n sound.formed.numbered d c in
    let low = signal_below n sound.formed.numbered d.id (defined_is_signal n d c) in (omega arith, omega arith)

pub pin_signal : (z k w j : ℕ) → Pin z k ≡ Pin w j → z ≡ w
pin_signal z k w j e = ap signal_of e

pub not_gate : (n : Netlist) → IsSound n → (d : Definition) (z w : ℕ) → Contains n.definitions d → d.id ≡ z → is_flip_flop d.kind ≡ true → w ≡ z → IsGateAt n w → ⊥
not_gate n sound d z w c is cell e g =
    let m = contains_filter is_gate n.definitions g.0 g.1 in
    let same : g.0 ≡ d = same_definition n sound.formed.numbered g.0 d m.0 c (g.2 ∙ (e ∙ sym is)) in
    both_ways (is_cell d) (not-true (is_cell d) (subst (λ (h : Definition). is_gate h ≡ true) same m.1)) cell

pub gate_at : (n : Netlist) (d : Definition) (z : ℕ) → Contains n.definitions d → d.id ≡ z → is_flip_flop d.kind ≡ false → IsGateAt n z
gate_at n d z c is gate = (d, filter_contains is_gate n.definitions d c (not_from_false (is_cell d) gate), is)

pub entry_pin : (n : Netlist) → IsSound n → (line : Line) (z k : ℕ) → line ≡ Pin z k → (r : Option ℕ)
    → MatchOption r ((w j : ℕ) → line ≡ Pin w j → IsGateAt n w → ⊥) (λ w. IsGateAt n w × ((j : ℕ) × (line ≡ Pin w j)))
    → MatchOption r ((x : ℕ) → Enters n line x → ⊥) (λ y. Enters n line y × (y < length (signals n)))
entry_pin n sound line z k is None h = λ x enters. let w = subst (λ (l : Line). Enters n l x) is enters in h z k is w.1
entry_pin n sound line z k is (Some y) h =
    let g = h.0 in
    (subst (λ (l : Line). Enters n l y) (sym h.1.1) (refl, g), (defined_place n sound g.0 y (contains_filter is_gate n.definitions g.0 g.1).0 g.2).1)

-- ---- one signal's readers

pub reached_more : (n : Netlist) (start old new : Marked) (id : ℕ) → is_marked old.marks id ≡ true → Spreads (ReadersOf n id) old new → AreReachedFrom n start old → AreReachedFrom n start new
reached_more n start old new id here s h set first pass x m = elim (s.only x m) [
  | inl w ↦ h set first pass x w
  | inr r ↦ pass id x (h set first pass id here) r
]

pub passed_more : (n : Netlist) (old new : Marked) (id next : ℕ) → next < length old.list → id ≡ get_or old.list next id → Spreads (ReadersOf n id) old new
    → ((z : ℕ) → Reads n z id → is_marked new.marks z ≡ true) → ArePassed n old next → ArePassed n new (next + 1)
passed_more n old new id next below is s here h j x l k e z r =
    let place : (i : ℕ) → i < length old.list → get_or new.list i x ≡ get_or old.list i x =
    λ i low. ap (λ xs. get_or xs i x) s.list ∙ get_or_append_left old.list s.ids x i low in
    elim (cases_lt j next) [
      | inl low ↦ s.kept z (h j x low (omega arith) (sym (place j (omega arith)) ∙ e) z r)
      | inr high ↦
          let at : next ≡ j = omega arith in
          let same : x ≡ id = sym e ∙ (place j (omega arith) ∙ (ap (λ i. get_or old.list i x) (sym at) ∙ (get_or_default old.list next x id below ∙ sym is))) in
          here z (subst (λ y. Reads n z y) same r)
    ]

pub marked_at : (m : Marked) (i x : ℕ) → AreListed m → i < length m.list → x ≡ get_or m.list i x → is_marked m.marks x ≡ true
marked_at m i x w l is = subst (λ y. is_marked m.marks y ≡ true) (sym is) (w.each i x l)

-- ---- the cone

pub cone_from : (n : Netlist) (line : Line) (one all : Marked) → ((x : ℕ) → Enters n line x → is_marked one.marks x ≡ true) → ((x : ℕ) → is_marked one.marks x ≡ true → Enters n line x)
    → ((x : ℕ) → is_marked one.marks x ≡ true → is_marked all.marks x ≡ true) → AreReachedFrom n one all → AreListed all → ArePassed n all (length all.list) → IsCone n line (is_marked all.marks)
cone_from n line one all entered only kept least listed passed = record {
  closed = record {
    entered = λ x e. kept x (entered x e);
    passed = λ x z m r. let c = listed.only x m in passed c.0 x c.1 c.1 c.2 z r;
  };
  least = λ set closed x m. least set (λ y first. closed.entered y (only y first)) closed.passed x m;
}

-- where it enters, from what is marked there
pub one_marked : (n : Netlist) (line : Line) (id : ℕ) (none one : Marked) → IsClear none → Enters n line id → is_marked one.marks id ≡ true → Spreads (Is id) none one
    → ((x : ℕ) → Enters n line x → is_marked one.marks x ≡ true) × ((x : ℕ) → is_marked one.marks x ≡ true → Enters n line x)
one_marked n line id none one clear enters here s = (
  (λ x e. subst (λ y. is_marked one.marks y ≡ true) (sym (enters_once n line x id e enters)) here),
  (λ x m. elim (s.only x m) [ inl w ↦ absurd (both_ways (is_marked none.marks x) (clear.none x) w) | inr is ↦ subst (λ y. Enters n line y) (sym is) enters ]),
) where
  enters_once : (n : Netlist) (line : Line) (x y : ℕ) → Enters n line x → Enters n line y → x ≡ y
  enters_once n (Stem w) x y e g = e ∙ sym g
  enters_once n (Pin w k) x y e g = e.0 ∙ sym g.0
  enters_once n (Out w) x y e g = absurd e

pub none_marked : (n : Netlist) (line : Line) (none : Marked) → IsClear none → ((x : ℕ) → Enters n line x → ⊥)
    → ((x : ℕ) → Enters n line x → is_marked none.marks x ≡ true) × ((x : ℕ) → is_marked none.marks x ≡ true → Enters n line x)
none_marked n line none clear h = ((λ x e. absurd (h x e)), (λ x m. absurd (both_ways (is_marked none.marks x) (clear.none x) m)))

-- ---- the lines that read a signal, one by one

pub line_in : (n : Netlist) (x : ℕ) (lines : List Line) (k : ℕ) (line : Line) → lines ≡ readers_of n x → k < length lines → line ≡ get_or lines k line → Contains (readers_of n x) line
line_in n x lines k line e l is = subst (λ (ls : List Line). Contains ls line) e (k, l, sym is)

pub reader_defined : (n : Netlist) (x : ℕ) (line : Line) → Contains (readers_of n x) line → IsDefinedPin n line
reader_defined n x line c z k e = let d = reader_pin n x z k (subst (Contains (readers_of n x)) e c) in (d.0, d.1, d.2)

pub gate_below : (n : Netlist) → IsSound n → (z m : ℕ) → IsGateAt n z → m ≡ length (signals n) → z < m
gate_below n sound z m g e = let p = defined_place n sound g.0 z (contains_filter is_gate n.definitions g.0 g.1).0 g.2 in let l = p.1 in omega arith

pub reader_gate : (n : Netlist) → IsSound n → (x z k : ℕ) → IsGateAt n z → Contains (readers_of n x) (Pin z k) → Reads n z x
reader_gate n sound x z k g c =
    let d = reader_pin n x z k c in
    let same : d.0 ≡ g.0 = same_definition n sound.formed.numbered d.0 g.0 d.1 (contains_filter is_gate n.definitions g.0 g.1).0 (d.2 ∙ sym g.2) in
    (g.0, g.1, g.2, subst (λ (h : Definition). Contains h.pins x) same d.3)

module _ (n : Netlist) (sound : IsSound n) (x : ℕ) (line : Line) (c : Contains (readers_of n x) line) (start old new : Marked) (z k : ℕ) (g : IsGateAt n z) (is : line ≡ Pin z k) where
  pub spreads_reader : Spreads (ReadersOf n x) start old → Spreads (Is z) old new → Spreads (ReadersOf n x) start new
  spreads_reader s t =
      spreads_then (ReadersOf n x) start old new s
      (spreads_wider (Is z) (ReadersOf n x) old new (λ y e. subst (λ w. Reads n w x) (sym e) (reader_gate n sound x z k g (subst (Contains (readers_of n x)) is c))) t)

pub line_passed : (n : Netlist) (lines : List Line) (k : ℕ) (line : Line) (old new : Marked) → k < length lines → line ≡ get_or lines k line
    → ((y : ℕ) → is_marked old.marks y ≡ true → is_marked new.marks y ≡ true)
    → ((z i : ℕ) → line ≡ Pin z i → IsGateAt n z → is_marked new.marks z ≡ true)
    → ((j : ℕ) (d : Line) (z i : ℕ) → j < k → get_or lines j d ≡ Pin z i → IsGateAt n z → is_marked old.marks z ≡ true)
    → (j : ℕ) (d : Line) (z i : ℕ) → j < k + 1 → get_or lines j d ≡ Pin z i → IsGateAt n z → is_marked new.marks z ≡ true
line_passed n lines k line old new below is kept here before j d z i l e g = elim (cases_lt j k) [
  | inl low ↦ kept z (before j d z i low e g)
  | inr high ↦
      let at : k ≡ j = omega arith in
      here z i (is ∙ (get_or_default lines k line d below ∙ (ap (λ m. get_or lines m d) at ∙ e))) g
]

pub all_passed : (n : Netlist) (x : ℕ) (lines : List Line) (k : ℕ) (marks : List Bool) → lines ≡ readers_of n x → length lines ≤ k
    → ((j : ℕ) (d : Line) (z i : ℕ) → j < k → get_or lines j d ≡ Pin z i → IsGateAt n z → is_marked marks z ≡ true)
    → (z : ℕ) → Reads n z x → is_marked marks z ≡ true
all_passed n x lines k marks e l h z r =
    let p = gate_reader n x z r in
    let c = subst (λ (ls : List Line). Contains ls (Pin z p.0)) (sym e) p.1 in
    let low = c.1 in
    h c.0 (Pin z p.0) z p.0 (omega arith) c.2 (r.0, r.1, r.2)
