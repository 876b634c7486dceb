-- What may be split on, and that something is left to split on while the search may go on.
use Rattle.std.proofs.Common.{◌≡◌, ℕ, ◌<◌, ◌≤◌, ◌⊎◌, ◌||◌, Bool, true, false, not, List, length, get_or, eqb, Option, Some, None, refl, sym, ◌∙◌, ap, subst, inl, inr, arith}
use Rattle.std.specs.Bool.{Decides}
use Rattle.std.specs.Option.{is_some}
use Rattle.std.specs.List.{Contains, list_any}
use Rattle.std.proofs.lemmas.Bool.{both_ways, eq-eqb, eqb-true, not-true, not_from_false, false_from_ne_true, or_left, or_right, or_cases}
use Rattle.std.proofs.lemmas.List.{length-map, get_or_past}
use Rattle.statement.specs.declared.kinds.Tri.TheVariants.{X}
use Rattle.statement.specs.declared.lines.Fault.{Fault}
use Rattle.statement.specs.Patterns.{Holds}
use Rattle.netlist.specs.Holds.{AreHoldsOf}
use Rattle.statement.specs.Netlists.{Definition, Netlist, is_cell, cells, gates, signals}
use Rattle.netlist.specs.Netlist.{is_gate, IsGateAt}
use Rattle.netlist.specs.Conditions.{IsSound}
use Rattle.statement.specs.Values.{known}
use Rattle.netlist.proofs.Lists.{contains_filter, any_true, any_from}
use Rattle.netlist.proofs.Placed.{same_definition, signal_below, signal_cases, signal_from}
use Rattle.netlist.proofs.Orders.{input_low}
use Rattle.netlist.proofs.Settling.{above_inputs}
use Rattle.netlist.proofs.SomeSettled.{some_settled}
use Rattle.tri.specs.declared.labels.Label.{Label}
use Rattle.tri.specs.Labels.{Decisions, label_of, held_value, labels, input_labels, cell_labels, source_label, AreLabels}
use Rattle.tri.specs.Paths.{Path, decisions, IsUnknown}
use Rattle.tri.proofs.PathLemmas.{labels_once}
use Rattle.pair_sim.specs.Sims.{Sim, sim, HasGood}
use Rattle.pair_sim.proofs.Free.{free_undecided, own_if_undecided}
use Rattle.redundancy_cert.specs.declared.stacks.Side.{Side}
use Rattle.redundancy_cert.specs.Stacks.{path_of_stack}
use Rattle.head_lines.specs.declared.roles.Role.{Role}
use Rattle.head_lines.specs.declared.roles.Role.TheVariants.{Bound, Head, Inner}
use Rattle.head_lines.specs.HeadLines.{IsUpward, IsReached, IsConstant, IsBound, IsHead, IsSource, is_bound_role, is_head_role, role_at, AreRoles}
use Rattle.head_lines.proofs.GateTests.{no_gate_low}
use Rattle.head_lines.proofs.Inner.{input_own}
use Rattle.head_lines.proofs.Ends.{met_there}
use Rattle.head_lines.proofs.Readers.{get_or_any}
use Rattle.decisions.specs.declared.cases.Case.{Case}
use Rattle.fan.specs.inner.Searching.{IsOnPath, IsGoing, IsEndPlace, IsFreeEnd, IsNoFreeEnd, IsSplit}
use Rattle.fan.proofs.Placing.{head_place, source_place}

-- ---- ends

no_bit : (b : Bool) → known b ≡ X → ⊥
no_bit true e = cc
no_bit false e = cc

module _ (n : Netlist) (sound : IsSound n) where
  source_no_gate : (x : ℕ) → Contains (signals n) x → IsSource n x → IsGateAt n x → ⊥
  source_no_gate x s source g = elim source [
    | inl input ↦ no_gate_low n sound.formed.numbered x (low x input) g
    | inr cell ↦
        let m = contains_filter is_cell n.definitions cell.0 cell.1 in
        let k = contains_filter is_gate n.definitions g.0 g.1 in
        let same : g.0 ≡ cell.0 = same_definition n sound.formed.numbered g.0 cell.0 k.0 m.0 (g.2 ∙ sym cell.2) in
        gate_no_cell (is_cell cell.0) m.1 (sym (ap is_gate same) ∙ k.1)
  ]
    where
      gate_no_cell : (b : Bool) → b ≡ true → not b ≡ true → ⊥
      gate_no_cell true p q = both_ways false refl q
      gate_no_cell false p q = both_ways false refl p

      low : (y : ℕ) → Contains n.inputs y → y < length n.inputs
      low y c = input_low n sound.formed.numbered y c

  not_gate_source : (x : ℕ) → Contains (signals n) x → (IsGateAt n x → ⊥) → IsSource n x
  not_gate_source x s ng = elim (signal_cases n sound.formed.numbered x (signal_below n sound.formed.numbered x s)) [
    | inl i ↦ inl i
    | inr o ↦ elim o [
      | inl w ↦ inr w
      | inr w ↦ absurd (ng w)
    ]
  ]

-- the role that is read of a signal
pub role_read : {n : Netlist} → IsSound n → (roles : List Role) → length roles ≡ length (signals n) → (i x : ℕ) (r : Role) → i ≡ x → x < length (signals n) → get_or roles i Bound ≡ r
    → Contains (signals n) x × (role_at roles x ≡ r)
role_read {n} sound roles size i x r e l h = (
  signal_from n sound.formed.numbered x l,
  get_or_any roles x Inner Bound (let d = size in omega arith) ∙ (ap (λ j. get_or roles j Bound) (sym e) ∙ h),
)

-- a role tells whether a signal is such an end
pub ends_by_role : (k : Case) {roles : List Role} → IsSound k.core.now → AreRoles k.fault k.core.now k.holds.now roles → (x : ℕ) → Contains (signals k.core.now) x
    → (r : Role) → role_at roles x ≡ r → (gate : Bool) → Decides gate (IsGateAt k.core.now x)
    → ((r ≡ Bound → Decides (not gate) (IsEndPlace k x)) × ((r ≡ Head → IsEndPlace k x) × (r ≡ Inner → IsEndPlace k x → ⊥)))
ends_by_role k sound are x s r e gate g = (
  λ b. (
    λ t. inr (not_gate_source k.core.now sound x s (λ h. both_ways gate (not-true gate t) (g.1 h)), (are.marks.bound_are x s).0 (ap is_bound_role (e ∙ b))),
    λ h. elim h [
      | inl head ↦ absurd (both_ways false refl (sym (ap is_head_role (e ∙ b)) ∙ (are.marks.heads_are x s).1 head))
      | inr w ↦ not_from_false gate (false_from_ne_true gate (λ q. source_no_gate k.core.now sound x s w.0 (g.0 q)))
    ],
  ),
  (
    λ b. inl ((are.marks.heads_are x s).0 (ap is_head_role (e ∙ b))),
    λ b h. elim h [
      | inl head ↦ both_ways false refl (sym (ap is_head_role (e ∙ b)) ∙ (are.marks.heads_are x s).1 head)
      | inr w ↦ both_ways false refl (sym (ap is_bound_role (e ∙ b)) ∙ (are.marks.bound_are x s).1 w.1)
    ],
  ),
)

pub head_end : (k : Case) {roles : List Role} → AreRoles k.fault k.core.now k.holds.now roles → (x : ℕ) → Contains (signals k.core.now) x → role_at roles x ≡ Head → IsEndPlace k x
head_end k are x s e = inl ((are.marks.heads_are x s).0 (ap is_head_role e))

pub inner_no_end : (k : Case) {roles : List Role} → AreRoles k.fault k.core.now k.holds.now roles → (x : ℕ) → Contains (signals k.core.now) x → role_at roles x ≡ Inner → IsEndPlace k x → ⊥
inner_no_end k are x s e h = elim h [
  | inl head ↦ both_ways false refl (sym (ap is_head_role e) ∙ (are.marks.heads_are x s).1 head)
  | inr w ↦ both_ways false refl (sym (ap is_bound_role e) ∙ (are.marks.bound_are x s).1 w.1)
]

-- ---- they are places

module _ (f : Fault) (n : Netlist) (holds : Holds) (fit : AreHoldsOf n holds) (sound : IsSound n) (path : Path) where
  -- an input or a cell that is X isn't reached from a constant
  untied : (x : ℕ) → IsSource n x → IsUnknown f n holds path x → IsReached n (IsConstant n holds) x → ⊥
  untied x source w tied = elim (or_cases (is_some (get_or holds x None)) (gate_test x) (tied constant_or_gate up start)) [
    | inl held ↦ no_held (get_or holds x None) refl held
    | inr gate ↦ source_no_gate n sound x w.signal source (gate_from x gate)
  ]
    where
      gate_test : ℕ → Bool
      gate_test y = list_any (λ (d : Definition). eqb d.id y) (gates n)

      gate_from : (y : ℕ) → gate_test y ≡ true → IsGateAt n y
      gate_from y t = (let m = any_true (λ (d : Definition). eqb d.id y) (gates n) t in (m.0, m.1, eqb-true m.0.id y m.2))

      gate_to : (y : ℕ) → IsGateAt n y → gate_test y ≡ true
      gate_to y g = any_from (λ (d : Definition). eqb d.id y) (gates n) g.0 g.1 (eq-eqb g.0.id y g.2)

      constant_or_gate : ℕ → Bool
      constant_or_gate y = is_some (get_or holds y None) || gate_test y

      up : IsUpward n constant_or_gate
      up z y r t = or_right (is_some (get_or holds z None)) (gate_test z) (gate_to z (r.0, r.1, r.2))

      start : (y : ℕ) → IsConstant n holds y → constant_or_gate y ≡ true
      start y c = elim c [
        | inl g ↦ or_right (is_some (get_or holds y None)) (gate_test y) (gate_to y (g.0, g.1, g.2))
        | inr h ↦ or_left (is_some (get_or holds y None)) (gate_test y) (ap is_some h.1)
      ]

      own : (w.label x).own ≡ X
      own = own_if_undecided f (decisions path) n holds w.label w.are x w.signal (free_undecided f n holds path x w) ∙ w.unknown

      no_held : (o : Option Bool) → get_or holds x None ≡ o → is_some o ≡ true → ⊥
      no_held None e t = both_ways false refl t
      no_held (Some b) e t = elim source [
        | inl input ↦ no_bit b (sym (input_own f (decisions path) n holds w.label w.are x input ∙ ap held_value e) ∙ own)
        | inr cell ↦
            let high : length n.inputs ≤ cell.0.id = above_inputs n sound.formed.numbered cell.0 (contains_filter is_cell n.definitions cell.0 cell.1).0 in
            let z : None ≡ Some b = sym (get_or_past holds x None (let k = cell.2 in let h = fit in omega arith)) ∙ e in
            cc
      ]

pub end_splits : (k : Case) → AreHoldsOf k.core.now k.holds.now → IsSound k.core.now → (path : Path) (s : Sim) (x : ℕ) → s.path ≡ path → IsFreeEnd k s x → IsSplit k s x
end_splits k fit sound path s x e w =
    let free : IsUnknown k.fault k.core.now k.holds.now path x = subst (λ p. IsUnknown k.fault k.core.now k.holds.now p x) e w.free in
    elim w.end [
      | inl head ↦ record { place = head_place k.fault k.core.now k.holds.now x head; free = record { may = inr head; free = w.free } }
      | inr source ↦ record {
        place = source_place k.fault k.core.now k.holds.now x free.signal source.0 source.1 (untied k.fault k.core.now k.holds.now fit sound path x source.0 free);
        free = record { may = inl source.1; free = w.free };
      }
    ]

-- ---- something is left

labels_there : (f : Fault) (n : Netlist) (holds : Holds) → IsSound n → (path : Decisions) → (l : ℕ → Label) × AreLabels (Some f) path n holds l
labels_there f n holds sound path =
    some_settled (label_of None X X false) (labels (Some f) path) n (input_labels path n holds) (cell_labels path n) sound.formed.numbered sound.closed sound.acyclic
    (length-map n.inputs (λ x. source_label path x (held_value (get_or holds x None)))) (length-map (cells n) (λ (d : Definition). source_label path d.id X))

pub some_end : (k : Case) {roles : List Role} → IsSound k.core.now → AreRoles k.fault k.core.now k.holds.now roles → (s : Sim) (stack : List Side) → IsOnPath k s stack → IsGoing k stack
    → ((x : ℕ) → x < length (signals k.core.now) → IsNoFreeEnd k s x) → ⊥
some_end k {roles} sound are s stack is going none =
    let f : Fault = k.fault in
    let n : Netlist = k.core.now in
    let holds : Holds = k.holds.now in
    let path : Path = path_of_stack stack in
    let l = labels_there f n holds sound (decisions path) in
    let told : (x : ℕ) → Contains (signals n) x → IsHead f n holds x ⊎ (IsSource n x × IsBound f n holds x) → (l.0 x).good ≡ X → ⊥ =
    λ x c end e.
    let w = none x (signal_below n sound.formed.numbered x c) end in
    let g : HasGood (sim n f holds path) x w.0 = subst (λ (r : Sim). HasGood r x w.0) is.at w.1 in
    w.2 (sym g.good ∙ (ap (λ (m : Label). m.good) (labels_once (Some f) (decisions path) n holds sound g.label l.0 g.are l.1 x c) ∙ e)) in
    let met = met_there f n holds sound (λ x. is_bound_role (role_at roles x)) (λ x. is_head_role (role_at roles x)) are.marks path
    is.on l.0 l.1 told
    (λ c. going.0 (record { label = l.0; are = l.1; closed = c })) in
    going.1 met.0 met.1
