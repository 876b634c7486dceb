-- A refutation that is accepted shows the fault redundant: the bits of a pattern that detects the fault are among the pairs that each step leaves.
use Rattle.std.proofs.Common.{◌≡◌, ◌≢◌, ℕ, ◌+◌, ◌<◌, ◌≤◌, suc, zero, Bool, true, false, not, List, [], ◌∷◌, ◌++◌, map, length, take, Some, None, refl, sym, ◌∙◌, ap, subst, inl, inr, arith}
use Rattle.std.specs.List.{All, Contains, slice_get}
use Rattle.std.proofs.lemmas.Bool.{both_ways, not-false}
use Rattle.std.proofs.lemmas.List.{take_all, length-map, get_or-map}
use Rattle.std.proofs.lemmas.Option.{get_or_from_slice_get}
use Rattle.std.proofs.lemmas.List.Elements.{All-nil, All-head, All-tail, All-contains, All-map, All-more, Contains-push}
use Rattle.statement.specs.declared.lines.Line.TheVariants.{Stem}
use Rattle.statement.specs.declared.lines.Fault.{Fault}
use Rattle.statement.specs.declared.lines.Point.{Point}
use Rattle.statement.specs.Netlists.{Definition, Netlist, gates, signals}
use Rattle.netlist.specs.Netlist.{is_gate}
use Rattle.netlist.specs.Conditions.{IsSound}
use Rattle.statement.specs.Values.{Settles, bits, on_pins, pins_of, stuck, gate_bit}
use Rattle.statement.specs.Patterns.{Holds, observed}
use Rattle.netlist.specs.Detection.{IsRedundant}
use Rattle.netlist.proofs.Lists.{All-from_contains, all_or_fails, map_map, contains_filter, contains_nil, contains_cases}
use Rattle.netlist.proofs.Placed.{signal_below}
use Rattle.tri.proofs.LabelLemmas.{defined_is_signal}
use Rattle.refutation.specs.declared.steps.Literal.{Literal}
use Rattle.refutation.specs.declared.steps.Implied.{Implied}
use Rattle.refutation.specs.declared.steps.Reason.{Reason}
use Rattle.refutation.specs.declared.steps.Reason.TheVariants.{Gate, Lemma, Way, Gates}
use Rattle.refutation.specs.declared.steps.Move.{Move}
use Rattle.refutation.specs.declared.steps.Move.TheVariants.{Imply, Sweep}
use Rattle.refutation.specs.declared.pairs.Pairs.{Pairs}
use Rattle.refutation.specs.Steps.{Step}
use Rattle.refutation.specs.Pairs.{Pair, has, AreAmong, no_pair, only_pair, paired}
use Rattle.refutation.specs.Refutations.{Told, told_of, narrowed, denied, denying, learned, knowing, start, made, IsBlocked, IsKept, IsKeeping, IsAllowed, IsWithin, LeavesNothing, IsSwept, IsContradicted, IsImplied, Leads, StepHolds, clauses, AllHold, Refutes}
use Rattle.refutation.proofs.PairLemmas.{pair, has_others, goods_on_pins, faults_on_pins, are_among}
use Rattle.refutation.proofs.Sweeping.{has_only, only_has, told_below}
use Rattle.refutation.proofs.ShutOff.{unseen}
use Rattle.refutation.proofs.Allowing.{Allows, allows_narrowed, allows_start}

module _ (n : Netlist) (f : Fault) (sound : IsSound n) (inputs state : List Bool) (good faulty : ℕ → Bool)
    (p : Settles (bits None) n inputs state good) (q : Settles (bits (Some f)) n inputs state faulty)
    (point : Point) (differs : observed (bits None) n good point ≢ observed (bits (Some f)) n faulty point) where
  abbrev truth : ℕ → Pair
  truth x = pair (good x) (faulty x)

  goods : (xs : List ℕ) → map (λ (p : Pair). p.good) (map truth xs) ≡ map good xs
  goods xs = map_map truth (λ (p : Pair). p.good) xs

  faults : (xs : List ℕ) → map (λ (p : Pair). p.faulty) (map truth xs) ≡ map faulty xs
  faults xs = map_map truth (λ (p : Pair). p.faulty) xs

  on_good : (d : Definition) → map (λ (p : Pair). p.good) (on_pins (paired f) d.id 0 (map truth d.pins)) ≡ pins_of (bits None) good d
  on_good d = goods_on_pins f d.id 0 (map truth d.pins) ∙ ap (on_pins (bits None) d.id 0) (goods d.pins)

  on_faulty : (d : Definition) → map (λ (p : Pair). p.faulty) (on_pins (paired f) d.id 0 (map truth d.pins)) ≡ pins_of (bits (Some f)) faulty d
  on_faulty d = faults_on_pins f d.id 0 (map truth d.pins) ∙ ap (on_pins (bits (Some f)) d.id 0) (faults d.pins)

  -- a gate makes of the pairs on its pins its own
  makes : (d : Definition) → Contains (gates n) d → made f d (map truth d.pins) ≡ truth d.id
  makes d g =
      let at_good : good d.id ≡ gate_bit d.kind (pins_of (bits None) good d) =
      All-contains (λ (e : Definition). good e.id ≡ gate_bit e.kind (pins_of (bits None) good e)) (gates n) d p.2 g in
      let at_faulty : faulty d.id ≡ stuck (λ b. b) (Some f) (Stem d.id) (gate_bit d.kind (pins_of (bits (Some f)) faulty d)) =
      All-contains (λ (e : Definition). faulty e.id ≡ stuck (λ b. b) (Some f) (Stem e.id) (gate_bit e.kind (pins_of (bits (Some f)) faulty e))) (gates n) d q.2 g in
      ap (λ bs. pair (gate_bit d.kind bs) (stuck (λ b. b) (Some f) (Stem d.id) (gate_bit d.kind (map (λ (p : Pair). p.faulty) (on_pins (paired f) d.id 0 (map truth d.pins)))))) (on_good d)
      ∙ (ap (λ bs. pair (gate_bit d.kind (pins_of (bits None) good d)) (stuck (λ b. b) (Some f) (Stem d.id) (gate_bit d.kind bs))) (on_faulty d)
      ∙ (ap (λ b. pair b (stuck (λ b. b) (Some f) (Stem d.id) (gate_bit d.kind (pins_of (bits (Some f)) faulty d)))) (sym at_good)
      ∙ ap (pair (good d.id)) (sym at_faulty)))

  below : (x : ℕ) → Contains (signals n) x → x < length (signals n)
  below x c = signal_below n sound.formed.numbered x c

  pins_among : (told : Told) (d : Definition) → Contains n.definitions d → Allows n truth told → AreAmong (map (told_of told) d.pins) (map truth d.pins)
  pins_among told d c a =
      let all : All (Contains (signals n)) d.pins = All-contains (λ (e : Definition). All (Contains (signals n)) e.pins) n.definitions d sound.closed.pins c in
      are_among (told_of told) truth d.pins
      (All-from_contains (λ x. has (told_of told x) (truth x) ≡ true) d.pins (λ x m. a.each x (below x (All-contains (Contains (signals n)) d.pins x all m))))

  -- ---- no reason is contradicted

  gate_not : (told : Told) (x : ℕ) (d : Definition) → Contains (gates n) d → d.id ≡ x → Contains (signals n) x
      → ((pairs : List Pair) → AreAmong (map (told_of told) d.pins) pairs → has (told_of told x) (made f d pairs) ≡ false) → Allows n truth told → ⊥
  gate_not told x d g is s h a =
      let c = (contains_filter is_gate n.definitions d g).0 in
      both_ways (has (told_of told x) (truth x))
      (subst (λ y. has (told_of told x) (truth y) ≡ false) is
      (subst (λ (w : Pair). has (told_of told x) w ≡ false) (makes d g) (h (map truth d.pins) (pins_among told d c a))))
      (a.each x (below x s))

  -- a literal of the clause is so
  IsSo : List Literal → Type 0
  IsSo clause = (l : Literal) × Contains clause l × Contains (signals n) l.signal × (has l.pairs (truth l.signal) ≡ true)

  lemma_not : (told : Told) (clause : List Literal) → IsSo clause
      → All (λ (l : Literal). (w : Pair) → has (told_of told l.signal) w ≡ true → has l.pairs w ≡ false) clause → Allows n truth told → ⊥
  unfolding IsSo
  lemma_not told clause so apart a =
      let l = so.0 in
      both_ways (has l.pairs (truth l.signal))
      (All-contains (λ (l : Literal). (w : Pair) → has (told_of told l.signal) w ≡ true → has l.pairs w ≡ false) clause l apart so.1 (truth l.signal)
      (a.each l.signal (below l.signal so.2))) so.3

  at_get : {X : Type 0} (P : X → Type 0) (xs : List X) (k : ℕ) (x : X) → All P xs → slice_get xs k ≡ Some x → P x
  at_get P [] k x h e = cc
  at_get P (y ∷ xs) zero x h e = subst P (let is : y ≡ x = cc in is) (All-head P y xs h)
  at_get P (y ∷ xs) (suc k) x h e = at_get P xs k x (All-tail P y xs h) e

  gate_signal : (d : Definition) → Contains (gates n) d → Contains (signals n) d.id
  gate_signal d g = defined_is_signal n d (contains_filter is_gate n.definitions d g).0

  blocked_not : (told : Told) (x : ℕ) → IsBlocked n f told x → Allows n truth told → ⊥
  blocked_not told x h a = gate_not told x h.gate h.member h.id (subst (Contains (signals n)) h.id (gate_signal h.gate h.member)) h.none a

  -- ---- what gates allow

  alone : Told
  alone = map (λ x. only_pair (truth x)) (signals n)

  alone_at : (x : ℕ) → x < length (signals n) → told_of alone x ≡ only_pair (truth x)
  unfolding alone
  alone_at x l = get_or-map (λ y. only_pair (truth y)) (signals n) x 0 no_pair l ∙ ap (λ y. only_pair (truth y)) (sound.formed.numbered x l)

  alone_size : length alone ≡ length (signals n)
  unfolding alone
  alone_size = length-map (signals n) (λ y. only_pair (truth y))

  alone_allows : Allows n truth alone
  alone_allows = record { size = alone_size; each = λ x l. subst (λ (s : Pairs). has s (truth x) ≡ true) (sym (alone_at x l)) (has_only (truth x)) }

  alone_is : (x : ℕ) (w : Pair) → x < length (signals n) → has (told_of alone x) w ≡ true → truth x ≡ w
  alone_is x w l h = only_has (truth x) w (subst (λ (s : Pairs). has s w ≡ true) (alone_at x l) h)

  alone_kept : (z x : ℕ) → x < length (signals n) → IsKept n f alone z x
  alone_kept z x l w h b =
      let only : Literal = record { signal = x; pairs = only_pair w } in
      blocked_not (narrowed alone only) z b
      (allows_narrowed n truth alone only (subst (λ (v : Pair). has (only_pair v) (truth x) ≡ true) (alone_is x w l h) (has_only (truth x))) alone_allows)

  alone_allowed : IsAllowed n f alone
  alone_allowed = record {
    size = alone_allows.size;
    some = λ x c. (truth x, alone_allows.each x (below x c));
    gates = All-from_contains (IsKeeping n f alone) (gates n) (λ d g.
        let c = (contains_filter is_gate n.definitions d g).0 in
        let all : All (Contains (signals n)) d.pins = All-contains (λ (e : Definition). All (Contains (signals n)) e.pins) n.definitions d sound.closed.pins c in
        record {
          own = alone_kept d.id d.id (below d.id (gate_signal d g));
          pins = All-from_contains (IsKept n f alone d.id) d.pins (λ x m. alone_kept d.id x (below x (All-contains (Contains (signals n)) d.pins x all m)));
        });
  }

  alone_within : (told : Told) → Allows n truth told → IsWithin alone told
  alone_within told a x w h =
      let l = told_below alone x w h in
      let size = alone_allows.size in
      let low : x < length (signals n) = omega arith in
      subst (λ (v : Pair). has (told_of told x) v ≡ true) (alone_is x w low h) (a.each x low)

  nothing_not : (told : Told) → LeavesNothing n f told → Allows n truth told → ⊥
  nothing_not told h a = h alone (alone_within told a) alone_allowed

  swept_allows : (told swept : Told) → IsSwept n f told swept → Allows n truth told → Allows n truth swept
  swept_allows told swept w a = record {
    size = w.allowed.size;
    each = λ x l. w.most alone (alone_within told a) alone_allowed x (truth x) (alone_allows.each x l);
  }

  not_contradicted : (lemmas : List (List Literal)) → All IsSo lemmas → (told : Told) (reason : Reason) → IsContradicted n f lemmas told reason → Allows n truth told → ⊥
  not_contradicted lemmas so told (Gate x) h a = blocked_not told x h a
  not_contradicted lemmas so told (Lemma k) h a = lemma_not told h.clause (at_get IsSo lemmas k h.clause so h.there) h.none a
  not_contradicted lemmas so told Way h a =
      differs (unseen n f told h.0 h.1 sound inputs state good faulty p q (record { size = a.size; each = λ x c. a.each x (below x c) }) point)
  not_contradicted lemmas so told Gates h a = nothing_not told h a

  -- ---- steps

  implied_not : (lemmas : List (List Literal)) → All IsSo lemmas → (told : Told) (i : Implied) → IsImplied n f lemmas told i → Allows n truth told
      → (t : Bool) → has i.literal.pairs (truth i.literal.signal) ≡ t → t ≡ true
  implied_not lemmas so told i h a = elim [
    | true ↦ λ e. refl
    | false ↦ λ e. absurd (not_contradicted lemmas so (narrowed told (denied i.literal)) i.reason h.only
        (allows_narrowed n truth told (denied i.literal) (has_others i.literal.pairs (truth i.literal.signal) ∙ ap not e) a))
  ]

  leads_not : (lemmas : List (List Literal)) → All IsSo lemmas → (told : Told) (moves : List Move) (last : Reason) → Leads n f lemmas told moves last → Allows n truth told → ⊥
  leads_not lemmas so told [] last h a = not_contradicted lemmas so told last h a
  leads_not lemmas so told (Imply i ∷ moves) last h a =
      leads_not lemmas so (narrowed told i.literal) moves last h.1
      (allows_narrowed n truth told i.literal (implied_not lemmas so told i h.0 a (has i.literal.pairs (truth i.literal.signal)) refl) a)
  leads_not lemmas so told (Sweep ∷ moves) last h a = elim h [
    | inl none ↦ nothing_not told none a
    | inr some ↦ leads_not lemmas so some.0 moves last some.2 (swept_allows told some.0 some.1 a)
  ]

  denying_allows : (told : Told) (clause : List Literal) → All (λ (l : Literal). not (has l.pairs (truth l.signal)) ≡ true) clause → Allows n truth told → Allows n truth (denying told clause)
  denying_allows told [] h a = a
  denying_allows told (l ∷ ls) h a =
      denying_allows (narrowed told (denied l)) ls (All-tail (λ (m : Literal). not (has m.pairs (truth m.signal)) ≡ true) l ls h)
      (allows_narrowed n truth told (denied l) (has_others l.pairs (truth l.signal) ∙ All-head (λ (m : Literal). not (has m.pairs (truth m.signal)) ≡ true) l ls h) a)

  learned_allows : (told : Told) (clause : List Literal) → IsSo clause → Allows n truth told → Allows n truth (learned told clause)
  unfolding IsSo
  learned_allows told [] so a = a
  learned_allows told (l ∷ []) so a =
      let is : l ≡ so.0 = elim (contains_cases l so.0 [] so.1) [ inl e ↦ e | inr c ↦ absurd (contains_nil so.0 c) ] in
      allows_narrowed n truth told l (subst (λ (m : Literal). has m.pairs (truth m.signal) ≡ true) (sym is) so.3) a
  learned_allows told (l ∷ m ∷ ls) so a = a

  knowing_allows : (told : Told) (cs : List (List Literal)) → All IsSo cs → Allows n truth told → Allows n truth (knowing told cs)
  knowing_allows told [] so a = a
  knowing_allows told (c ∷ cs) so a = knowing_allows (learned told c) cs (All-tail IsSo c cs so) (learned_allows told c (All-head IsSo c cs so) a)

  step_so : (lemmas : List (List Literal)) (known : Told) (step : Step) → All IsSo lemmas → Allows n truth known → StepHolds n f lemmas known step → IsSo step.clause
  unfolding IsSo
  step_so lemmas known step so a h =
      elim (all_or_fails (λ (l : Literal). not (has l.pairs (truth l.signal))) step.clause) [
        | inl none ↦ absurd (leads_not lemmas so (denying known step.clause) step.moves step.last h.leads (denying_allows known step.clause none a))
        | inr some ↦ (some.0, some.1, All-contains (λ (l : Literal). Contains (signals n) l.signal) step.clause some.0 h.within some.1, not-false (has some.0.pairs (truth some.0.signal)) some.2)
      ]

  module _ (told : Told) (steps : List Step) (a : Allows n truth told) (each : AllHold n f told steps) where
    first_so : (k : ℕ) → k ≤ length steps → All (λ (s : Step). IsSo s.clause) (take k steps)
    first_so zero l = All-nil _
    first_so (suc k) l =
        let before = first_so k (omega arith) in
        let here = each k (omega arith) in
        let all = All-map IsSo (λ (s : Step). s.clause) (take k steps) before in
        let so = step_so (clauses (take k steps)) (knowing told (clauses (take k steps))) here.0 all (knowing_allows told (clauses (take k steps)) all a) here.2 in
        let more = All-more (λ (s : Step). IsSo s.clause) steps k here.0 (omega arith) before
        (subst (λ (s : Step). IsSo s.clause) (sym (get_or_from_slice_get steps k here.0 here.0 here.1)) so) in
        subst (λ j. All (λ (s : Step). IsSo s.clause) (take j steps)) (let e : k + 1 ≡ suc k = omega arith in e) more

    all_so : All (λ (s : Step). IsSo s.clause) steps
    all_so = subst (All (λ (s : Step). IsSo s.clause)) (take_all (length steps) steps (omega arith)) (first_so (length steps) (omega arith))

    pub ends_not : (front : List Step) (last : Step) → steps ≡ front ++ last ∷ [] → last.clause ≡ [] → ⊥
    unfolding IsSo
    ends_not front last e empty =
        let so = All-contains (λ (s : Step). IsSo s.clause) (front ++ last ∷ []) last (subst (All (λ (s : Step). IsSo s.clause)) e all_so) (Contains-push front last) in
        contains_nil so.0 (subst (λ ls. Contains ls so.0) empty so.1)

pub redundant : (f : Fault) (n : Netlist) (holds : Holds) (steps : List Step) → IsSound n → Refutes f n holds steps → IsRedundant n holds f
redundant f n holds steps sound r inputs state point obeys seen =
    let a = allows_start n f holds sound inputs state seen.good seen.faulty seen.good_settles seen.faulty_settles obeys r.cone r.is_cone point seen.differs in
    ends_not n f sound inputs state seen.good seen.faulty seen.good_settles seen.faulty_settles point seen.differs (start n holds f r.cone) steps a r.each
    r.ends.0 r.ends.1 r.ends.2 r.ends.3
