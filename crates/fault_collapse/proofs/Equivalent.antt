-- Classes that are merged and numbered are those of the least equivalence.
use Rattle.std.proofs.Common.{◌≡◌, ℕ, ◌<◌, List, length, get_or, refl, sym, ◌∙◌, ap, subst, Some, Result, Ok, Err, IfOk, inl, inr, arith}
use Rattle.std.specs.List.{Contains, slice_get}
use Rattle.std.proofs.lemmas.Bool.{cases_lt, cases_order}
use Rattle.std.proofs.lemmas.List.Elements.{All-from_get_or}
use Rattle.std.proofs.lemmas.Option.{slice_get-get_or}
use Rattle.statement.specs.declared.lines.Fault.{Fault}
use Rattle.statement.specs.Netlists.{Netlist, readers_of}
use Rattle.netlist.specs.Conditions.{IsSound}
use Rattle.fault_universe.specs.Universe.{all_lines}
use Rattle.statement.specs.Faults.{universe_of}
use Rattle.fault_universe.proofs.Distinct.{distinct_faults, one_place}
use Rattle.fault_universe.proofs.Elements.{contains_at, slice_get_below}
use Rattle.fault_universe.proofs.Members.{fault_is_member, pin_line, read_signal, stem_is_line}
use Rattle.fault_universe.proofs.Readers.{IsPinOf}
use Rattle.netlist.proofs.Placed.{definition_below, signal_below}
use Rattle.fault_collapse.specs.Joined.{IsEquivalent, IsJoined, joined, reflexive, symmetric, transitive}
use Rattle.fault_collapse.specs.Numbers.{Classes}
use Rattle.fault_collapse.specs.Classes.{AreClasses}
use Rattle.fault_collapse.specs.inner.Merging.{AreMerged, AreNumbered, LeadsTo}
use Rattle.fault_collapse.proofs.Reading.{branch_at, stem_at, to_pin}

module _ (n : Netlist) (sound : IsSound n) where
  -- joined faults are faults of the netlist
  input_member : (f g : Fault) → IsJoined n f g → Contains (universe_of n) f
  input_member f g j =
      let pin : IsPinOf n j.gate.id j.place j.signal = to_pin n j.gate j.place j.signal j.member j.pin in
      let below = signal_below n sound.formed.numbered j.signal (read_signal n sound j.gate.id j.place j.signal pin) in
      let line : Contains (all_lines n) f.line = elim (cases_lt (length (readers_of n j.signal)) 2) [
        | inl few ↦ subst (Contains (all_lines n)) (sym (j.input ∙ stem_at n j.signal j.gate.id j.place few)) (stem_is_line n sound j.signal below)
        | inr many ↦ subst (Contains (all_lines n)) (sym (j.input ∙ branch_at n j.signal j.gate.id j.place many)) (pin_line n sound j.gate.id j.place j.signal pin many)
      ] in
      fault_is_member n f.line f.value line

  output_member : (f g : Fault) → IsJoined n f g → Contains (universe_of n) g
  output_member f g j =
      fault_is_member n g.line g.value (subst (Contains (all_lines n)) (sym j.output) (stem_is_line n sound j.gate.id (definition_below n sound.formed.numbered j.gate j.member)))

  both_members : (f g : Fault) → IsEquivalent n f g → (Contains (universe_of n) f → Contains (universe_of n) g) × (Contains (universe_of n) g → Contains (universe_of n) f)
  both_members f g (joined a b j) = ((λ c. output_member f g j), (λ c. input_member f g j))
  both_members f g (reflexive a) = ((λ c. c), (λ c. c))
  both_members f g (symmetric a b e) = let m = both_members g f e in (m.1, m.0)
  both_members f h (transitive a g b d e) = let p = both_members f g d in let q = both_members g h e in ((λ c. q.0 (p.0 c)), (λ c. p.1 (q.1 c)))

  place_of : (f : Fault) → Contains (universe_of n) f → (i : ℕ) × (slice_get (universe_of n) i ≡ Some f)
  place_of f c = (c.0, slice_get-get_or (universe_of n) c.0 f c.1 ∙ ap (λ g. Some g) c.2)

  module _ (parents : List ℕ) (m : AreMerged n parents (length (universe_of n))) where
    -- equivalent faults have one first member
    same_first : (f g : Fault) → IsEquivalent n f g → (i j : ℕ) → slice_get (universe_of n) i ≡ Some f → slice_get (universe_of n) j ≡ Some g → m.first i ≡ m.first j
    same_first f g (joined a b x) i j p q = m.complete i j f g (slice_get_below (universe_of n) i f p) p q x
    same_first f g (reflexive a) i j p q = ap m.first (one_place (universe_of n) i j f (distinct_faults n sound) p q)
    same_first f g (symmetric a b e) i j p q = sym (same_first g f e j i q p)
    same_first f h (transitive a g b d e) i j p q =
        let k = place_of g ((both_members f g d).0 (contains_at (universe_of n) i f p)) in
        same_first f g d i k.0 p k.1 ∙ same_first g h e k.0 j k.1 q

    one_class : (f g : Fault) (i j : ℕ) → slice_get (universe_of n) i ≡ Some f → slice_get (universe_of n) j ≡ Some g → m.first i ≡ m.first j → IsEquivalent n f g
    one_class f g i j p q e =
        let low = m.leads.low i in
        let within = slice_get_below (universe_of n) i f p in
        let r = get_or (universe_of n) (m.first i) f in
        let here : slice_get (universe_of n) (m.first i) ≡ Some r = slice_get-get_or (universe_of n) (m.first i) f (omega arith) in
        let there : slice_get (universe_of n) (m.first j) ≡ Some r = ap (slice_get (universe_of n)) (sym e) ∙ here in
        transitive f r g (symmetric r f (m.sound i f r p here)) (m.sound j g r q there)

    module _ (c : Classes) (h : AreNumbered (universe_of n) m.first c.numbers c.representatives (length (universe_of n))) where
      -- faults of one number have one first member
      first_of_number : (i j : ℕ) → i < length (universe_of n) → j < length (universe_of n) → get_or c.numbers i 0 ≡ get_or c.numbers j 0 → m.first i ≡ m.first j
      first_of_number i j l k e =
          let firsts : get_or c.numbers (m.first i) 0 ≡ get_or c.numbers (m.first j) 0 = sym (h.kept i l) ∙ (e ∙ h.kept j k) in
          let low_i = m.leads.low i in
          let low_j = m.leads.low j in
          elim (cases_order (m.first i) (m.first j)) [
            | inl same ↦ same
            | inr o ↦ elim o [
              | inl less ↦ let rise = h.rising (m.first j) (m.first i) (omega arith) (m.leads.once j) less in absurd (omega arith)
              | inr more ↦ let rise = h.rising (m.first i) (m.first j) (omega arith) (m.leads.once i) more in absurd (omega arith)
            ]
          ]

      pub classes_made : AreClasses n c
      classes_made = record {
        size = h.size;
        within = All-from_get_or (λ class. class < length c.representatives) c.numbers 0 (λ i l. let size = h.size in h.within i (omega arith));
        equivalent = λ i j f g p q. (
          (λ e. one_class f g i j p q (first_of_number i j (slice_get_below (universe_of n) i f p) (slice_get_below (universe_of n) j g q) e)),
          (λ e.
              let same = same_first f g e i j p q in
              h.kept i (slice_get_below (universe_of n) i f p) ∙ (ap (λ k. get_or c.numbers k 0) same ∙ sym (h.kept j (slice_get_below (universe_of n) j g q)))),
        );
        first = λ class l.
            let w = h.found class l in
            record {
              place = w.0;
              representative = λ f e. w.4 ∙ e;
              member = w.3;
              earlier = λ j less. let rise = h.rising w.0 j w.1 w.2 less in let is = w.3 in omega arith;
            };
      }

-- each fault is alone before any is merged
pub unmerged : (n : Netlist) (parents : List ℕ) → length parents ≡ length (universe_of n) → ((k : ℕ) → k < length parents → get_or parents k 0 ≡ k) → AreMerged n parents 0
unmerged n parents size each = record {
  size = size;
  forest = λ k l. let e = each k l in omega arith;
  first = λ k. k;
  leads = record { kept = λ k l. each k l; root = λ k l e. refl; low = λ k. omega arith; once = λ k. refl };
  sound = λ i f g p q. let same : f ≡ g = cc in subst (λ (x : Fault). IsEquivalent n g x) (sym same) (reflexive g);
  complete = λ i j f g l. absurd (omega arith);
}

pub all_classes_made : {E : Type 0} (n : Netlist) → IsSound n → (parents slice : List ℕ) (faults : List Fault) → slice ≡ parents → faults ≡ universe_of n
    → AreMerged n parents (length (universe_of n)) → (r : Result Classes E)
    → IfOk r (λ c. (first : ℕ → ℕ) → LeadsTo slice first → AreNumbered faults first c.numbers c.representatives (length faults))
    → IfOk r (λ c. AreClasses n c)
all_classes_made n sound parents slice faults is same m (Err e) h = h
all_classes_made n sound parents slice faults is same m (Ok c) h =
    classes_made n sound parents m c
    (subst (λ (fs : List Fault). AreNumbered fs m.first c.numbers c.representatives (length fs)) same (h m.first (subst (λ p. LeadsTo p m.first) (sym is) m.leads)))
