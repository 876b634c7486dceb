-- What is kept beside the labels, after a decision or the fault has changed.
use Rattle.std.proofs.Common.{◌≡◌, ◌≢◌, ℕ, ◌+◌, ◌<◌, ◌^◌, ◌&&◌, Bool, true, false, not, List, [], length, get_or, set, Option, None, refl, sym, ◌∙◌, ap, subst, inl, inr, eqb, eq-eqb, arith}
use Rattle.std.specs.Cmp.Derive.{both_true}
use Rattle.std.specs.List.{Contains}
use Rattle.std.proofs.lemmas.Bool.{both_ways, cases_eq, cases_Bool}
use Rattle.std.proofs.lemmas.List.{length-set, get_or-set_other, get_or_default}
use Rattle.std.proofs.lemmas.List.Elements.{All-contains}
use Rattle.statement.specs.declared.lines.Line.{Line}
use Rattle.statement.specs.declared.lines.Line.TheVariants.{Stem, Pin, Out}
use Rattle.statement.specs.declared.lines.Fault.{Fault}
use Rattle.netlist.specs.Conditions.{IsSound}
use Rattle.statement.specs.Patterns.{Holds}
use Rattle.netlist.specs.Holds.{AreHoldsOf}
use Rattle.netlist.specs.Lines.{IsLineOf}
use Rattle.statement.specs.Netlists.{Definition, Netlist, is_cell, cells, signals}
use Rattle.netlist.specs.Netlist.{is_gate}
use Rattle.netlist.specs.Settled.{at}
use Rattle.netlist.proofs.Lists.{filter_contains}
use Rattle.netlist.proofs.Placed.{signal_below, signal_from, definition_below}
use Rattle.netlist.proofs.WellFormed.{one_pin}
use Rattle.events.specs.Standing.{Standing}
use Rattle.tri.specs.declared.labels.Label.{Label}
use Rattle.tri.specs.declared.labelling.Labelling.{Labelling}
use Rattle.tri.specs.Labels.{AreLabels}
use Rattle.tri.specs.Labelling.{decided_in, AreLabelled, IsUndecided}
use Rattle.label_events.specs.Lines.{IsLineOfOthers, IsInner, AgreeOnOtherLines}
use Rattle.label_events.proofs.Changing.{decision_changes, fault_changes, fault_changes_nothing}
use Rattle.redundancy_cert.specs.inner.Tallies.{tally, count_pairs, shows, contradicts}
use Rattle.redundancy_cert.specs.inner.Passing.{AreObserved, IsKept, IsResettled, no_label}
use Rattle.redundancy_cert.proofs.TallyLemmas.{count_left, count_le, count_zero}
use Rattle.redundancy_cert.proofs.PointLemmas.{nothing_differs}

pub decide_counts : (row : List (Option Bool)) (values vs : List Label) (x : ℕ) (o a : Option Bool) (count : ℕ) (before after : Bool) → x < length row → x < length values
    → a ≡ get_or row x a → vs ≡ values → before ≡ contradicts a (get_or vs x no_label) → after ≡ contradicts o (get_or vs x no_label)
    → count ≡ count_pairs contradicts row values → count_pairs contradicts (set row x o) values + tally before ≡ count + tally after
decide_counts row values vs x o a count before after l m is same b e c =
    let old : before ≡ contradicts (get_or row x a) (get_or values x no_label) = b ∙ (ap (λ (us : List Label). contradicts a (get_or us x no_label)) same ∙ ap (λ (d : Option Bool). contradicts d (get_or values x no_label)) is) in
    let new : after ≡ contradicts o (get_or values x no_label) = e ∙ ap (λ (us : List Label). contradicts o (get_or us x no_label)) same in
    ap (λ t. count_pairs contradicts (set row x o) values + tally t) old
    ∙ (count_left contradicts row values x o a no_label l m
    ∙ (ap (λ k. k + tally (contradicts o (get_or values x no_label))) (sym c) ∙ ap (λ t. count + tally t) (sym new)))

pub small_count : (row : List (Option Bool)) (values : List Label) (n : Netlist) (count : ℕ) → IsSound n → length values ≡ length (signals n) → count ≡ count_pairs contradicts row values → count < 2 ^ 62
small_count row values n count sound size c = let a = count_le contradicts row values in let b = sound.sized.small in omega arith

module _ (s s' : Standing Label) (same : s' ≡ record s { values = s'.values }) (holds : Holds) (fault : Option Fault) (row : List (Option Bool)) (marks : List Bool) (d c : ℕ)
    (kept : IsKept (record { netlist = s.netlist; holds = holds; fault = fault; decided = row; values = s.values }) marks d c s.trail) where
  net : s.netlist ≡ s'.netlist
  net = sym (ap (λ (r : Standing Label). r.netlist) same)

  trail : s'.trail ≡ []
  trail = ap (λ (r : Standing Label). r.trail) same ∙ kept.trail_is

  pub kept_decided : (x id : ℕ) (o : Option Bool) (d' c' : ℕ) → x ≡ id → IsResettled fault (decided_in (set row x o)) s.netlist holds id s.values s'.values
      → d' ≡ count_pairs shows marks s'.values → c' ≡ count_pairs contradicts (set row x o) s'.values
      → IsKept (record { netlist = s'.netlist; holds = holds; fault = fault; decided = set row x o; values = s'.values }) marks d' c' s'.trail
  kept_decided x id o d' c' e settled de ce =
      let other : (y : ℕ) → y ≢ id → decided_in row y ≡ decided_in (set row x o) y = λ y ne. sym (get_or-set_other row x y o None (λ h. ne (h ∙ e))) in
      record {
        standing = record {
          holds = subst (λ (m : Netlist). AreHoldsOf m holds) net kept.standing.holds;
          decided = length-set row x o ∙ (kept.standing.decided ∙ ap (λ (m : Netlist). length (signals m)) net);
          size = settled.size ∙ (kept.standing.size ∙ ap (λ (m : Netlist). length (signals m)) net);
          labels = λ l. subst (λ (m : Netlist). AreLabels fault (decided_in (set row x o)) m holds (at s'.values l)) net
              (settled.each l (decision_changes fault (decided_in row) (decided_in (set row x o)) s.netlist holds (at s.values l) id other (kept.standing.labels l)));
        };
        marks_are = subst (λ (m : Netlist). AreObserved m marks) net kept.marks_are;
        differing_is = de;
        contradicted_is = ce;
        trail_is = trail;
      }

  pub kept_stuck : (line : Line) (g : Option Fault) (id d' c' : ℕ) → AgreeOnOtherLines line fault g → ((y : ℕ) → y ≢ id → IsLineOfOthers s.netlist line y)
      → IsResettled g (decided_in row) s.netlist holds id s.values s'.values
      → d' ≡ count_pairs shows marks s'.values → c' ≡ count_pairs contradicts row s'.values
      → IsKept (record { netlist = s'.netlist; holds = holds; fault = g; decided = row; values = s'.values }) marks d' c' s'.trail
  kept_stuck line g id d' c' off others settled de ce = record {
    standing = record {
      holds = subst (λ (m : Netlist). AreHoldsOf m holds) net kept.standing.holds;
      decided = kept.standing.decided ∙ ap (λ (m : Netlist). length (signals m)) net;
      size = settled.size ∙ (kept.standing.size ∙ ap (λ (m : Netlist). length (signals m)) net);
      labels = λ l. subst (λ (m : Netlist). AreLabels g (decided_in row) m holds (at s'.values l)) net
          (settled.each l (fault_changes line fault g (decided_in row) s.netlist off holds (at s.values l) id others (kept.standing.labels l)));
    };
    marks_are = subst (λ (m : Netlist). AreObserved m marks) net kept.marks_are;
    differing_is = de;
    contradicted_is = ce;
    trail_is = trail;
  }

pub kept_off : (s : Standing Label) (holds : Holds) (fault g : Option Fault) (row : List (Option Bool)) (marks : List Bool) (d c : ℕ) (line : Line)
    → IsKept (record { netlist = s.netlist; holds = holds; fault = fault; decided = row; values = s.values }) marks d c s.trail
    → AgreeOnOtherLines line fault g → ((y : ℕ) → IsLineOfOthers s.netlist line y)
    → IsKept (record { netlist = s.netlist; holds = holds; fault = g; decided = row; values = s.values }) marks d c s.trail
kept_off s holds fault g row marks d c line kept off others = record {
  standing = record {
    holds = kept.standing.holds;
    decided = kept.standing.decided;
    size = kept.standing.size;
    labels = λ l. fault_changes_nothing line fault g (decided_in row) s.netlist off holds (at s.values l) others (kept.standing.labels l);
  };
  marks_are = kept.marks_are;
  differing_is = kept.differing_is;
  contradicted_is = kept.contradicted_is;
  trail_is = kept.trail_is;
}

both_false : (a b : Bool) → b ≡ false → (a && b) ≡ false
both_false true b e = e
both_false false b e = refl

pub started : (n : Netlist) (holds : Holds) (sound : IsSound n) (s : Standing Label) (rule : Labelling) (values : List Label) (marks : List Bool)
    → s.netlist ≡ n → s.values ≡ values → s.trail ≡ [] → IsUndecided n None rule → AreLabelled rule.fault (decided_in rule.decided.items) n holds values
    → AreObserved n marks → AreHoldsOf n holds
    → IsKept (record { netlist = s.netlist; holds = holds; fault = rule.fault; decided = rule.decided.items; values = s.values }) marks 0 0 s.trail
started n holds sound s rule values marks net same trail free are seen held =
    let row = rule.decided.items in
    let same_at : (i : ℕ) → i < length values → (at values no_label i).may_differ ≡ false =
    λ i l. nothing_differs (decided_in row) n holds sound (at values no_label)
    (subst (λ (g : Option Fault). AreLabels g (decided_in row) n holds (at values no_label)) free.fault (are.labels no_label)) i
    (signal_from n sound.formed.numbered i (let e = are.size in omega arith)) in
    record {
      standing = record {
        holds = subst (λ (m : Netlist). AreHoldsOf m holds) (sym net) held;
        decided = free.size ∙ ap (λ (m : Netlist). length (signals m)) (sym net);
        size = ap length same ∙ (are.size ∙ ap (λ (m : Netlist). length (signals m)) (sym net));
        labels = λ d. subst (λ (m : Netlist). AreLabels rule.fault (decided_in row) m holds (at s.values d)) (sym net)
            (subst (λ (vs : List Label). AreLabels rule.fault (decided_in row) n holds (at vs d)) (sym same) (are.labels d));
      };
      marks_are = subst (λ (m : Netlist). AreObserved m marks) (sym net) seen;
      differing_is = sym (ap (count_pairs shows marks) same ∙ count_zero shows marks values (λ i d e l m.
          both_false (get_or marks i d) (get_or values i e).may_differ (ap (λ (k : Label). k.may_differ) (get_or_default values i e no_label m) ∙ same_at i m)));
      contradicted_is = sym (ap (count_pairs contradicts row) same ∙ count_zero contradicts row values (λ i d e l m.
          ap (λ (o : Option Bool). contradicts o (get_or values i e)) (get_or_default row i d None l ∙ free.free i)));
      trail_is = trail;
    }

-- a line of the netlist that enters a signal's equation
pub inner_signal : (n : Netlist) → IsSound n → (line : Line) (x : ℕ) → IsLineOf n line → IsInner n line x → x < length (signals n)
inner_signal n sound (Stem y) x valid inner = elim (cases_eq y x) [
  | inl e ↦ subst (λ z. z < length (signals n)) e (signal_below n sound.formed.numbered y valid)
  | inr ne ↦ absurd (both_ways (eqb y y) (inner.others y ne).0 (eq-eqb y y refl))
]
inner_signal n sound (Out y) x valid inner = absurd (both_ways (eqb y y) (inner.outputs y) (eq-eqb y y refl))
inner_signal n sound (Pin z k) x valid inner =
    let d : Definition = valid.0 in
    let id : d.id ≡ z = valid.2 in
    elim (cases_eq z x) [
      | inl e ↦ subst (λ y. y < length (signals n)) (id ∙ e) (definition_below n sound.formed.numbered d valid.1)
      | inr ne ↦ elim (cases_Bool (is_cell d)) [
        | inl cell ↦
            let c : Contains (cells n) d = filter_contains is_cell n.definitions d valid.1 cell in
            let one : length d.pins ≡ 1 = All-contains (λ (e : Definition). length e.pins ≡ 1) (cells n) d (one_pin n sound.closed) c in
            let place : k ≡ 0 = (let l : k < length d.pins = valid.3 in omega arith) in
            absurd (both_ways (eqb z d.id && eqb k 0) (inner.pins d c) (both_true (eq-eqb z d.id (sym id)) (eq-eqb k 0 place)))
        | inr gate ↦
            absurd (both_ways (eqb z z && eqb k k) ((inner.others z ne).1 d (filter_contains is_gate n.definitions d valid.1 (ap not gate)) id k)
            (both_true (eq-eqb z z refl) (eq-eqb k k refl)))
      ]
    ]
