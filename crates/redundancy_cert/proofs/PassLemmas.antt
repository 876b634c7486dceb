-- What the labels, as they stand, tell of their path.
use Rattle.std.proofs.Common.{◌≡◌, ℕ, ◌<◌, ◌≤◌, Bool, true, false, not, List, length, Option, Some, None, get_or, refl, sym, ◌∙◌, ap, subst, inl, inr, nat_lt, arith}
use Rattle.std.specs.Bool.{MatchBool}
use Rattle.std.specs.List.{Contains}
use Rattle.statement.specs.declared.kinds.Tri.TheVariants.{Zero, One, X}
use Rattle.statement.specs.declared.kinds.Tri.{Tri}
use Rattle.statement.specs.declared.lines.Fault.{Fault}
use Rattle.netlist.specs.Conditions.{IsSound}
use Rattle.statement.specs.Netlists.{signals}
use Rattle.netlist.specs.Settled.{at}
use Rattle.tri.specs.declared.labels.Label.{Label}
use Rattle.tri.specs.Labels.{Decisions, AreLabels, IsUnobserved, IsContradicted, is_known_as}
use Rattle.tri.specs.Labelling.{decided_in}
use Rattle.tri.specs.Paths.{Path, decisions, IsClosedPath, IsUnknown}
use Rattle.tri.proofs.PathLemmas.{not_closed, not_unknown}
use Rattle.std.proofs.lemmas.Bool.{both_ways, ltb-true, ltb-false}
use Rattle.statement.specs.Values.{known}
use Rattle.netlist.proofs.Placed.{signal_below, signal_from}
use Rattle.events.specs.declared.trails.Change.{Change}
use Rattle.label_events.specs.Lines.{IsInner, IsPointLine}
use Rattle.label_events.proofs.Changing.{fault_changes_nothing, same_off_back}
use Rattle.redundancy_cert.specs.inner.Tallies.{contradicts}
use Rattle.redundancy_cert.specs.inner.Passing.{Labelled, AreStanding, IsKept, no_label}
use Rattle.redundancy_cert.proofs.TallyLemmas.{count_some, count_none}
use Rattle.redundancy_cert.proofs.PointLemmas.{nothing_differs, none_seen, some_seen, known_unseen, unknown_seen}

module _ (p : Labelled) (stands : AreStanding p) (f : Fault) (path : Path) (stuck : p.fault ≡ Some f) (decided : decided_in p.decided ≡ decisions path) where
  pub are : AreLabels (Some f) (decisions path) p.netlist p.holds (at p.values no_label)
  are = subst (λ (g : Option Fault). AreLabels g (decisions path) p.netlist p.holds (at p.values no_label)) stuck
      (subst (λ (d : Decisions). AreLabels p.fault d p.netlist p.holds (at p.values no_label)) decided (stands.labels no_label))

  pub unknown_from : (x : ℕ) → Contains (signals p.netlist) x → (at p.values no_label x).good ≡ X → IsUnknown f p.netlist p.holds path x
  unknown_from x s e = record { label = at p.values no_label; are = are; signal = s; unknown = e }

  pub known_from : IsSound p.netlist → (x : ℕ) → ((at p.values no_label x).good ≡ X → ⊥) → IsUnknown f p.netlist p.holds path x → ⊥
  known_from sound x h = not_unknown f p.netlist p.holds sound path x (at p.values no_label) are h

-- ---- the observed points

module _ (p : Labelled) (marks : List Bool) (d c : ℕ) (trail : List (Change Label)) (kept : IsKept p marks d c trail) (sound : IsSound p.netlist) (f : Fault) (path : Path) where
  pub observed_inner : (x : ℕ) → IsInner p.netlist f.line x
      → MatchBool (nat_lt 0 d) (IsUnobserved f (decisions path) p.netlist (at p.values no_label) → ⊥) (IsUnobserved f (decisions path) p.netlist (at p.values no_label))
  observed_inner x inner =
      let some : 0 < d → IsUnobserved f (decisions path) p.netlist (at p.values no_label) → ⊥ =
      λ l. some_seen f (decisions path) p.netlist sound marks p.values kept.standing.size kept.marks_are x inner (subst (λ m. 0 < m) kept.differing_is l) in
      let none : d ≤ 0 → IsUnobserved f (decisions path) p.netlist (at p.values no_label) =
      λ l. none_seen f (decisions path) p.netlist sound marks p.values kept.standing.size kept.marks_are x inner (let e = kept.differing_is in omega arith) in
      let step : (b : Bool) → nat_lt 0 d ≡ b
      → MatchBool b (IsUnobserved f (decisions path) p.netlist (at p.values no_label) → ⊥) (IsUnobserved f (decisions path) p.netlist (at p.values no_label)) =
      elim [ true ↦ λ e. some (ltb-true 0 d e) | false ↦ λ e. none (ltb-false 0 d e) ] in
      step (nat_lt 0 d) refl

  module _ (stuck : p.fault ≡ Some f) (decided : decided_in p.decided ≡ decisions path) where
    pub observed_read : (x i : ℕ) (vs : List Label) (v : Bool) → IsPointLine p.netlist f.line x → i ≡ x → vs ≡ p.values → v ≡ is_known_as f.value (get_or vs i no_label).good
        → MatchBool (not v) (IsUnobserved f (decisions path) p.netlist (at p.values no_label) → ⊥) (IsUnobserved f (decisions path) p.netlist (at p.values no_label))
    observed_read x i vs v read ix vp is =
        let value : v ≡ is_known_as f.value (at p.values no_label x).good = is ∙ (ap (λ (us : List Label). is_known_as f.value (get_or us i no_label).good) vp ∙ ap (λ j. is_known_as f.value (get_or p.values j no_label).good) ix) in
        let plain : AreLabels None (decisions path) p.netlist p.holds (at p.values no_label) =
        fault_changes_nothing f.line (Some f) None (decisions path) p.netlist (same_off_back f) p.holds (at p.values no_label) read.off (are p kept.standing f path stuck decided) in
        let same = nothing_differs (decisions path) p.netlist p.holds sound (at p.values no_label) plain in
        let step : (b : Bool) → v ≡ b
        → MatchBool (not b) (IsUnobserved f (decisions path) p.netlist (at p.values no_label) → ⊥) (IsUnobserved f (decisions path) p.netlist (at p.values no_label)) =
        elim [
          | true ↦ λ e. known_unseen f (decisions path) p.netlist sound (at p.values no_label) same x read (sym value ∙ e)
          | false ↦ λ e. unknown_seen f (decisions path) p.netlist sound (at p.values no_label) same x read (sym value ∙ e)
        ] in
        subst (λ b. MatchBool (not b) (IsUnobserved f (decisions path) p.netlist (at p.values no_label) → ⊥) (IsUnobserved f (decisions path) p.netlist (at p.values no_label))) refl (step v refl)

    -- ---- whether the label is closed

    as_known : (b : Bool) (t : Tri) → is_known_as b t ≡ true → t ≡ known b
    as_known true One e = refl
    as_known true Zero e = absurd (both_ways false refl e)
    as_known true X e = absurd (both_ways false refl e)
    as_known false Zero e = refl
    as_known false One e = absurd (both_ways false refl e)
    as_known false X e = absurd (both_ways false refl e)

    known_itself : (b : Bool) → is_known_as b (known b) ≡ true
    known_itself true = refl
    known_itself false = refl

    clash : (o : Option Bool) (l : Label) → contradicts o l ≡ true → (b : Bool) × (o ≡ Some b) × (l.own ≡ known (not b))
    clash None l e = absurd (both_ways false refl e)
    clash (Some b) l e = (b, refl, as_known (not b) l.own e)

    pub contradicted_some : 0 < c → IsClosedPath f p.netlist p.holds path
    contradicted_some l =
        let w = count_some contradicts p.decided p.values None no_label (subst (λ m. 0 < m) kept.contradicted_is l) in
        let x = w.0 in
        let h = clash (get_or p.decided x None) (get_or p.values x no_label) w.3 in
        record {
          label = at p.values no_label;
          are = are p kept.standing f path stuck decided;
          closed = inl (
            x,
            signal_from p.netlist sound.formed.numbered x (let m = w.2 in let e = kept.standing.size in omega arith),
            (h.0, ap (λ (g : Decisions). g x) (sym decided) ∙ h.1, h.2),
          );
        }

    not_contradicted : c ≤ 0 → IsContradicted (decisions path) p.netlist (at p.values no_label) → ⊥
    not_contradicted z w =
        let x = w.0 in
        let low : x < length (signals p.netlist) = signal_below p.netlist sound.formed.numbered x w.1 in
        let none = count_none contradicts p.decided p.values x None no_label (let e = kept.contradicted_is in omega arith) (let e = kept.standing.decided in omega arith)
        (let e = kept.standing.size in omega arith) in
        let here : get_or p.decided x None ≡ Some w.2.0 = ap (λ (g : Decisions). g x) decided ∙ w.2.1 in
        both_ways (contradicts (get_or p.decided x None) (get_or p.values x no_label)) none
        (ap (λ (o : Option Bool). contradicts o (get_or p.values x no_label)) here ∙ (ap (is_known_as (not w.2.0)) w.2.2 ∙ known_itself (not w.2.0)))

    pub closed_else : c ≤ 0 → (sees : Bool)
        → MatchBool sees (IsUnobserved f (decisions path) p.netlist (at p.values no_label) → ⊥) (IsUnobserved f (decisions path) p.netlist (at p.values no_label))
        → MatchBool (not sees) (IsClosedPath f p.netlist p.holds path) (IsClosedPath f p.netlist p.holds path → ⊥)
    closed_else z true h =
        not_closed f p.netlist p.holds sound path (at p.values no_label) (are p kept.standing f path stuck decided) (λ w. elim w [ inl k ↦ not_contradicted z k | inr u ↦ h u ])
    closed_else z false h = record { label = at p.values no_label; are = are p kept.standing f path stuck decided; closed = inr h }
