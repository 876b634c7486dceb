-- What no pattern detects, or none that agrees with decisions.
use Rattle.std.proofs.Common.{◌≡◌, ◌≢◌, ℕ, zero, suc, Bool, true, false, List, [], ◌∷◌, Some, None, refl, ◌∙◌, ap, subst, inl, inr}
use Rattle.std.specs.List.{slice_get}
use Rattle.std.proofs.lemmas.List.Folds.{list_any_none}
use Rattle.statement.specs.declared.lines.Fault.{Fault}
use Rattle.statement.specs.declared.lines.Point.{Point}
use Rattle.statement.specs.declared.lines.Point.TheVariants.{Output, Cell}
use Rattle.statement.specs.Netlists.{Netlist}
use Rattle.netlist.specs.Conditions.{IsSound}
use Rattle.statement.specs.Values.{Settles, bits, outs, next, allows}
use Rattle.netlist.proofs.Alike.{settles_once}
use Rattle.netlist.proofs.Lists.{decides_beq}
use Rattle.std.specs.Bool.{beq}
use Rattle.statement.specs.Patterns.{observed, Detects, Holds, Obeys}
use Rattle.netlist.specs.Detection.{IsRedundant}
use Rattle.tri.specs.declared.labels.Label.{Label}
use Rattle.tri.specs.Labels.{Decisions, labels, AreLabels, IsClosedAt, IsContradicted, IsUnobserved, Follows, MeetsDecisions}
use Rattle.tri.proofs.AboveLemmas.{same_where_none_differs}
use Rattle.tri.proofs.LabelLemmas.{other_bit, above_at, outs_above, next_above}

-- ---- a redundant fault

same_bit : (x y : Bool) → ¬ (¬ (Some x ≡ Some y)) → x ≡ y
same_bit true true h = refl
same_bit true false h = absurd (h (λ e. cc))
same_bit false true h = absurd (h (λ e. cc))
same_bit false false h = refl

pub same_lists : (xs ys : List Bool) → ((k : ℕ) → ¬ (¬ (slice_get xs k ≡ slice_get ys k))) → xs ≡ ys
same_lists [] [] h = refl
same_lists [] (y ∷ ys) h = absurd (h zero (λ e. cc))
same_lists (x ∷ xs) [] h = absurd (h zero (λ e. cc))
same_lists (x ∷ xs) (y ∷ ys) h = ap (λ z. z ∷ xs) (same_bit x y (h zero)) ∙ ap (λ zs. y ∷ zs) (same_lists xs ys (λ k. h (suc k)))

pub redundant_changes_nothing : (f : Fault) (n : Netlist) (holds : Holds) (inputs state : List Bool) (good faulty : ℕ → Bool) → IsRedundant n holds f → Obeys holds inputs
    → Settles (bits None) n inputs state good → Settles (bits (Some f)) n inputs state faulty
    → (outs (bits None) n good ≡ outs (bits (Some f)) n faulty) × (next (bits None) n good ≡ next (bits (Some f)) n faulty)
redundant_changes_nothing f n holds inputs state good faulty r obeys p q =
    let same : (point : Point) → observed (bits None) n good point ≢ observed (bits (Some f)) n faulty point → ⊥ =
    λ point d. r inputs state point obeys (record { good = good; faulty = faulty; good_settles = p; faulty_settles = q; differs = d }) in (
      same_lists (outs (bits None) n good) (outs (bits (Some f)) n faulty) (λ k. same (Output k)),
      same_lists (next (bits None) n good) (next (bits (Some f)) n faulty) (λ k. same (Cell k)),
    )

-- ---- a closed label

same_observed : (f : Fault) (n : Netlist) (good faulty : ℕ → Bool)
    → outs (bits None) n good ≡ outs (bits (Some f)) n faulty → next (bits None) n good ≡ next (bits (Some f)) n faulty
    → (point : Point) → observed (bits None) n good point ≡ observed (bits (Some f)) n faulty point
same_observed f n good faulty p q (Output k) = ap (λ xs. slice_get xs k) p
same_observed f n good faulty p q (Cell k) = ap (λ xs. slice_get xs k) q

module _ (f : Fault) (path : Decisions) (n : Netlist) (holds : Holds) (l : ℕ → Label) (inputs state : List Bool) (sound : IsSound n)
    (r : AreLabels (Some f) path n holds l) (good faulty : ℕ → Bool)
    (p : Settles (bits None) n inputs state good) (q : Settles (bits (Some f)) n inputs state faulty) (obeys : Obeys holds inputs) (follows : Follows path n good) where
  not_contradicted : IsContradicted path n l → ⊥
  not_contradicted w =
      let above = above_at f path n l good faulty holds inputs state sound r p q obeys follows w.0 w.1 in
      let bit = w.2.0 in
      other_bit bit (good w.0) (subst (λ t. allows t (good w.0) ≡ true) w.2.2 above.own) (follows w.0 bit w.1 w.2.1)

  unobserved_same : IsUnobserved f path n l → (point : Point) → observed (bits None) n good point ≡ observed (bits (Some f)) n faulty point
  unobserved_same u =
      same_observed f n good faulty
      (same_where_none_differs (outs (labels (Some f) path) n l) (outs (bits None) n good) (outs (bits (Some f)) n faulty)
      (outs_above f path n l good faulty holds inputs state sound r p q obeys follows)
      (list_any_none (λ (m : Label). m.may_differ) (outs (labels (Some f) path) n l) u.outputs))
      (same_where_none_differs (next (labels (Some f) path) n l) (next (bits None) n good) (next (bits (Some f)) n faulty)
      (next_above f path n l good faulty holds inputs state sound r p q obeys follows)
      (list_any_none (λ (m : Label). m.may_differ) (next (labels (Some f) path) n l) u.cells))

  closed_same : IsClosedAt f path n l → (point : Point) → observed (bits None) n good point ≡ observed (bits (Some f)) n faulty point
  closed_same c = elim c [ inl w ↦ absurd (not_contradicted w) | inr u ↦ unobserved_same u ]

pub closed_detects_nothing : (f : Fault) (path : Decisions) (n : Netlist) (holds : Holds) (l : ℕ → Label) (inputs state : List Bool) (point : Point)
    → IsSound n → AreLabels (Some f) path n holds l → IsClosedAt f path n l → Obeys holds inputs → MeetsDecisions path n inputs state
    → ¬ Detects n f inputs state point
closed_detects_nothing f path n holds l inputs state point sound r c obeys w t =
    let once = settles_once beq decides_beq (bits None) n inputs state t.good w.good sound.closed sound.acyclic t.good_settles w.settles in
    t.differs (closed_same f path n holds l inputs state sound r t.good t.faulty t.good_settles t.faulty_settles obeys
    (λ x b s e. once x s ∙ w.follows x b s e) c point)
