-- Whether a decision is contradicted, by a test at each signal; and what one decision more does to it.
use Rattle.std.proofs.Common.{◌≡◌, ◌≢◌, ℕ, Bool, true, false, not, List, ◌∷◌, Option, Some, None, refl, sym, ◌∙◌, ap, subst, inl, inr, ◌⊎◌, cond, eqb}
use Rattle.std.specs.List.{Contains}
use Rattle.std.proofs.lemmas.Bool.{cases_eq, eqb-true, eq-eqb, both_ways}
use Rattle.std.proofs.lemmas.List.Elements.{All-contains}
use Rattle.statement.specs.declared.kinds.Tri.{Tri}
use Rattle.statement.specs.declared.kinds.Tri.TheVariants.{Zero, One, X}
use Rattle.statement.specs.declared.lines.Fault.{Fault}
use Rattle.statement.specs.Patterns.{Holds}
use Rattle.statement.specs.Netlists.{Netlist, signals}
use Rattle.netlist.specs.Conditions.{IsSound}
use Rattle.netlist.specs.Settled.{at}
use Rattle.statement.specs.Values.{known}
use Rattle.netlist.proofs.Lists.{all_or_fails}
use Rattle.tri.specs.declared.labels.Label.{Label}
use Rattle.tri.specs.Labels.{Decisions, is_known_as, AllowsLabel, IsContradicted}
use Rattle.tri.specs.Known.{allows_tri}
use Rattle.tri.specs.Labelling.{AreLabelled}
use Rattle.tri.specs.Paths.{Path, decisions}
use Rattle.tri.proofs.MoreKnown.{more_known}
use Rattle.events.specs.declared.trails.Change.{Change}
use Rattle.events.specs.Trails.{AreChanges}
use Rattle.pair_sim.specs.inner.Levels.{blank, clashes}
use Rattle.pair_sim.proofs.Free.{own_if_undecided}

known_as : (b : Bool) (v : Tri) → is_known_as b v ≡ true → v ≡ known b
known_as true Zero e = absurd cc
known_as true One e = refl
known_as true X e = absurd cc
known_as false Zero e = refl
known_as false One e = absurd cc
known_as false X e = absurd cc

as_known : (b : Bool) → is_known_as b (known b) ≡ true
as_known true = refl
as_known false = refl

pub clash_means : (o : Option Bool) (own : Tri) → clashes o own ≡ true → (b : Bool) × (o ≡ Some b) × (own ≡ known (not b))
clash_means None own e = absurd cc
clash_means (Some b) own e = (b, refl, known_as (not b) own e)

pub means_clash : (o : Option Bool) (own : Tri) (b : Bool) → o ≡ Some b → own ≡ known (not b) → clashes o own ≡ true
means_clash o own b e k = ap (λ p. clashes p own) e ∙ (ap (is_known_as (not b)) k ∙ as_known (not b))

pub clash_contradicts : (path : Decisions) (n : Netlist) (l : ℕ → Label) (x : ℕ) → Contains (signals n) x → clashes (path x) (l x).own ≡ true → IsContradicted path n l
clash_contradicts path n l x c e = let w = clash_means (path x) (l x).own e in (x, c, (w.0, w.1, w.2))

pub contradicted_clashes : (path : Decisions) (n : Netlist) (l : ℕ → Label) → IsContradicted path n l → (x : ℕ) × Contains (signals n) x × (clashes (path x) (l x).own ≡ true)
contradicted_clashes path n l w = (w.0, w.1, means_clash (path w.0) (l w.0).own w.2.0 w.2.1 w.2.2)

-- it is decided whether a decision is contradicted
pub contradicted_or_not : (path : Decisions) (n : Netlist) (l : ℕ → Label) → IsContradicted path n l ⊎ (IsContradicted path n l → ⊥)
contradicted_or_not path n l = elim (all_or_fails (λ x. not (clashes (path x) (l x).own)) (signals n)) [
  | inl all ↦ inr (λ w.
      let c = contradicted_clashes path n l w in
      let e : not (clashes (path c.0) (l c.0).own) ≡ true = All-contains (λ x. not (clashes (path x) (l x).own) ≡ true) (signals n) c.0 all c.1 in
      both_ways (clashes (path c.0) (l c.0).own) (not_true (clashes (path c.0) (l c.0).own) e) c.2)
  | inr some ↦ inl (clash_contradicts path n l some.0 some.1 (not_false (clashes (path some.0) (l some.0).own) some.2))
]
  where
    not_true : (b : Bool) → not b ≡ true → b ≡ false
    not_true true e = absurd cc
    not_true false e = refl

    not_false : (b : Bool) → not b ≡ false → b ≡ true
    not_false true e = refl
    not_false false e = absurd cc

-- ---- one decision more

pub same_elsewhere : (path : Path) (x y : ℕ) (b : Bool) → y ≢ x → decisions ((x, b) ∷ path) y ≡ decisions path y
same_elsewhere path x y b ne =
    let step : (t : Bool) → (t ≡ true → ⊥) → cond t (Some b) (decisions path y) ≡ decisions path y = elim [ true ↦ λ h. absurd (h refl) | false ↦ λ h. refl ] in
    step (eqb y x) (λ e. ne (eqb-true y x e))

pub decided_last : (path : Path) (x : ℕ) (b : Bool) → decisions ((x, b) ∷ path) x ≡ Some b
decided_last path x b = ap (λ (t : Bool). cond t (Some b) (decisions path x)) (eq-eqb x x refl)

pub keeps_decisions : (path : Path) (x : ℕ) (b : Bool) → decisions path x ≡ None → (y : ℕ) (c : Bool) → decisions path y ≡ Some c → decisions ((x, b) ∷ path) y ≡ Some c
keeps_decisions path x b fresh y c e = elim (cases_eq y x) [
  | inl same ↦ absurd (let k : Some c ≡ None = sym e ∙ (ap (decisions path) same ∙ fresh) in cc)
  | inr other ↦ same_elsewhere path x y b other ∙ e
]

known_kept : (c : Bool) (v : Tri) → allows_tri (known c) v ≡ true → v ≡ known c
known_kept true Zero e = absurd cc
known_kept true One e = refl
known_kept true X e = absurd cc
known_kept false Zero e = refl
known_kept false One e = absurd cc
known_kept false X e = absurd cc

x_not_known : (c : Bool) → X ≡ known c → ⊥
x_not_known true e = cc
x_not_known false e = cc

module _ (f : Fault) (n : Netlist) (holds : Holds) (sound : IsSound n) (path : Path) (x : ℕ) (b : Bool) (fresh : decisions path x ≡ None)
    (below values : List Label) (was : AreLabelled (Some f) (decisions path) n holds below) (are : AreLabelled (Some f) (decisions ((x, b) ∷ path)) n holds values) where
  pub grows : (IsContradicted (decisions ((x, b) ∷ path)) n (at values blank) → ⊥) → (y : ℕ) → Contains (signals n) y → AllowsLabel (at below blank y) (at values blank y)
  grows possible = more_known (Some f) (decisions path) (decisions ((x, b) ∷ path)) n holds (at below blank) (at values blank) sound (was.labels blank) (are.labels blank)
      (keeps_decisions path x b fresh) possible

  -- a decision that is contradicted stays so
  pub still_contradicted : IsContradicted (decisions path) n (at below blank) → IsContradicted (decisions ((x, b) ∷ path)) n (at values blank)
  still_contradicted w = elim (contradicted_or_not (decisions ((x, b) ∷ path)) n (at values blank)) [
    | inl yet ↦ yet
    | inr possible ↦ absurd (possible (
      w.0,
      w.1,
      (
        w.2.0,
        keeps_decisions path x b fresh w.0 w.2.0 w.2.1,
        known_kept (not w.2.0) (at values blank w.0).own (subst (λ v. allows_tri v (at values blank w.0).own ≡ true) w.2.2 (grows possible w.0 w.1).own),
      ),
    ))
  ]

  -- only a signal whose label changed can be the first one that is contradicted
  pub still_possible : Contains (signals n) x → (at below blank x).good ≡ X → (IsContradicted (decisions path) n (at below blank) → ⊥)
      → (changes : List (Change Label)) → AreChanges below values changes
      → ((c : Change Label) → Contains changes c → clashes (decisions ((x, b) ∷ path) c.signal) (at values blank c.signal).own ≡ false)
      → IsContradicted (decisions ((x, b) ∷ path)) n (at values blank) → ⊥
  still_possible signal free possible changes ch none w =
      let k : clashes (decisions ((x, b) ∷ path) w.0) (at values blank w.0).own ≡ true = means_clash (decisions ((x, b) ∷ path) w.0) (at values blank w.0).own w.2.0 w.2.1 w.2.2 in
      let same : at values blank w.0 ≡ at below blank w.0 =
      ch.others w.0 blank (λ c m e. both_ways (clashes (decisions ((x, b) ∷ path) w.0) (at values blank w.0).own)
      (subst (λ y. clashes (decisions ((x, b) ∷ path) y) (at values blank y).own ≡ false) e (none c m)) k) in
      let own : (at below blank w.0).own ≡ known (not w.2.0) = ap (λ (l : Label). l.own) (sym same) ∙ w.2.2 in
      elim (cases_eq w.0 x) [
        | inl e ↦
            let unknown : (at below blank x).own ≡ X = own_if_undecided f (decisions path) n holds (at below blank) (was.labels blank) x signal fresh ∙ free in
            x_not_known (not w.2.0) (sym unknown ∙ (ap (λ y. (at below blank y).own) (sym e) ∙ own))
        | inr other ↦ possible (w.0, w.1, (w.2.0, sym (same_elsewhere path x w.0 b other) ∙ w.2.1, own))
      ]
