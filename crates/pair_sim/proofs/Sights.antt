-- One observed point more.
use Rattle.std.proofs.Common.{◌≡◌, ◌≢◌, ◌≤◌, ◌<◌, ℕ, zero, suc, true, false, List, [], ◌∷◌, ◌++◌, length, map, take, refl, sym, ◌∙◌, subst, eqb, arith, Some}
use Rattle.std.specs.Bool.{Decides}
use Rattle.std.specs.List.{All, AllPairs, Contains, slice_get, flat_map}
use Rattle.std.proofs.lemmas.List.{take-append-le, take_at, length-append, length-map, length-take-le}
use Rattle.std.proofs.lemmas.List.Elements.{All-nil, All-cons, All-head, All-tail, All-take, All-append, All-contains, Contains-append_left, Contains-push}
use Rattle.std.proofs.lemmas.Bool.{eqb-true, eq-eqb}
use Rattle.std.proofs.lemmas.List.Sums.{length-filter, count_by-le-length}
use Rattle.std.proofs.lemmas.Map.Steps.{length-le_from_distinct_below}
use Rattle.std.proofs.lemmas.Map.Made.{IsDistinct-from_AllPairs}
use Rattle.statement.specs.Netlists.{Definition, Netlist, is_cell, cells, signals}
use Rattle.netlist.specs.Conditions.{IsSound}
use Rattle.netlist.proofs.Lists.{any_true}
use Rattle.netlist.proofs.Placed.{signal_below, signals_length}
use Rattle.netlist.proofs.Alike.{length-on_pins}
use Rattle.netlist.proofs.WellFormed.{one_pin}
use Rattle.statement.specs.Values.{Rule, pins_of}
use Rattle.tri.specs.declared.labels.Label.{Label}
use Rattle.tri.specs.Paths.{has_effect, HaveNoEffect, IsFirstEffect}
use Rattle.pair_sim.specs.declared.points.PointsSight.TheVariants.{Same}
use Rattle.pair_sim.specs.inner.Points.{IsSight}

get_front : {A : Type 0} (xs ys : List A) (k : ℕ) (v : A) → slice_get xs k ≡ Some v → (k < length xs) × (slice_get (xs ++ ys) k ≡ Some v)
get_front [] ys k v e = absurd cc
get_front (x ∷ xs) ys zero v e = (omega arith, e)
get_front (x ∷ xs) ys (suc k) v e = let h = get_front xs ys k v e in (let l = h.0 in omega arith, h.1)

get_push : {A : Type 0} (xs : List A) (v : A) (k : ℕ) → length xs ≡ k → slice_get (xs ++ v ∷ []) k ≡ Some v
get_push [] v zero e = refl
get_push [] v (suc k) e = absurd (omega arith)
get_push (x ∷ xs) v zero e = absurd (omega arith)
get_push (x ∷ xs) v (suc k) e = get_push xs v k (omega arith)

pub effect_stays : (labels : List Label) (l : Label) (k : ℕ) → IsFirstEffect labels k → IsFirstEffect (labels ++ l ∷ []) k
effect_stays labels l k h =
    let w = get_front labels (l ∷ []) k h.label h.here in
    let low = w.0 in
    record {
      label = h.label;
      here = w.1;
      effect = h.effect;
      before = subst HaveNoEffect (sym (take-append-le k labels (l ∷ []) (omega arith))) h.before;
    }

pub effect_here : (labels : List Label) (l : Label) (k : ℕ) → length labels ≡ k → HaveNoEffect labels → has_effect l ≡ true → IsFirstEffect (labels ++ l ∷ []) k
effect_here labels l k e none h = record {
  label = l;
  here = get_push labels l k e;
  effect = h;
  before = subst HaveNoEffect (sym (take_at labels (l ∷ []) k e)) none;
}

pub no_effect_more : (labels : List Label) (l : Label) → HaveNoEffect labels → has_effect l ≡ false → HaveNoEffect (labels ++ l ∷ [])
no_effect_more labels l none h =
    All-append (λ (m : Label). has_effect m ≡ false) labels (l ∷ []) none (All-cons (λ (m : Label). has_effect m ≡ false) l [] h (All-nil _))

pub differs_more : (labels : List Label) (l : Label) → (m : Label) × Contains labels m × (m.may_differ ≡ true) → (m : Label) × Contains (labels ++ l ∷ []) m × (m.may_differ ≡ true)
differs_more labels l w = (w.0, Contains-append_left labels (l ∷ []) w.0 w.1, w.2)

pub differs_here : (labels : List Label) (l : Label) → l.may_differ ≡ true → (m : Label) × Contains (labels ++ l ∷ []) m × (m.may_differ ≡ true)
differs_here labels l h = (l, Contains-push labels l, h)

-- ---- how many observed points there are

eqb_decides : (a b : ℕ) → Decides (eqb a b) (a ≡ b)
eqb_decides a b = (eqb-true a b, eq-eqb a b)

few_distinct : (xs : List ℕ) (n : ℕ) → AllPairs (λ x y. x ≢ y) xs → ((x : ℕ) → Contains xs x → x < n) → length xs ≤ n
few_distinct xs n once below = length-le_from_distinct_below xs n (IsDistinct-from_AllPairs eqb_decides xs once)
    (λ q h. let w = any_true (eqb q) xs h in subst (λ x. x < n) (sym (eqb-true q w.0 w.2)) (below w.0 w.1))

module _ (n : Netlist) (sound : IsSound n) where
  pub outputs_few : length n.outputs ≤ length (signals n)
  outputs_few = few_distinct n.outputs (length (signals n)) sound.formed.once
      (λ x c. signal_below n sound.formed.numbered x (All-contains (Contains (signals n)) n.outputs x sound.closed.outputs c))

  pub cells_few : length (cells n) ≤ length (signals n)
  cells_few =
      let a = length-filter is_cell n.definitions in
      let b = count_by-le-length is_cell n.definitions in
      let c = signals_length n in
      omega arith

  -- each cell has one pin
  pub length_next : {V : Type 0} (rule : Rule V) (a : ℕ → V) (k : ℕ) → k ≤ length (cells n) → length (flat_map (pins_of rule a) (take k (cells n))) ≡ k
  length_next {V} rule a k l = all_one (take k (cells n)) (All-take (λ (d : Definition). length d.pins ≡ 1) k (cells n) (one_pin n sound.closed)) ∙ length-take-le k (cells n) l
    where
      all_one : (ds : List Definition) → All (λ (d : Definition). length d.pins ≡ 1) ds → length (flat_map (pins_of rule a) ds) ≡ length ds
      all_one [] h = refl
      all_one (d ∷ ds) h =
          let one : length (pins_of rule a d) ≡ 1 = length-on_pins rule d.id 0 (map a d.pins) ∙ (length-map d.pins a ∙ All-head (λ (e : Definition). length e.pins ≡ 1) d ds h) in
          let rest = all_one ds (All-tail (λ (e : Definition). length e.pins ≡ 1) d ds h) in
          let e = length-append (pins_of rule a d) (flat_map (pins_of rule a) ds) in
          omega arith
