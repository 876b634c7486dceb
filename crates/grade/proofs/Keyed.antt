-- The least keys of signals, point by point.
use Rattle.std.proofs.Common.{◌≡◌, ◌≢◌, ℕ, ◌+◌, ◌-◌, ◌<◌, ◌≤◌, ◌⊎◌, cond, ltb, List, length, get_or, set, replicate, sym, ◌∙◌, ap, subst, inl, inr, arith}
use Rattle.std.proofs.lemmas.Bool.{cases_eq, cases_lt, false_from_ne_true, lt-ltb, ltb-true}
use Rattle.std.proofs.lemmas.List.{get_or_default, get_or-replicate, get_or-set_other, get_or-set_same, length-replicate, length-set}
use Rattle.statement.specs.declared.lines.Point.{Point}
use Rattle.statement.specs.declared.lines.Point.TheVariants.{Output, Cell}
use Rattle.statement.specs.Netlists.{Netlist, cells, signals}
use Rattle.statement.specs.Tests.{IsStrobedAt}
use Rattle.netlist.specs.Conditions.{IsSound}
use Rattle.scan_insert.specs.Scanned.{AreChainsOf}
use Rattle.scan_play.proofs.Places.{below_of}
use Rattle.scan_play.proofs.PlaySteps.{few_outputs}
use Rattle.run_report.specs.Strobes.{IsPointOf}
use Rattle.run_report.proofs.CycleLemmas.{chains_small, longest_small}
use Rattle.netlist.proofs.Placed.{signal_below}
use Rattle.observed_points.specs.Points.{point_of, points, watched}
use Rattle.observed_points.proofs.ObservedPoints.{points_count, signal_within, watched_count, watched_in}
use Rattle.grade.specs.inner.Keys.{AreLeastKeys, IsKeyOf, key_at, lesser, most_key, signal_at}
use Rattle.grade.proofs.FirstGraded.{between}

-- ---- the key of a point

pub point_within : (n : Netlist) (sound : IsSound n) (c : ℕ) → c < length (points n) → IsPointOf n (point_of n c)
point_within n sound c l = elim (cases_lt c (length n.outputs)) [
  | inl low ↦ subst (IsPointOf n) (sym (ap (λ b. cond b (Output c) (Cell (c - length n.outputs))) (lt-ltb c (length n.outputs) low))) low
  | inr high ↦
      let all = points_count n sound in
      subst (IsPointOf n) (sym (ap (λ b. cond b (Output c) (Cell (c - length n.outputs))) (false_from_ne_true (ltb c (length n.outputs)) (λ e. let m = ltb-true c (length n.outputs) e in omega (arith, high, m)))))
      (let w : c - length n.outputs < length (cells n) = omega (arith, l, all, high) in w)
]

module _ (n : Netlist) (chains : List (List ℕ)) (sound : IsSound n) (are : AreChainsOf n chains) (point : Point) (cycle output : ℕ) (within : IsPointOf n point) (strobed : IsStrobedAt n chains 0 point cycle output) where
  pub early : cycle < 2147483648
  early =
      let m = longest_small n chains sound are in
      let l = (between n chains sound are 0 point cycle output strobed).1 in
      omega (arith, m, l)

  pub few_output : output < 4294967296
  few_output = few point within strobed
    where
      few : (p : Point) → IsPointOf n p → IsStrobedAt n chains 0 p cycle output → output < 4294967296
      few (Output k) w s = omega (arith, w, s.1, few_outputs n sound)
      few (Cell q) w s = omega (arith, s.output_is, few_outputs n sound, chains_small n chains sound are, below_of chains s.chain s.is_at.chain_cells s.is_at.has_chain)

  pub is_key : (key : ℕ) → key ≡ key_at cycle output → IsKeyOf n chains point key
  is_key key e = record {
    cycle = cycle;
    output = output;
    strobed = strobed;
    few = few_output;
    key_is = e;
    small = omega (arith, e, early, few_output);
  }

-- ---- what a point reads

module _ (n : Netlist) (sound : IsSound n) (seen : List ℕ) (c x i : ℕ) (are : seen ≡ watched n) (low : c < length seen) (e : i ≡ x) (is : x ≡ get_or seen c x) where
  pub point_inside : c < length (points n)
  point_inside = let s = ap length are ∙ watched_count n sound in omega (arith, low, s)

  pub read_signal : i ≡ signal_at n c
  read_signal = e ∙ (is ∙ (get_or_default seen c x 0 low ∙ (ap (λ (xs : List ℕ). get_or xs c 0) are ∙ watched_in n sound c point_inside)))

  pub signal_inside : (keys : List ℕ) → length keys ≡ length (signals n) → i < length keys
  signal_inside keys size =
      let s = read_signal in
      let b = signal_below n sound.formed.numbered (signal_at n c) (signal_within n sound c point_inside) in
      omega (arith, s, b, size)

-- ---- the least keys

-- the lesser one is one of both, and no greater than either
lesser_is : (a b : ℕ) → ((lesser a b ≡ b) × (b < a)) ⊎ ((lesser a b ≡ a) × (a ≤ b))
lesser_is a b = elim (cases_lt b a) [
  | inl l ↦ inl (ap (λ t. cond t b a) (lt-ltb b a l), l)
  | inr l ↦ inr (ap (λ t. cond t b a) (false_from_ne_true (ltb b a) (λ e. let m = ltb-true b a e in omega (arith, l, m))), l)
]

pub no_keys : (n : Netlist) (chains : List (List ℕ)) (count : ℕ) → count ≡ length (signals n) → AreLeastKeys n chains 0 (replicate count most_key)
no_keys n chains count e = record {
  size = length-replicate count most_key ∙ e;
  lower = λ c l. absurd (omega (arith, l));
  some = λ x l. inl (get_or-replicate count x most_key 0 (let s = length-replicate count most_key in omega (arith, l, s)));
}

module _ (n : Netlist) (chains : List (List ℕ)) (m : ℕ) (keys : List ℕ) (h : AreLeastKeys n chains m keys) (key x : ℕ) (is : IsKeyOf n chains (point_of n m) key) (reads : signal_at n m ≡ x)
    (inside : x < length keys) where
  new : List ℕ
  new = set keys x (lesser (get_or keys x 0) key)

  here : get_or new x 0 ≡ lesser (get_or keys x 0) key
  unfolding new
  here = get_or-set_same keys x (lesser (get_or keys x 0) key) 0 inside

  other : (y : ℕ) → y ≢ x → get_or new y 0 ≡ get_or keys y 0
  unfolding new
  other y ne = get_or-set_other keys x y (lesser (get_or keys x 0) key) 0 ne

  no_greater : (y : ℕ) → get_or new y 0 ≤ get_or keys y 0
  no_greater y = elim (cases_eq y x) [
    | inl e ↦ subst (λ z. get_or new z 0 ≤ get_or keys z 0) (sym e) (elim (lesser_is (get_or keys x 0) key) [
      | inl w ↦ omega (arith, here, w.0, w.1)
      | inr w ↦ omega (arith, here, w.0)
    ])
    | inr ne ↦ omega (arith, other y ne)
  ]

  lower : (c : ℕ) → c < m + 1 → (k : ℕ) × IsKeyOf n chains (point_of n c) k × (get_or new (signal_at n c) 0 ≤ k)
  lower c l = elim (cases_lt c m) [
    | inl less ↦ let w = h.lower c less in (w.0, w.1, (let a = no_greater (signal_at n c) in let b = w.2 in omega (arith, a, b)))
    | inr high ↦
        let e : m ≡ c = omega (arith, l, high) in
        subst (λ d. (k : ℕ) × IsKeyOf n chains (point_of n d) k × (get_or new (signal_at n d) 0 ≤ k)) e (
          key,
          is,
          subst (λ z. get_or new z 0 ≤ key) (sym reads) (elim (lesser_is (get_or keys x 0) key) [
            | inl w ↦ omega (arith, here, w.0)
            | inr w ↦ omega (arith, here, w.0, w.1)
          ]),
        )
  ]

  some : (y : ℕ) → y < length new → (get_or new y 0 ≡ most_key) ⊎ ((c : ℕ) × (c < m + 1) × (signal_at n c ≡ y) × IsKeyOf n chains (point_of n c) (get_or new y 0))
  unfolding new
  some y l = elim (cases_eq y x) [
    | inl e ↦ elim (lesser_is (get_or keys x 0) key) [
      | inl w ↦ inr (m, omega arith, reads ∙ sym e, subst (IsKeyOf n chains (point_of n m)) (sym (ap (λ z. get_or new z 0) e ∙ (here ∙ w.0))) is)
      | inr w ↦ was y l (ap (λ z. get_or new z 0) e ∙ (here ∙ (w.0 ∙ sym (ap (λ z. get_or keys z 0) e))))
    ]
    | inr ne ↦ was y l (other y ne)
  ]
    where
      was : (y : ℕ) → y < length new → get_or new y 0 ≡ get_or keys y 0
          → (get_or new y 0 ≡ most_key) ⊎ ((c : ℕ) × (c < m + 1) × (signal_at n c ≡ y) × IsKeyOf n chains (point_of n c) (get_or new y 0))
      was y l same =
          let size = length-set keys x (lesser (get_or keys x 0) key) in
          elim (h.some y (omega (arith, l, size))) [
            | inl e ↦ inl (same ∙ e)
            | inr w ↦ inr (w.0, (let a = w.1 in omega (arith, a)), w.2, subst (IsKeyOf n chains (point_of n w.0)) (sym same) w.3)
          ]

  pub one_key : (m' : ℕ) (made : List ℕ) → m' ≡ m + 1 → made ≡ set keys x (lesser (get_or keys x 0) key) → AreLeastKeys n chains m' made
  unfolding new
  one_key m' made e is_made =
      subst (λ k. AreLeastKeys n chains k made) (sym e)
      (subst (AreLeastKeys n chains (m + 1)) (sym is_made) (record { size = length-set keys x (lesser (get_or keys x 0) key) ∙ h.size; lower = lower; some = some }))
