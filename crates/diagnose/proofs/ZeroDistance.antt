-- A fault at distance 0 from a log explains it, and one that explains it is at distance 0.
use Rattle.std.proofs.Common.{◌≡◌, ◌≢◌, ℕ, suc, zero, ◌+◌, ◌<◌, ◌⊎◌, Bool, true, false, not, List, [], ◌∷◌, length, replicate, Option, Some, refl, sym, ◌∙◌, ap, ap₂, subst, inl, inr, arith}
use Rattle.std.specs.List.{All, Contains}
use Rattle.std.specs.Str.{bytes_eq}
use Rattle.std.proofs.lemmas.Bool.{cases_Bool, cases_eq, cases_lt}
use Rattle.std.proofs.lemmas.Slice.Eq.{bytes_eq-Decides}
use Rattle.statement.specs.declared.kinds.Tri.{Tri}
use Rattle.statement.specs.declared.kinds.Tri.TheVariants.{X, Zero, One}
use Rattle.statement.specs.declared.lines.Fault.{Fault}
use Rattle.statement.specs.Netlists.{Netlist, cells}
use Rattle.statement.specs.Runs.{Cycle, Runs, shown_at, strobe_at}
use Rattle.statement.specs.Values.{known}
use Rattle.netlist.specs.Netlist.{IsAcyclic}
use Rattle.netlist.specs.Conditions.{IsClosed}
use Rattle.netlist.proofs.Lists.{contains_cases, contains_head, contains_nil, contains_tail}
use Rattle.tri.specs.Settled.{tri_table}
use Rattle.scan_insert.specs.Named.{HasTesterNames}
use Rattle.scan_insert.specs.Names.{pin_name_of}
use Rattle.scan_play.specs.Cycles.{IsCycleOf}
use Rattle.scan_play.specs.Passing.{IsWrong}
use Rattle.scan_play.proofs.BitLaws.{known_not_x}
use Rattle.scan_play.proofs.Instances.{decides_tri, same_tri}
use Rattle.scan_play.proofs.RunLaws.{runs_once}
use Rattle.diagnose.specs.Failures.{Failing}
use Rattle.diagnose.specs.Explaining.{Explains, IsFailingStrobe}
use Rattle.diagnose.specs.Ranking.{AreMany, Differs, MayFail}
use Rattle.diagnose.proofs.Differing.{strobed_within}
use Rattle.diagnose.proofs.Places.{one_pin_name, strobed_shown}

-- ---- what can be told apart

same_some : {A : Type 0} (x y : A) → Some x ≡ Some y → x ≡ y
same_some x y e = cc

no_other : (b : Bool) → b ≡ not b → ⊥
no_other true e = cc
no_other false e = cc

same_known : (b c : Bool) → known b ≡ known c → b ≡ c
same_known true true e = refl
same_known true false e = cc
same_known false true e = cc
same_known false false e = refl

-- a strobe is of a bit, or of none
strobe_is : (s : Tri) → ((b : Bool) × (s ≡ known b)) ⊎ (s ≡ X)
strobe_is X = inr refl
strobe_is Zero = inl (false, refl)
strobe_is One = inl (true, refl)

-- a value is unknown, or a bit or the other one
value_is : (b : Bool) (v : Tri) → (v ≡ X) ⊎ ((v ≡ known b) ⊎ (v ≡ known (not b)))
value_is true X = inl refl
value_is true Zero = inr (inr refl)
value_is true One = inr (inl refl)
value_is false X = inl refl
value_is false Zero = inr (inl refl)
value_is false One = inr (inr refl)

both_ways : (t : Bool) → t ≡ false → t ≡ true → ⊥
both_ways t f h = let e : false ≡ true = sym f ∙ h in cc

same_name : (a b : List ℕ) → (a ≡ b) ⊎ (a ≢ b)
same_name a b = elim (cases_Bool (bytes_eq a b)) [
  | inl same ↦ inl ((bytes_eq-Decides a b).0 same)
  | inr other ↦ inr (λ e. both_ways (bytes_eq a b) other ((bytes_eq-Decides a b).1 e))
]

abbrev made_failing : ℕ → List ℕ → Failing
made_failing c n = record { cycle = c; signal = n }

same_made : (c d : ℕ) (n m : List ℕ) → c ≡ d → n ≡ m → made_failing c n ≡ made_failing d m
same_made c d n m e e' = ap₂ made_failing e e'

same_failing : (f g : Failing) → (f ≡ g) ⊎ (f ≢ g)
same_failing f g = elim (cases_eq f.cycle g.cycle) [
  | inr ne ↦ inr (λ e. ne (ap (λ (x : Failing). x.cycle) e))
  | inl same ↦ elim (same_name f.signal g.signal) [
    | inr ne ↦ inr (λ e. ne (ap (λ (x : Failing). x.signal) e))
    | inl named ↦ inl (same_made f.cycle g.cycle f.signal g.signal same named)
  ]
]

in_log : (log : List Failing) (f : Failing) → Contains log f ⊎ (Contains log f → ⊥)
in_log [] f = inr (contains_nil f)
in_log (g ∷ log) f = elim (same_failing g f) [
  | inl same ↦ inl (subst (Contains (g ∷ log)) same (contains_head g log))
  | inr ne ↦ elim (in_log log f) [
    | inl there ↦ inl (contains_tail g f log there)
    | inr none ↦ inr (λ c. elim (contains_cases g f log c) [ inl same ↦ ne same | inr there ↦ none there ])
  ]
]

-- something is so below a bound, or nothing is
search_below : (P : ℕ → Type 0) → ((o : ℕ) → P o ⊎ (P o → ⊥)) → (m : ℕ) → ((o : ℕ) × P o) ⊎ ((o : ℕ) → o < m → P o → ⊥)
search_below P decide zero = inr (λ o l. absurd (omega (arith, l)))
search_below P decide (suc m) = elim (decide m) [
  | inl here ↦ inl (m, here)
  | inr not_here ↦ elim (search_below P decide m) [
    | inl w ↦ inl w
    | inr none ↦ inr (λ o l h. elim (cases_lt o m) [ inl less ↦ none o less h | inr high ↦ not_here (subst P (let e : o ≡ m = omega (arith, l, high) in e) h) ])
  ]
]

empty_list : (all : List Failing) → ((f : Failing) → Contains all f → ⊥) → length all ≡ 0
empty_list [] none = refl
empty_list (f ∷ fs) none = absurd (none f (contains_head f fs))

none_of : (kind : Failing → Type 0) (number : ℕ) → AreMany kind number → number ≡ 0 → (f : Failing) → kind f → ⊥
none_of kind number many e f h =
    let c = (many.exactly f).1 h in
    let l = c.1 in
    let size = many.number_is in
    omega (arith, l, size, e)

zero_of : (kind : Failing → Type 0) (number : ℕ) → AreMany kind number → ((f : Failing) → kind f → ⊥) → number ≡ 0
zero_of kind number many none = many.number_is ∙ empty_list many.all (λ f c. none f ((many.exactly f).0 c))

-- ---- one run

module _ (s : Netlist) (g : Option Fault) (cycles : List Cycle) (log : List Failing) (closed : IsClosed s) (acyclic : IsAcyclic s) (names : HasTesterNames s) (fits : All (IsCycleOf s) cycles) where
  module _ (shown : List (List Tri)) (run : Runs tri_table g s (replicate (length (cells s)) X) cycles shown) where
    wrong_within : (c o : ℕ) → IsWrong known cycles shown c o → o < length s.outputs
    wrong_within c o w = strobed_within s cycles fits c o w.0 w.1

    is_wrong : (c o : ℕ) → IsWrong known cycles shown c o ⊎ (IsWrong known cycles shown c o → ⊥)
    is_wrong c o = elim (strobe_is (strobe_at cycles c o)) [
      | inr none ↦ inr (λ w. known_not_x w.0 (sym none ∙ w.1))
      | inl b ↦
          let v = strobed_shown g s (replicate (length (cells s)) X) cycles shown run c o b.0 (strobed_within s cycles fits c o b.0 b.1) b.1 in
          elim (value_is b.0 v.0) [
            | inl x ↦ inr (λ w. known_not_x (not w.0) (same_some X (known (not w.0)) (ap Some (sym x) ∙ (sym v.1 ∙ w.2))))
            | inr told ↦ elim told [
              | inl good ↦ inr (λ w.
                  let same = same_known w.0 b.0 (sym w.1 ∙ b.1) in
                  no_other b.0 (same_known b.0 (not b.0) (same_some (known b.0) (known (not b.0)) (ap Some (sym good) ∙ (sym v.1 ∙ (w.2 ∙ ap (λ d. Some (known (not d))) same))))))
              | inr bad ↦ inl (b.0, b.1, v.1 ∙ ap Some bad)
            ]
          ]
    ]

    failing : (f : Failing) → IsFailingStrobe known s cycles shown f ⊎ (IsFailingStrobe known s cycles shown f → ⊥)
    failing f =
        let P : ℕ → Type 0 = λ o. IsWrong known cycles shown f.cycle o × (f.signal ≡ pin_name_of s o) in
        let decide : (o : ℕ) → P o ⊎ (P o → ⊥) = λ o. elim (is_wrong f.cycle o) [
          | inr right ↦ inr (λ p. right p.0)
          | inl wrong ↦ elim (same_name f.signal (pin_name_of s o)) [ inl named ↦ inl (wrong, named) | inr ne ↦ inr (λ p. ne p.1) ]
        ] in
        elim (search_below P decide (length s.outputs)) [
          | inl w ↦ inl (record { output = w.0; wrong = w.1.0; named = w.1.1 })
          | inr none ↦ inr (λ h. none h.output (wrong_within f.cycle h.output h.wrong) (h.wrong, h.named))
        ]

    -- what fails may fail
    fails_may : (f : Failing) → IsFailingStrobe known s cycles shown f → MayFail s cycles shown f
    fails_may f h = record {
      output = h.output;
      bit = h.wrong.0;
      strobed = h.wrong.1;
      unmet = λ e. no_other h.wrong.0 (same_known h.wrong.0 (not h.wrong.0) (same_some (known h.wrong.0) (known (not h.wrong.0)) (sym e ∙ h.wrong.2)));
      named = h.named;
    }

  module _ (missing extra : ℕ) (d : Differs s g cycles log missing extra) where
    pub zero_explains : missing + extra ≡ 0 → Explains s g cycles log
    zero_explains e =
        let no_missing = none_of (λ f. Contains log f × ¬ IsFailingStrobe known s cycles d.shown f) missing d.are_missing (omega (arith, e)) in
        let no_extra = none_of (λ f. MayFail s cycles d.shown f × ¬ Contains log f) extra d.are_extra (omega (arith, e)) in
        let fails : (f : Failing) → Contains log f → IsFailingStrobe known s cycles d.shown f =
        λ f c. elim (failing d.shown d.runs f) [ inl h ↦ h | inr none ↦ absurd (no_missing f (c, none)) ] in
        let logs : (f : Failing) → MayFail s cycles d.shown f → Contains log f =
        λ f h. elim (in_log log f) [ inl c ↦ c | inr none ↦ absurd (no_extra f (h, none)) ] in
        record {
          shown = d.shown;
          runs = d.runs;
          are_known = λ c o b strobe x.
              let f : Failing = record { cycle = c; signal = pin_name_of s o } in
              let may : MayFail s cycles d.shown f = record { output = o; bit = b; strobed = strobe; unmet = λ e. known_not_x b (same_some X (known b) (sym x ∙ e)); named = refl } in
              let h = fails f (logs f may) in
              let l = strobed_within s cycles fits c o b strobe in
              let same : o ≡ h.output = one_pin_name s names o h.output l (wrong_within d.shown d.runs c h.output h.wrong) h.named in
              known_not_x (not h.wrong.0) (same_some X (known (not h.wrong.0)) (sym x ∙ (ap (λ i. shown_at d.shown c i) same ∙ h.wrong.2)));
          logged = λ f. (fails f, λ h. logs f (fails_may d.shown d.runs f h));
        }

    pub explains_zero : Explains s g cycles log → missing + extra ≡ 0
    explains_zero h =
        let same : d.shown ≡ h.shown = runs_once same_tri decides_tri tri_table g s closed acyclic (replicate (length (cells s)) X) cycles d.shown h.shown d.runs h.runs in
        let a = zero_of (λ f. Contains log f × ¬ IsFailingStrobe known s cycles d.shown f) missing d.are_missing
        (λ f k. k.1 (subst (λ (r : List (List Tri)). IsFailingStrobe known s cycles r f) (sym same) ((h.logged f).0 k.0))) in
        let b = zero_of (λ f. MayFail s cycles d.shown f × ¬ Contains log f) extra d.are_extra (λ f k.
        let m = k.0 in
        let l = strobed_within s cycles fits f.cycle k.0.output k.0.bit k.0.strobed in
        let v = strobed_shown g s (replicate (length (cells s)) X) cycles d.shown d.runs f.cycle k.0.output k.0.bit l k.0.strobed in
        let there : shown_at h.shown f.cycle k.0.output ≡ Some v.0 = ap (λ (r : List (List Tri)). shown_at r f.cycle k.0.output) (sym same) ∙ v.1 in
        elim (value_is k.0.bit v.0) [
          | inl x ↦ h.are_known f.cycle k.0.output k.0.bit k.0.strobed (there ∙ ap Some x)
          | inr told ↦ elim told [
            | inl good ↦ k.0.unmet (v.1 ∙ ap Some good)
            | inr bad ↦ k.1 ((h.logged f).1 (record { output = k.0.output; wrong = (k.0.bit, k.0.strobed, there ∙ ap Some bad); named = k.0.named }))
          ]
        ]) in
        omega (arith, a, b)
