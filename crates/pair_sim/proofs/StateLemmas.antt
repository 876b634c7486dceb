-- Where a path stands, and what its trail names.
use Rattle.std.proofs.Common.{◌≡◌, ◌<◌, ℕ, Bool, false, cond, List, [], ◌∷◌, map, length, reverse, Option, Some, refl, sym, ◌∙◌, ap, subst, inl, inr, eqb, arith}
use Rattle.std.specs.Bool.{MatchBool}
use Rattle.std.specs.List.{All, Contains, count_by}
use Rattle.std.proofs.lemmas.Bool.{cases_Bool, cases_lt, both_ways}
use Rattle.std.proofs.lemmas.List.{length-map, get_or-map}
use Rattle.std.proofs.lemmas.List.Sums.{sum_by-cons}
use Rattle.std.proofs.lemmas.List.Elements.{All-contains}
use Rattle.statement.specs.declared.lines.Fault.{Fault}
use Rattle.statement.specs.Patterns.{Holds}
use Rattle.statement.specs.Netlists.{Netlist, signals}
use Rattle.netlist.specs.Conditions.{IsSound}
use Rattle.netlist.specs.Settled.{at}
use Rattle.statement.specs.Values.{outs, next}
use Rattle.netlist.proofs.Lists.{contains_map, All-from_contains}
use Rattle.netlist.proofs.Placed.{signal_from}
use Rattle.tri.specs.declared.labels.Label.{Label}
use Rattle.tri.specs.Labels.{labels, IsContradicted}
use Rattle.tri.specs.Labelling.{AreLabelled}
use Rattle.tri.specs.Paths.{decisions}
use Rattle.events.specs.declared.trails.Change.{Change}
use Rattle.pair_sim.specs.declared.levels.Level.{Level}
use Rattle.pair_sim.specs.declared.states.State.{State}
use Rattle.pair_sim.specs.declared.states.State.TheVariants.{Test, Blocked, Going}
use Rattle.pair_sim.specs.Sims.{sim, IsState, HasContradiction, AreChangedSignals}
use Rattle.pair_sim.specs.inner.Levels.{blank, path_of, rank, times, is_contradicted, IsNoted, GoBack, IsKept}
use Rattle.observed_points.specs.Points.{ArePoints}
use Rattle.pair_sim.specs.inner.Points.{IsStateOf, MayNot, SomeMay}
use Rattle.pair_sim.specs.inner.Reach.{AreReached, IsStateInView}
use Rattle.pair_sim.proofs.Assigning.{last_flag, flag_true, flag_false}
use Rattle.pair_sim.proofs.Counts.{stands, stands_not}
use Rattle.pair_sim.proofs.Noting.{noted_first}
use Rattle.pair_sim.proofs.Ranks.{rank_few}
use Rattle.pair_sim.proofs.Reaching.{state_seen}

mapped : {A B : Type 0} (g : A → B) (xs : List A) (x : A) → Contains xs x → Contains (map g xs) (g x)
mapped g xs x c = (c.0, omega (arith, c.1, length-map xs g), get_or-map g xs c.0 x (g x) c.1 ∙ ap g c.2)

abbrev one_at : ℕ → ℕ → ℕ
one_at x y = cond (eqb y x) 1 0

named_times : (x : ℕ) (cs : List (Change Label)) → count_by (λ y. eqb y x) (map (λ (c : Change Label). c.signal) cs) ≡ times x cs
named_times x [] = refl
named_times x (c ∷ cs) =
    let a = sum_by-cons (one_at x) c.signal (map (λ (b : Change Label). b.signal) cs) in
    let b = sum_by-cons (λ (d : Change Label). one_at x d.signal) c cs in
    let h = named_times x cs in
    omega arith

there : (x : ℕ) (cs : List (Change Label)) (c : Change Label) → Contains cs c → c.signal ≡ x → 0 < times x cs
there x cs c m e = elim (cases_lt 0 (times x cs)) [
  | inl some ↦ some
  | inr none ↦ absurd (stands_not x cs (omega arith) c m e)
]

some_not : (ls : List Label) → SomeMay ls → MayNot ls → ⊥
some_not ls some none = both_ways some.0.may_differ (All-contains (λ (l : Label). l.may_differ ≡ false) ls some.0 none some.1) some.2

module _ (f : Fault) (n : Netlist) (holds : Holds) (row : List (Option Bool)) (levels : List Level) (names : List ℕ) (values : List Label) (trail : List (Change Label))
    (kept : IsKept f n holds row levels names values trail) where
  flag : MatchBool (is_contradicted (reverse levels)) (IsContradicted (decisions (path_of (reverse levels))) n (at values blank)) (IsContradicted (decisions (path_of (reverse levels))) n (at values blank) → ⊥)
  flag = last_flag f n holds (reverse levels) trail values kept.back

  pub state_is : (c : Bool) (state : State) → c ≡ is_contradicted (reverse levels)
      → IsStateOf c (outs (labels (Some f) (decisions (path_of (reverse levels)))) n (at values blank)) (next (labels (Some f) (decisions (path_of (reverse levels)))) n (at values blank)) state
      → IsState (sim n f holds (path_of (reverse levels))) state
  state_is c (Test point) e h = record {
    label = at values blank;
    are = kept.labelled.labels blank;
    possible = flag_false (is_contradicted (reverse levels)) _ _ flag (sym e ∙ h.0);
    first = h.1;
  }
  state_is c Blocked e h = record {
    label = at values blank;
    are = kept.labelled.labels blank;
    closed = elim h [
      | inl contradicted ↦ inl (flag_true (is_contradicted (reverse levels)) _ _ flag (sym e ∙ contradicted))
      | inr unobserved ↦ inr (record { outputs = unobserved.0; cells = unobserved.1 })
    ];
  }
  state_is c Going e h = record {
    label = at values blank;
    are = kept.labelled.labels blank;
    left_open = λ closed. elim closed [
      | inl contradicted ↦ flag_false (is_contradicted (reverse levels)) _ _ flag (sym e ∙ h.0) contradicted
      | inr unobserved ↦ elim h.3 [ inl out ↦ some_not _ out unobserved.outputs | inr pin ↦ some_not _ pin unobserved.cells ]
    ];
    outputs = h.1;
    cells = h.2;
  }

  noted_now : IsSound n → is_contradicted (reverse levels) ≡ false → IsNoted f n holds trail values
  noted_now sound e = at_levels (reverse levels) kept.labelled kept.back e
    where
      at_levels : (vs : List Level) → AreLabelled (Some f) (decisions (path_of vs)) n holds values → GoBack f n holds vs trail values → is_contradicted vs ≡ false → IsNoted f n holds trail values
      at_levels [] are back q = subst (λ (t : List (Change Label)). IsNoted f n holds t values) (sym back) (noted_first f n holds sound values are)
      at_levels (v ∷ vs) are back q = back.noted q

  named : (x : ℕ) (cs : List (Change Label)) → 0 < times x cs → Contains (map (λ (c : Change Label). c.signal) cs) x
  named x cs l = let w = stands x cs l in subst (Contains (map (λ (c : Change Label). c.signal) cs)) w.2 (mapped (λ (c : Change Label). c.signal) cs w.0 w.1)

  -- what the trail names
  pub names_changed : IsSound n → (HasContradiction (sim n f holds (path_of (reverse levels))) → ⊥) → AreChangedSignals (sim n f holds (path_of (reverse levels))) names
  names_changed sound possible =
      let off : is_contradicted (reverse levels) ≡ false = elim (cases_Bool (is_contradicted (reverse levels))) [
        | inl on ↦ absurd (possible (record { label = at values blank; are = kept.labelled.labels blank; contradicted = flag_true (is_contradicted (reverse levels)) _ _ flag on }))
        | inr e ↦ e
      ] in
      let noted = noted_now sound off in
      record {
        start = at noted.start blank;
        start_are = noted.are.labels blank;
        label = at values blank;
        are = kept.labelled.labels blank;
        signals_are = subst (All (Contains (signals n))) (sym kept.names_are)
            (All-from_contains (Contains (signals n)) (map (λ (c : Change Label). c.signal) trail) (λ x m.
            let w = contains_map (λ (c : Change Label). c.signal) trail x m in
            signal_from n sound.formed.numbered x (subst (λ y. y < length (signals n)) w.2 (noted.within w.0 w.1))));
        exact = λ x signal. (
          λ m same.
              let w = contains_map (λ (c : Change Label). c.signal) trail x (subst (λ (ns : List ℕ). Contains ns x) kept.names_are m) in
              let more = noted.counted x in
              let some = there x trail w.0 w.1 w.2 in
              let e = ap rank same in
              omega arith,
          λ other. elim (cases_lt 0 (times x trail)) [
            | inl some ↦ subst (λ (ns : List ℕ). Contains ns x) (sym kept.names_are) (named x trail some)
            | inr none ↦ absurd (other (sym (noted.others x (omega arith))))
          ],
        );
        few = λ x.
            let e = ap (count_by (λ y. eqb y x)) kept.names_are in
            let t = named_times x trail in
            let more = noted.counted x in
            let few = rank_few (at values blank x) in
            omega arith;
      }

  -- where the path stands by the signals that the fault may reach
  pub state_in_view_is : IsSound n → (seen first numbers : List ℕ) → ArePoints n seen first numbers → (ids : List ℕ) → AreReached f n holds ids → is_contradicted (reverse levels) ≡ false
      → (state : State) → IsStateInView n first (length seen) values ids state → IsState (sim n f holds (path_of (reverse levels))) state
  state_in_view_is sound seen first numbers points ids reached e state h =
      let noted = noted_now sound e in
      state_is false state (sym e)
      (state_seen n sound seen first numbers points f holds (decisions (path_of (reverse levels))) values noted.start kept.labelled noted.are
      (flag_false (is_contradicted (reverse levels)) _ _ flag e) ids reached state h)
