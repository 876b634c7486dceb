-- Steps one after the other, as their check goes over them.
use Rattle.std.proofs.Common.{◌≡◌, ◌↔◌, ℕ, ◌+◌, ◌<◌, ◌≤◌, Bool, true, false, not, List, [], ◌∷◌, ◌++◌, length, get_or, take, drop, Result, Some, refl, sym, ◌∙◌, ap, subst, inl, inr, arith}
use Rattle.std.specs.Bool.{MatchBool}
use Rattle.std.specs.Result.{IfOk}
use Rattle.std.specs.List.{All, Contains, slice_get}
use Rattle.std.proofs.lemmas.Bool.{both_ways, cases_lt}
use Rattle.std.proofs.lemmas.Grind.{take_at_read}
use Rattle.std.proofs.lemmas.List.{drop_all, drop_more, length-append}
use Rattle.std.proofs.lemmas.List.Elements.{All-more, All-push, All-weaker}
use Rattle.std.proofs.lemmas.Option.{slice_get-get_or}
use Rattle.std.proofs.lemmas.Result.{IfOk-weaker}
use Rattle.statement.specs.declared.lines.Fault.{Fault}
use Rattle.statement.specs.Netlists.{Netlist, signals}
use Rattle.netlist.specs.Conditions.{IsSound}
use Rattle.netlist.proofs.Placed.{signal_below, signal_from}
use Rattle.refutation.specs.declared.steps.Literal.{Literal}
use Rattle.refutation.specs.declared.steps.Implied.{Implied}
use Rattle.refutation.specs.declared.steps.Move.{Move}
use Rattle.refutation.specs.declared.steps.Move.TheVariants.{Imply, Sweep}
use Rattle.refutation.specs.declared.steps.Reason.{Reason}
use Rattle.refutation.specs.Steps.{Step}
use Rattle.refutation.specs.Refutations.{Told, narrowed, denied, denying, learned, knowing, IsImplied, IsSwept, LeavesNothing, Leads, StepHolds, HoldsAt, clauses}
use Rattle.refutation.proofs.Sweeping.{something_left, swept_once}
use Rattle.refutation_check.specs.declared.checks.Played.TheVariants.{On, Ends, Fails}
use Rattle.refutation_check.specs.inner.Checks.{IsTaken, IsPlayed}
use Rattle.refutation_check.specs.inner.Reasons.{AreWithin}
use Rattle.refutation_check.specs.inner.Trails.{Trailed, Grows}
use Rattle.refutation_check.proofs.TrailLemmas.{grows_none}

pub at_true : (b : Bool) (P Q : Type 0) → MatchBool b P Q → b ≡ true → P
at_true true P Q h e = h
at_true false P Q h e = absurd (both_ways false refl e)

pub at_false : (b : Bool) (P Q : Type 0) → MatchBool b P Q → b ≡ false → Q
at_false true P Q h e = absurd (both_ways true e refl)
at_false false P Q h e = h

pub grows_to : (was t now : Trailed) → t ≡ was → now ≡ t → Grows was now
grows_to was t now e h = subst (Grows was) (sym (h ∙ e)) (grows_none was)

-- ---- literals denied

pub denied_more : (told0 told new : Told) (clause : List Literal) (k : ℕ) (l : Literal) → k < length clause → l ≡ get_or clause k l
    → denying told (drop k clause) ≡ denying told0 clause → new ≡ narrowed told (denied l) → denying new (drop (k + 1) clause) ≡ denying told0 clause
denied_more told0 told new clause k l below is h made =
    let here : drop k clause ≡ l ∷ drop (k + 1) clause = drop_more clause k l below ∙ ap (λ (m : Literal). m ∷ drop (k + 1) clause) (sym is) in
    ap (λ (t : Told). denying t (drop (k + 1) clause)) made ∙ (sym (ap (denying told) here) ∙ h)

pub denied_all : (told0 told : Told) (clause : List Literal) (k : ℕ) → length clause ≤ k → denying told (drop k clause) ≡ denying told0 clause → told ≡ denying told0 clause
denied_all told0 told clause k l h = sym (ap (denying told) (drop_all k clause l)) ∙ h

pub within_more : (count : ℕ) (clause : List Literal) (k : ℕ) (l : Literal) → k < length clause → l ≡ get_or clause k l → l.signal < count → AreWithin count (take k clause)
    → AreWithin count (take (k + 1) clause)
within_more count clause k l below is low h = All-more (λ (m : Literal). m.signal < count) clause k l below h (subst (λ (m : Literal). m.signal < count) is low)

-- ---- moves

module _ (n : Netlist) (f : Fault) (lemmas : List (List Literal)) where
  pub played_imply : (told new : Told) (i : Implied) → IsImplied n f lemmas told i × (new ≡ narrowed told i.literal) → IsPlayed n f lemmas told (Imply i) new On
  played_imply told new i h rest last = (
    (λ w. (h.0, subst (λ (t : Told). Leads n f lemmas t rest last) h.1 w)),
    (λ w. subst (λ (t : Told). Leads n f lemmas t rest last) (sym h.1) w.1),
  )

  pub failed_imply : (told new : Told) (i : Implied) → (IsImplied n f lemmas told i → ⊥) → IsPlayed n f lemmas told (Imply i) new Fails
  failed_imply told new i h rest last w = h w.0

  pub played_sweep : (told new : Told) → IsSwept n f told new → IsPlayed n f lemmas told Sweep new On
  played_sweep told new h rest last = (
    (λ w. inr (new, h, w)),
    (λ w. elim w [
      | inl none ↦ absurd (something_left n f told new h none)
      | inr some ↦ subst (λ (t : Told). Leads n f lemmas t rest last) (swept_once n f told some.0 new some.1 h) some.2
    ]),
  )

  pub ended_sweep : (told new : Told) → LeavesNothing n f told → IsPlayed n f lemmas told Sweep new Ends
  ended_sweep told new h rest last = inl h

  module _ (told0 told : Told) (moves : List Move) (k : ℕ) (m : Move) (all : List Move) (last : Reason) (l : k < length moves) (is : m ≡ get_or moves k m)
      (h : Leads n f lemmas told (drop k moves) last ↔ Leads n f lemmas told0 all last) where
    here : drop k moves ≡ m ∷ drop (k + 1) moves
    here = drop_more moves k m l ∙ ap (λ (j : Move). j ∷ drop (k + 1) moves) (sym is)

    pub leads_on : (new : Told) → IsPlayed n f lemmas told m new On → Leads n f lemmas new (drop (k + 1) moves) last ↔ Leads n f lemmas told0 all last
    leads_on new p =
        let one = p (drop (k + 1) moves) last in (
          (λ w. h.0 (subst (λ ms. Leads n f lemmas told ms last) (sym here) (one.0 w))),
          (λ w. one.1 (subst (λ ms. Leads n f lemmas told ms last) here (h.1 w))),
        )

    pub leads_ends : (new : Told) → IsPlayed n f lemmas told m new Ends → (true ≡ true) ↔ Leads n f lemmas told0 all last
    leads_ends new p = ((λ e. h.0 (subst (λ ms. Leads n f lemmas told ms last) (sym here) (p (drop (k + 1) moves) last))), (λ w. refl))

    pub leads_fails : (new : Told) → IsPlayed n f lemmas told m new Fails → (false ≡ true) ↔ Leads n f lemmas told0 all last
    leads_fails new p = (
      (λ e. absurd (both_ways false refl e)),
      (λ w. absurd (p (drop (k + 1) moves) last (subst (λ ms. Leads n f lemmas told ms last) here (h.1 w)))),
    )

-- whether gates leave nothing, from a sweep
pub nothing_left : (n : Netlist) (f : Fault) (told new : Told) (some : Bool) → MatchBool some (IsSwept n f told new) (LeavesNothing n f told) → (not some ≡ true) ↔ LeavesNothing n f told
nothing_left n f told new true h = ((λ e. absurd (both_ways false refl e)), (λ w. absurd (something_left n f told new h w)))
nothing_left n f told new false h = ((λ e. h), (λ w. refl))

pub grows_longer : (a b : Trailed) (from : ℕ) → Grows a b → from ≤ length a.trail → from ≤ length b.trail
grows_longer a b from g l =
    let size : length b.trail ≡ length a.trail + length g.changes = ap length g.trail ∙ length-append a.trail g.changes in omega arith

-- ---- a step

pub within_signals : (n : Netlist) → IsSound n → (count : ℕ) (clause : List Literal) → count ≡ length (signals n) → AreWithin count clause → All (λ (l : Literal). Contains (signals n) l.signal) clause
within_signals n sound count clause size h =
    All-weaker (λ (l : Literal). l.signal < count) (λ (l : Literal). Contains (signals n) l.signal) (λ l low. signal_from n sound.formed.numbered l.signal (omega arith)) clause h

pub signals_within : (n : Netlist) → IsSound n → (count : ℕ) (clause : List Literal) → count ≡ length (signals n) → All (λ (l : Literal). Contains (signals n) l.signal) clause → AreWithin count clause
signals_within n sound count clause size h =
    All-weaker (λ (l : Literal). Contains (signals n) l.signal) (λ (l : Literal). l.signal < count)
    (λ l c. let low = signal_below n sound.formed.numbered l.signal c in omega arith) clause h

pub not_within : (n : Netlist) → IsSound n → (f : Fault) (lemmas : List (List Literal)) (told : Told) (step : Step) (clause : List Literal) → length told ≡ length (signals n) → clause ≡ step.clause
    → (AreWithin (length told) clause → ⊥) → (false ≡ true) ↔ StepHolds n f lemmas told step
not_within n sound f lemmas told step clause size c h = (
  (λ e. absurd (both_ways false refl e)),
  (λ w. absurd (h (subst (AreWithin (length told)) (sym c) (signals_within n sound (length told) step.clause size w.within)))),
)

pub step_follows : {E : Type 0} (n : Netlist) → IsSound n → (f : Fault) (lemmas : List (List Literal)) (told denied : Told) (step : Step) (clause : List Literal) (r : Result Bool E)
    → length told ≡ length (signals n) → clause ≡ step.clause → AreWithin (length told) clause × (denied ≡ denying told clause)
    → IfOk r (λ b. (b ≡ true) ↔ Leads n f lemmas denied step.moves step.last) → IfOk r (λ b. (b ≡ true) ↔ StepHolds n f lemmas told step)
step_follows n sound f lemmas told denied step clause r size c h leads =
    let is : denied ≡ denying told step.clause = h.1 ∙ ap (denying told) c in
    IfOk-weaker r (λ b. (b ≡ true) ↔ Leads n f lemmas denied step.moves step.last) (λ b. (b ≡ true) ↔ StepHolds n f lemmas told step)
    (λ b g. (
      (λ on. record {
        within = within_signals n sound (length told) step.clause size (subst (AreWithin (length told)) c h.0);
        leads = subst (λ (t : Told). Leads n f lemmas t step.moves step.last) is (g.0 on);
      }),
      (λ w. g.1 (subst (λ (t : Told). Leads n f lemmas t step.moves step.last) (sym is) w.leads)),
    )) leads

-- ---- all steps

clauses_more : (steps : List Step) (k : ℕ) (step : Step) → k < length steps → step ≡ get_or steps k step → clauses (take (k + 1) steps) ≡ clauses (take k steps) ++ step.clause ∷ []
clauses_more steps k step l is = ap clauses ((take_at_read steps k step l).1 ∙ ap (λ (s : Step). take k steps ++ s ∷ []) (sym is)) ∙ clauses_push (take k steps) step where
  clauses_push : (ss : List Step) (s : Step) → clauses (ss ++ s ∷ []) ≡ clauses ss ++ s.clause ∷ []
  clauses_push [] s = refl
  clauses_push (t ∷ ss) s = ap (λ cs. t.clause ∷ cs) (clauses_push ss s)

knowing_push : (told : Told) (cs : List (List Literal)) (c : List Literal) → knowing told (cs ++ c ∷ []) ≡ learned (knowing told cs) c
knowing_push told [] c = refl
knowing_push told (d ∷ cs) c = knowing_push (learned told d) cs c

some_same : {x y : Step} → Some x ≡ Some y → x ≡ y
some_same e = cc

pub there_same : (steps : List Step) (k : ℕ) (x step : Step) → k < length steps → x ≡ get_or steps k x → slice_get steps k ≡ Some step → step ≡ x
there_same steps k x step l is there = some_same (sym there ∙ (slice_get-get_or steps k x l ∙ ap (λ (s : Step). Some s) (sym is)))

pub is_there : (steps : List Step) (k : ℕ) (x : Step) → k < length steps → x ≡ get_or steps k x → slice_get steps k ≡ Some x
is_there steps k x l is = slice_get-get_or steps k x l ∙ ap (λ (s : Step). Some s) (sym is)

module _ (n : Netlist) (f : Fault) (steps : List Step) (k : ℕ) (step : Step) (l : k < length steps) (is : step ≡ get_or steps k step) (told0 old new : Told) where
  pub known_more : IsTaken n f (clauses (take k steps)) step old new → old ≡ knowing told0 (clauses (take k steps)) → new ≡ knowing told0 (clauses (take (k + 1) steps))
  known_more w known =
      w.now ∙ (ap (λ (t : Told). learned t step.clause) known ∙ (sym (knowing_push told0 (clauses (take k steps)) step.clause) ∙ ap (knowing told0) (sym (clauses_more steps k step l is))))

  pub within_all_more : IsSound n → IsTaken n f (clauses (take k steps)) step old new → All (AreWithin (length (signals n))) (clauses (take k steps))
      → All (AreWithin (length (signals n))) (clauses (take (k + 1) steps))
  within_all_more sound w h =
      subst (All (AreWithin (length (signals n)))) (sym (clauses_more steps k step l is))
      (All-push (AreWithin (length (signals n))) (clauses (take k steps)) step.clause h (signals_within n sound (length (signals n)) step.clause refl w.holds.within))

  pub holds_at : IsTaken n f (clauses (take k steps)) step old new → old ≡ knowing told0 (clauses (take k steps)) → HoldsAt n f told0 steps k
  holds_at w known = (step, is_there steps k step l is, subst (λ (t : Told). StepHolds n f (clauses (take k steps)) t step) known w.holds)

  pub not_at : (StepHolds n f (clauses (take k steps)) old step → ⊥) → old ≡ knowing told0 (clauses (take k steps)) → HoldsAt n f told0 steps k → ⊥
  not_at bad known w =
      bad (subst (λ (s : Step). StepHolds n f (clauses (take k steps)) old s) (there_same steps k step w.0 l is w.1)
      (subst (λ (t : Told). StepHolds n f (clauses (take k steps)) t w.0) (sym known) w.2))

pub each_more : (P : ℕ → Type 0) (k : ℕ) → ((j : ℕ) → j < k → P j) → P k → (j : ℕ) → j < k + 1 → P j
each_more P k before here j l = elim (cases_lt j k) [ inl low ↦ before j low | inr high ↦ subst P (let e : k ≡ j = omega arith in e) here ]
