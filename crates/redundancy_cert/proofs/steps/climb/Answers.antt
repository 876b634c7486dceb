use Rattle.std.proofs.Common.{◌≡◌, ◌+◌, ◌-◌, ◌<◌, true, false, List, [], ◌∷◌, ◌++◌, None, Some, length, take, drop, set, refl, ap, sym, ◌∙◌, subst, inl, arith}
use Rattle.std.specs.List.{All}
use Rattle.std.proofs.lemmas.Grind.{take-set_at}
use Rattle.std.proofs.lemmas.List.{drop_more}
use Rattle.std.proofs.lemmas.List.Elements.{All-cons}
use Rattle.redundancy_cert.specs.declared.steps.Step.{Step}
use Rattle.redundancy_cert.specs.inner.Walk.{IsAt, waiting_of, StandsFor}
use Rattle.redundancy_cert.proofs.WalkLemmas.{turned, nothing_left}
use Rattle.redundancy_cert.proofs.StepLemmas.{at_last, taken_back, turned_at, same_run, same_then}
use Rattle.redundancy_cert.proofs.steps.climb.Goals as goal

pub loop-k-preserved : goal.loop-k-preserved
loop-k-preserved c =
    let items : List Step = c.loop-k.path.items in
    let k = c.loop-k.k - 1 in
    let s : Step = c.index-step.result.now in
    let l : k < length items = let a = c.loop-k-test.true in let b = c.loop-k.auto.k in omega arith in
    let one : c.loop-k.k ≡ k + 1 = (let a = c.loop-k-test.true in omega arith) in
    let at = at_last c.loop-k.pass items c.loop-k.k s (let a = c.loop-k-test.true in omega arith) (let b = c.loop-k.auto.k in omega arith) c.index-step.ensures c.loop-k.invariant.at in
    let ahead : drop k items ≡ s ∷ drop (k + 1) items = drop_more items k s l ∙ ap (λ (r : Step). r ∷ drop (k + 1) items) (sym c.index-step.ensures) in
    record {
      items = c.loop-k.invariant.items;
      same = same_then c.args.pass.now c.loop-k.pass c.decide-in-loop-k.new.self c.loop-k.invariant.same
          (same_run c.loop-k.pass c.decide-in-loop-k.new.self (set c.loop-k.pass.decided s.signal None) c.decide-in-loop-k.new.self.values c.decide-in-loop-k.ensures);
      at = taken_back c.loop-k.pass c.decide-in-loop-k.new.self (take k items) s None c.standing.ensures at c.decide-in-loop-k.ensures refl;
      none = subst (All (λ (r : Step). r.waiting ≡ false)) (sym ahead)
          (All-cons (λ (r : Step). r.waiting ≡ false) s (drop (k + 1) items) c.if-step.false
          (subst (λ j. All (λ (r : Step). r.waiting ≡ false) (drop j items)) one c.loop-k.invariant.none));
    }

pub returns-then-step-clause-at : goal.returns-then-step-clause-at
returns-then-step-clause-at c =
    let items : List Step = c.loop-k.path.items in
    let k = c.loop-k.k - 1 in
    let s : Step = c.index-step.result.now in
    let l : k < length items = let a = c.loop-k-test.true in let b = c.loop-k.auto.k in omega arith in
    let at = at_last c.loop-k.pass items c.loop-k.k s (let a = c.loop-k-test.true in omega arith) (let b = c.loop-k.auto.k in omega arith) c.index-step.ensures c.loop-k.invariant.at in
    let t : Step = record { signal = s.signal; bit = true; waiting = false } in
    let path : c.truncate.new.self.items ≡ take k items ++ t ∷ [] = c.truncate.ensures.items ∙ take-set_at items k (k + 1) t refl l in
    subst (IsAt c.decide.new.self) (sym path) (turned_at c.loop-k.pass c.decide.new.self (take k items) s (Some true) c.standing.ensures at c.decide.ensures t refl refl)

pub returns-then-step-clause-stands : goal.returns-then-step-clause-stands
returns-then-step-clause-stands c =
    let items : List Step = c.loop-k.path.items in
    let k = c.loop-k.k - 1 in
    let s : Step = c.index-step.result.now in
    let l : k < length items = let a = c.loop-k-test.true in let b = c.loop-k.auto.k in omega arith in
    let rest : All (λ (t : Step). t.waiting ≡ false) (drop (k + 1) items) =
    subst (λ j. All (λ (t : Step). t.waiting ≡ false) (drop j items)) (let a = c.loop-k-test.true in omega arith) c.loop-k.invariant.none in
    subst (λ (old : List Step). StandsFor c.truncate.new.self.items (waiting_of old)) c.loop-k.invariant.items
    (turned items c.truncate.new.self.items k s l (sym c.index-step.ensures) c.if-step.true rest c.truncate.ensures.items)

pub returns-clause-stands : goal.returns-clause-stands
returns-clause-stands c =
    let none = nothing_left c.loop-k.path.items
    (let zero : c.loop-k.k ≡ 0 = (let a = c.loop-k-test.false in omega arith) in subst (λ j. All (λ (t : Step). t.waiting ≡ false) (drop j c.loop-k.path.items)) zero c.loop-k.invariant.none) in
    inl (ap waiting_of (sym c.loop-k.invariant.items) ∙ none)
