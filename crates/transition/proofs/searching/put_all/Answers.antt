use Rattle.std.proofs.Common.{◌<◌, ◌+◌, ◌∷◌, ◌∙◌, ℕ, List, Option, length, drop, ap, sym, subst, arith}
use Rattle.std.specs.List.{AllZip}
use Rattle.evidence.specs.declared.engine.Found.{Found}
use Rattle.transition.specs.inner.Slots.{with_answers}
use Rattle.transition.proofs.BatchLemmas.{all_put, next_slot}
use Rattle.transition.proofs.searching.put_all.Goals as goal

pub bounds-places-j : goal.bounds-places-j
bounds-places-j c =
    let count = length c.args.slots.now in
    let next = next_slot count c.loop-answer.j c.args.places.now c.in-Some.answer c.next.new.self.rest.items
    (subst (AllZip (λ k (x : Found). k < count) (drop c.loop-answer.j c.args.places.now)) c.in-Some.ensures.steps.0 c.loop-answer.invariant.within) in
    next.0

pub put-requires : goal.put-requires
put-requires c =
    let count = length c.args.slots.now in
    let next = next_slot count c.loop-answer.j c.args.places.now c.in-Some.answer c.next.new.self.rest.items
    (subst (AllZip (λ k (x : Found). k < count) (drop c.loop-answer.j c.args.places.now)) c.in-Some.ensures.steps.0 c.loop-answer.invariant.within) in
    let size = c.loop-answer.invariant.count in
    let low = next.1 in
    omega arith

pub loop-answer-preserved : goal.loop-answer-preserved
loop-answer-preserved c =
    let i = c.loop-answer.invariant in
    let count = length c.args.slots.now in
    let slots = c.loop-answer.slots in
    let places = c.args.places.now in
    let j = c.loop-answer.j in
    let x = c.in-Some.answer in
    let rest = c.next.new.self.rest.items in
    let here = subst (AllZip (λ k (y : Found). k < count) (drop j places)) c.in-Some.ensures.steps.0 i.within in
    let next = next_slot count j places x rest here in
    let both = subst (λ (ks : List ℕ). AllZip (λ k (y : Found). k < count) ks (x ∷ rest)) next.2 here in
    record {
      count = c.put.auto.slots ∙ i.count;
      within = both.1;
      rest = ap (λ (s : List (Option (Option Found))). with_answers s (drop (j + 1) places) rest) c.put.ensures
          ∙ (ap (λ (ks : List ℕ). with_answers slots ks (x ∷ rest)) (sym next.2)
          ∙ (ap (λ (xs : List Found). with_answers slots (drop j places) xs) (sym c.in-Some.ensures.steps.0) ∙ i.rest));
    }

pub returns : goal.returns
returns c =
    let none = c.in-None.ensures.steps.0 in
    let size = c.loop-answer.answer-iterator.rest.ok.0 in
    sym (all_put c.loop-answer.slots (drop c.loop-answer.j c.args.places.now) c.loop-answer.answer-iterator.rest.items (omega arith)) ∙ c.loop-answer.invariant.rest
