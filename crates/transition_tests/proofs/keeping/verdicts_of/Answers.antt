use Rattle.std.proofs.Common.{◌≡◌, ◌++◌, ◌∷◌, [], ℕ, List, get_or, Option, None, sym, ◌∙◌, ap, arith, append_assoc, length-append}
use Rattle.std.proofs.lemmas.List.{get_or_default}
use Rattle.evidence.specs.declared.engine.Found.{Found}
use Rattle.transition_tests.proofs.EndLemmas.{ends_all, ends_more, told_at}
use Rattle.transition_tests.proofs.keeping.verdicts_of.Goals as goal

pub bounds-last-fault : goal.bounds-last-fault
bounds-last-fault c =
    let i = c.loop-answer.invariant in
    let t = told_at c.args.found.items c.loop-answer.yielded c.next.new.self.rest.items c.in-Some.answer c.args.last.now c.loop-answer.fault c.requires.told
    (sym (ap (λ (xs : List (Option Found)). c.loop-answer.yielded ++ xs) c.in-Some.ensures.steps.0) ∙ i.left) i.count in
    t.0

pub verdict_of-requires-clause-told : goal.verdict_of-requires-clause-told
verdict_of-requires-clause-told c =
    let i = c.loop-answer.invariant in
    let t = told_at c.args.found.items c.loop-answer.yielded c.next.new.self.rest.items c.in-Some.answer c.args.last.now c.loop-answer.fault c.requires.told
    (sym (ap (λ (xs : List (Option Found)). c.loop-answer.yielded ++ xs) c.in-Some.ensures.steps.0) ∙ i.left) i.count in
    t.1

pub loop-answer-preserved : goal.loop-answer-preserved
loop-answer-preserved c =
    let i = c.loop-answer.invariant in
    let k = c.loop-answer.fault in
    let last = c.args.last.now in
    let done = c.loop-answer.yielded in
    let next : c.loop-answer.yielded ++ c.in-Some.answer ∷ c.next.new.self.rest.items ≡ c.args.found.items =
    sym (ap (λ (xs : List (Option Found)). c.loop-answer.yielded ++ xs) c.in-Some.ensures.steps.0) ∙ i.left in
    let t = told_at c.args.found.items done c.next.new.self.rest.items c.in-Some.answer last k c.requires.told next i.count in
    record {
      count = simp length-append (omega (arith, i.count));
      left = append_assoc done (c.in-Some.answer ∷ []) c.next.new.self.rest.items ∙ next;
      ends = ends_more (λ (j : ℕ). get_or c.args.places.now j 0) done last c.loop-answer.verdicts.items c.push.new.self.items k c.in-Some.answer (get_or last k None) c.verdict_of.result
          t.0 (get_or_default last k None (get_or last k None) t.0) i.ends c.verdict_of.ensures c.in_ok-push.ensures.items;
    }

pub returns : goal.returns
returns c =
    let i = c.loop-answer.invariant in
    let none = c.in-None.ensures.steps.0 in
    let size = c.loop-answer.answer-iterator.rest.ok.0 in
    ends_all (λ (j : ℕ). get_or c.args.places.now j 0) c.args.found.items c.loop-answer.yielded c.loop-answer.answer-iterator.rest.items c.args.last.now c.loop-answer.verdicts.items
    c.loop-answer.fault c.requires.told i.left (omega arith) i.count i.ends
