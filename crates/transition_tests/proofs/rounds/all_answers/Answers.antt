use Rattle.std.proofs.Common.{◌≡◌, ◌++◌, ◌∷◌, [], Bool, true, false, None, List, length, get_or, set, Option, sym, ◌∙◌, ap, arith, append_assoc, length-append}
use Rattle.std.proofs.lemmas.List.{get_or_default, length-set}
use Rattle.evidence.specs.declared.engine.Found.{Found}
use Rattle.transition_tests.specs.Rounds.{joined}
use Rattle.transition_tests.proofs.RoundLemmas.{joined_all, joined_more, later_stay, yielded_within}
use Rattle.transition_tests.proofs.rounds.all_answers.Goals as goal

pub bounds-left-k : goal.bounds-left-k
bounds-left-k c =
    let i = c.loop-answer.invariant in
    let done = c.loop-answer.yielded in
    let next : done ++ c.in-Some.answer ∷ c.next.new.self.rest.items ≡ c.args.found.items =
    sym (ap (λ (xs : List (Option Found)). done ++ xs) c.in-Some.ensures.steps.0) ∙ i.left in
    let lt = yielded_within c.args.found.items done c.next.new.self.rest.items c.in-Some.answer c.loop-answer.k next i.count in
    omega (arith, lt, c.requires.found)

pub put-requires : goal.put-requires
put-requires c =
    let i = c.loop-answer.invariant in
    let done = c.loop-answer.yielded in
    let next : done ++ c.in-Some.answer ∷ c.next.new.self.rest.items ≡ c.args.found.items =
    sym (ap (λ (xs : List (Option Found)). done ++ xs) c.in-Some.ensures.steps.0) ∙ i.left in
    let lt = yielded_within c.args.found.items done c.next.new.self.rest.items c.in-Some.answer c.loop-answer.k next i.count in
    omega (arith, lt, i.size, c.requires.found)

pub loop-answer-preserved : goal.loop-answer-preserved
loop-answer-preserved c =
    let i = c.loop-answer.invariant in
    let k = c.loop-answer.k in
    let done = c.loop-answer.yielded in
    let next : done ++ c.in-Some.answer ∷ c.next.new.self.rest.items ≡ c.args.found.items =
    sym (ap (λ (xs : List (Option Found)). done ++ xs) c.in-Some.ensures.steps.0) ∙ i.left in
    let lt = yielded_within c.args.found.items done c.next.new.self.rest.items c.in-Some.answer k next i.count in
    let marked = get_or_default c.args.left.now k false true (omega (arith, lt, c.requires.found)) in
    let put : c.put.new.answers.items ≡ set c.loop-answer.answers.items k (joined (get_or c.args.left.now k true) c.in-Some.answer (get_or c.loop-answer.answers.items k None)) =
    c.put.ensures ∙ ap (λ (b : Bool). set c.loop-answer.answers.items k (joined b c.in-Some.answer (get_or c.loop-answer.answers.items k None))) marked in
    record {
      count = simp length-append (omega (arith, i.count));
      left = append_assoc done (c.in-Some.answer ∷ []) c.next.new.self.rest.items ∙ next;
      size = ap length c.put.ensures ∙ (length-set _ _ _ ∙ i.size);
      done = joined_more c.args.left.now c.args.found.items c.args.more.items c.loop-answer.answers.items c.put.new.answers.items done c.next.new.self.rest.items k c.in-Some.answer next i.count
          (omega (arith, lt, i.size, c.requires.found)) i.done (i.later k (omega arith)) put;
      later = later_stay c.loop-answer.answers.items c.put.new.answers.items c.args.more.items k _ i.later c.put.ensures;
    }

pub returns : goal.returns
returns c =
    let i = c.loop-answer.invariant in
    let none = c.in-None.ensures.steps.0 in
    let size = c.loop-answer.answer-iterator.rest.ok.0 in
    joined_all c.args.left.now c.args.found.items c.args.more.items c.loop-answer.answers.items c.loop-answer.yielded c.loop-answer.answer-iterator.rest.items c.loop-answer.k i.left
    (omega arith) i.count c.requires.found i.size i.done
