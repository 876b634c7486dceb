use Rattle.std.proofs.Common.{length, ap, subst, sym, ◌∙◌}
use Rattle.diagnose.specs.inner.Answers.{AreTold, explaining_from}
use Rattle.diagnose.proofs.diagnosing.found_by.Goals as goal

pub collected-requires-clause-count : goal.collected-requires-clause-count
collected-requires-clause-count g c =
    let d = c.requires.design in
    c.len.ensures ∙ (ap length d.are_faults ∙ sym d.are_classes.size)

pub collected-requires-clause-size : goal.collected-requires-clause-size
collected-requires-clause-size g c = ap length c.deref.ensures.value ∙ c.in_ok-answers.ensures.size

pub collected-requires-clause-within : goal.collected-requires-clause-within
collected-requires-clause-within g c = c.requires.design.are_classes.within

pub returns : goal.returns
returns g c =
    let numbers = c.args.design.now.classes.now.numbers in
    record {
      answers = c.in_ok-answers.answers.items;
      are_answers = c.in_ok-answers.ensures;
      told = subst (λ ts. AreTold ts numbers) c.deref.ensures.value c.in_ok-found.ensures.told;
      found_is = c.in_ok-found.ensures.found ∙ ap (λ ts. explaining_from ts 0 numbers) c.deref.ensures.value;
    }
