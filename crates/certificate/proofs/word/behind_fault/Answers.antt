use Rattle.std.proofs.Common.{◌∷◌, ◌++◌, ◌∙◌, sym}
use Rattle.certificate.proofs.WordLemmas.{cut_behind_three, cut_behind_two, one_word, two_words}
use Rattle.certificate.proofs.word.behind_fault.Goals as goal

pub returns-in_default : goal.returns-in_default
returns-in_default c = one_word c.args.line.now c.word-first.result.0.now c.word-first.result.1.now c.word-first.ensures c.in_default.ensures

pub returns-in-Some-next_word : goal.returns-in-Some-next_word
returns-in-Some-next_word c =
    let second = c.in-Some.ensures in
    let third = c.in-Some-next_word.ensures in (
      (c.word-first.result.0.now ++ 32 ∷ c.in-Some.second.0.now) ++ 32 ∷ c.in-Some-next_word.third.0.now,
      cut_behind_three c.args.line.now c.word-first.result.0.now c.word-first.result.1.now c.word-first.ensures second.0 c.in-Some.second.0.now c.in-Some.second.1.now second.1 second.2
          (sym c.is_pin.ensures ∙ c.if-is_pin.true) third.0 c.in-Some-next_word.third.0.now c.in-Some-next_word.third.1.now third.1 third.2,
    )

pub returns-in-None : goal.returns-in-None
returns-in-None c =
    let second = c.in-Some.ensures in
    two_words c.args.line.now c.word-first.result.0.now c.word-first.result.1.now c.word-first.ensures second.0 c.in-Some.second.0.now c.in-Some.second.1.now second.1 second.2
    (sym c.is_pin.ensures ∙ c.if-is_pin.true) c.in-None.ensures

pub returns-else-is_pin : goal.returns-else-is_pin
returns-else-is_pin c =
    let second = c.in-Some.ensures in (
      c.word-first.result.0.now ++ 32 ∷ c.in-Some.second.0.now,
      cut_behind_two c.args.line.now c.word-first.result.0.now c.word-first.result.1.now c.word-first.ensures second.0 c.in-Some.second.0.now c.in-Some.second.1.now second.1 second.2
          (sym c.is_pin.ensures ∙ c.if-is_pin.false),
    )
