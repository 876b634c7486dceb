use Rattle.std.proofs.Common.{◌≤◌, ◌∙◌, ap, sym, length, arith}
use Rattle.stil_vectors.proofs.FitLemmas.{other_text, same_text}
use Rattle.known_tests.proofs.SameTexts.{all_same, more_same, one_other}
use Rattle.known_tests.proofs.fitting.are_same.Goals as goal

pub returns-then-len : goal.returns-then-len
returns-then-len c = λ e. c.if-len.true (c.len.ensures ∙ (ap length e ∙ sym c.len-2.ensures))

pub returns-then-ne : goal.returns-then-ne
returns-then-ne c =
    one_other c.args.texts.now c.args.others.now c.loop-place.place c.get-text.result.now c.get-other.result.now c.get-text.ensures c.get-other.ensures
    (λ same. other_text c.get-text.result.now c.get-other.result.now c.if-ne.ensures same)

pub loop-place-preserved : goal.loop-place-preserved
loop-place-preserved c =
    more_same c.args.texts.now c.args.others.now c.loop-place.place c.get-text.result.now c.get-other.result.now c.get-text.ensures c.get-other.ensures
    (same_text c.get-text.result.now c.get-other.result.now c.if-ne.ensures) c.loop-place.invariant

pub returns : goal.returns
returns c =
    let few : length c.args.texts.now ≤ c.loop-place.place = omega arith in
    let also : length c.args.others.now ≤ c.loop-place.place = omega arith in
    all_same c.args.texts.now c.args.others.now c.loop-place.place few also c.loop-place.invariant
