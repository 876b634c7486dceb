use Rattle.std.proofs.Common.{◌∙◌}
use Rattle.std.proofs.lemmas.List.{length-set}
use Rattle.report.proofs.CountLemmas.{next_count, next_small, no_next_count, numbers_found}
use Rattle.report.proofs.reading.numbers.Goals as goal

pub returns-in_err-number : goal.returns-in_err-number
returns-in_err-number c =
    let i = c.loop-k.invariant in
    rw c.from_residual.ensures
    (no_next_count c.loop-k.numbers i.size c.loop-k.k c.args.text.now c.loop-k.rest.now i.read i.small c.loop-k-test.true c.count_word.result.now c.count_word.ensures
    c.in_err-number.ensures)

pub loop-k-preserved : goal.loop-k-preserved
loop-k-preserved c =
    let i = c.loop-k.invariant in
    let numbers = c.loop-k.numbers in
    let k = c.loop-k.k in
    let word = c.count_word.result.now in
    let number = c.in_ok-number.number in
    let after = c.in_ok-number.after.now in
    record {
      read = next_count numbers i.size k c.args.text.now c.loop-k.rest.now i.read i.small c.loop-k-test.true word c.count_word.ensures number after c.in_ok-number.ensures;
      size = length-set numbers k number ∙ i.size;
      small = next_small numbers i.size k c.args.text.now c.loop-k.rest.now i.read i.small c.loop-k-test.true word c.count_word.ensures number after c.in_ok-number.ensures;
    }

pub returns : goal.returns
returns c =
    let i = c.loop-k.invariant in
    numbers_found c.loop-k.numbers i.size c.loop-k.k c.args.text.now c.loop-k.rest.now i.read i.small c.loop-k-test.false
