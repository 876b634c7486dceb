use Rattle.std.proofs.lemmas.Bool.{both_ways}
use Rattle.report.proofs.FaultLemmas.{no_named, other_named}
use Rattle.report.proofs.fault_words.behind_named.Goals as goal

pub returns-in_err-name : goal.returns-in_err-name
returns-in_err-name c = rw c.from_residual.ensures (no_named c.args.model c.args.text.now c.in_err-name.ensures)

pub returns-else-is_word : goal.returns-else-is_word
returns-else-is_word c =
    other_named c.args.model c.args.text.now c.in_ok-name.name.now c.in_ok-name.rest.now c.in_ok-name.ensures
    (λ n. both_ways c.is_word.result c.if-is_word.false (c.is_word.ensures.1 n))
