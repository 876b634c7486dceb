use Rattle.std.proofs.Common.{◌∙◌, ap}
use Rattle.statement.specs.Benches.{Text}
use Rattle.stil_write.specs.StilFiles.{item_at, words_of}
use Rattle.stil_patterns.specs.Applied.{inputs_in, pattern_in}
use Rattle.stil_patterns.proofs.BackLemmas.{same_pattern}
use Rattle.stil_patterns.proofs.reading.pattern_in.Goals as goal

pub returns : goal.returns
returns c =
    let items = c.args.items.now in
    c.new.ensures ∙ same_pattern (pattern_in c.args.count c.args.chains.now (words_of (item_at items c.args.load)) (words_of (item_at items c.args.vector))) c.in_ok-inputs.inputs.items c.in_ok-cells.cells.items
    (c.in_ok-inputs.ensures ∙ ap (λ (w : Text). inputs_in c.args.count w) c.word_at.ensures) c.in_ok-cells.ensures
