use Rattle.std.proofs.Common.{◌≡◌, length}
use Rattle.std.specs.List.{list_all}
use Rattle.cell_order.specs.Orders.{is_word, words_of}
use Rattle.cell_order.proofs.grammar.has_words.Given as goal

-- the line has words where the rest has
abbrev pub invariant-words : goal.invariant-words
invariant-words l = list_all is_word (words_of l.line) ≡ list_all is_word (words_of l.rest)

abbrev pub decreases-words : goal.decreases-words
decreases-words l = length l.rest
