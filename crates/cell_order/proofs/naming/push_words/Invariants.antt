use Rattle.std.proofs.Common.{◌≡◌, ◌++◌, length}
use Rattle.cell_order.specs.Orders.{words_of}
use Rattle.cell_order.specs.inner.Reads.{texts_in}
use Rattle.cell_order.proofs.naming.push_words.Given as goal

abbrev pub invariant-words : goal.invariant-words
invariant-words l = texts_in l.names.items ++ words_of l.rest ≡ texts_in l.fn.names.items ++ words_of l.line

abbrev pub decreases-words : goal.decreases-words
decreases-words l = length l.rest
