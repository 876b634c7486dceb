use Rattle.std.proofs.Common.{◌≡◌, length}
use Rattle.std.specs.List.{list_all}
use Rattle.bench_text.specs.Bytes.{lines}
use Rattle.cell_order.specs.Orders.{is_word, words_of}
use Rattle.cell_order.proofs.grammar.have_words.Given as goal

-- the text has words where the rest has
abbrev pub invariant-lines : goal.invariant-lines
invariant-lines l = list_all (λ line. list_all is_word (words_of line)) (lines l.text) ≡ list_all (λ line. list_all is_word (words_of line)) (lines l.rest)

abbrev pub decreases-lines : goal.decreases-lines
decreases-lines l = length l.rest
