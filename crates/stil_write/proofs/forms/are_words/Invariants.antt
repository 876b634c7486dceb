use Rattle.std.proofs.Common.{take}
use Rattle.std.specs.List.{AllZip}
use Rattle.stil_write.specs.StilFiles.{IsWord, item_at, words_of}
use Rattle.stil_write.proofs.forms.are_words.Given as goal

abbrev pub invariant-loop-k : goal.invariant-loop-k
invariant-loop-k l = AllZip IsWord (take l.k l.forms) (take l.k (words_of (item_at l.items l.place)))
