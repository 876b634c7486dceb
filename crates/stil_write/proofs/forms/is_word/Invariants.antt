use Rattle.std.proofs.Common.{take}
use Rattle.std.specs.Prelude.{IsTrue}
use Rattle.std.specs.List.{All}
use Rattle.stil_write.specs.StilFiles.{is_value}
use Rattle.stil_write.proofs.forms.is_word.Given as goal

abbrev pub invariant-loop-b : goal.invariant-loop-b
invariant-loop-b l = All (λ b. IsTrue (is_value l.form.values b)) (take l.b-index l.word)
