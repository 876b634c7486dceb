use Rattle.std.proofs.Common.{take}
use Rattle.std.specs.Prelude.{IsTrue}
use Rattle.std.specs.List.{All}
use Rattle.stil_write.specs.StilFiles.{is_stil_name_byte}
use Rattle.stil_write.proofs.checking.is_name.Given as goal

abbrev pub invariant-loop-b : goal.invariant-loop-b
invariant-loop-b l = All (λ b. IsTrue (is_stil_name_byte b)) (take l.b-index l.text)
