use Rattle.std.proofs.Common.{take}
use Rattle.std.specs.List.{All}
use Rattle.stil_write.specs.StilFiles.{IsStilName}
use Rattle.stil_write.proofs.checking.are_names.Given as goal

abbrev pub invariant-loop-place : goal.invariant-loop-place
invariant-loop-place l = All IsStilName (take l.place l.texts)
