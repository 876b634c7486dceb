use Rattle.std.proofs.Common.{◌≡◌, false, take}
use Rattle.std.specs.List.{list_any}
use Rattle.commands.specs.Names.{file_name_of}
use Rattle.commands.proofs.NameLemmas.{is_name_of}
use Rattle.commands.proofs.names.is_among.Given as goal

abbrev pub invariant-loop-other : goal.invariant-loop-other
invariant-loop-other l = list_any (is_name_of (file_name_of l.name)) (take l.other-index l.names) ≡ false
