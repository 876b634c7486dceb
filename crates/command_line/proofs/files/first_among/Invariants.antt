use Rattle.std.proofs.Common.{◌≡◌, drop}
use Rattle.std.specs.List.{find, list_any}
use Rattle.std.specs.Str.{bytes_eq}
use Rattle.commands.specs.Names.{file_names_of}
use Rattle.command_line.proofs.files.first_among.Given as goal

-- the first of all is the first of the rest
abbrev pub invariant-loop-name : goal.invariant-loop-name
invariant-loop-name l =
    find (λ t. list_any (bytes_eq t) (file_names_of l.written)) (file_names_of l.names) ≡ find (λ t. list_any (bytes_eq t) (file_names_of l.written)) (file_names_of (drop l.name-index l.names))
