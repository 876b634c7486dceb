-- What the names of a command line's files have in common.
use Rattle.std.specs.Prelude.{◌≡◌, List, Ok}
use Rattle.std.specs.List.{Contains}
use Rattle.clap.specs.Words.{Text}
use Rattle.command_line.specs.CommandLine.{CommandLine, command_line, reads, writes}

-- no command line writes over what it reads
abbrev pub NothingWrittenOver : Type 0
NothingWrittenOver = (words : List Text) (line : CommandLine) (name : Text) → command_line words ≡ Ok line → Contains (reads line) name → ¬ Contains (writes line) name
