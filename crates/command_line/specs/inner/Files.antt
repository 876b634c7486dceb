-- The names of files, on the way to a request.
use Rattle.std.specs.Prelude.{◌≡◌, ⊤, Option, Some, None, Result, Ok, Err}
use Rattle.commands.specs.Names.{file_name_of}
use Rattle.command_line.specs.CommandLine.{CommandLine, bad_prefix, command_line_of, line_with_files, writes_over}
use Rattle.command_line.specs.declared.WordsRefusal.{WordsRefusal}
use Rattle.command_line.specs.declared.WordsRefusal.TheVariants as refusal
use Rattle.command_line.specs.declared.requests.Request.{Request}

-- this is wrong with the names of a line's files
abbrev pub AreRefused : CommandLine → WordsRefusal → Type 0
AreRefused line (refusal.BadPrefix prefix) = line_with_files (Ok line) ≡ Err (bad_prefix prefix.now)
AreRefused line (refusal.WritesOver name) = line_with_files (Ok line) ≡ Err (writes_over (file_name_of name))
AreRefused line refusal.NoMemory = ⊤
AreRefused line _ = ⊥

-- this, or nothing
abbrev pub AreNamed : CommandLine → Option WordsRefusal → Type 0
AreNamed line None = line_with_files (Ok line) ≡ Ok line
AreNamed line (Some why) = AreRefused line why

-- the request is the line, or this is wrong
abbrev pub IsNamed : CommandLine → Result Request WordsRefusal → Type 0
IsNamed line (Ok request) = line_with_files (Ok line) ≡ Ok (command_line_of request)
IsNamed line (Err why) = AreRefused line why
