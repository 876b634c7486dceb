-- The answers other than a request, and their causes.
use Rattle.std.specs.Prelude.{◌≡◌, ⊤, List, Err}
use Rattle.clap.specs.Words.{Text}
use Rattle.commands.specs.Names.{file_name_of}
use Rattle.command_line.specs.CommandLine.{bad_hold, bad_prefix, bad_words, command_line, writes_over}
use Rattle.command_line.specs.declared.WordsRefusal.{WordsRefusal}
use Rattle.command_line.specs.declared.WordsRefusal.TheVariants.{BadWords, BadHold, BadPrefix, WritesOver, NoMemory}

-- bad words are no command line; a bad list of held inputs, or the names of the files, is what keeps them from being one; want of memory alone may come at
-- any words
abbrev pub IsUsageError : List Text → WordsRefusal → Type 0
IsUsageError words (BadWords text) = command_line words ≡ Err bad_words
IsUsageError words BadHold = command_line words ≡ Err bad_hold
IsUsageError words (BadPrefix prefix) = command_line words ≡ Err (bad_prefix prefix.now)
IsUsageError words (WritesOver name) = command_line words ≡ Err (writes_over (file_name_of name))
IsUsageError words NoMemory = ⊤
