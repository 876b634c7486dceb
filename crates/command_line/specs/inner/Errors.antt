-- What an error of `clap` becomes, and what of values that make no request.
use Rattle.std.specs.Prelude.{◌≡◌, ◌≢◌, ⊤, Result, Ok, Err}
use Rattle.clap.specs.declared.error.kind.ErrorKind.TheVariants.{OutOfMemory}
use Rattle.clap.specs.declared.error.kind.ErrorKind.{ErrorKind}
use Rattle.command_line.specs.CommandLine.{CommandLine, NoLine, bad_hold, bad_words, command_line_of}
use Rattle.command_line.specs.declared.WordsRefusal.{WordsRefusal}
use Rattle.command_line.specs.declared.WordsRefusal.TheVariants as refusal
use Rattle.command_line.specs.declared.requests.NoRequest.{NoRequest}
use Rattle.command_line.specs.declared.requests.NoRequest.TheVariants as none
use Rattle.command_line.specs.declared.requests.Request.{Request}

-- the refusal that an error of this kind of `clap` becomes
abbrev pub IsMadeOf : ErrorKind → WordsRefusal → Type 0
IsMadeOf kind (refusal.BadWords text) = kind ≢ OutOfMemory
IsMadeOf kind refusal.NoMemory = ⊤
IsMadeOf kind _ = ⊥

-- the request is this command line, or there is none for this cause
abbrev pub IsAsked : Result CommandLine NoLine → Result Request NoRequest → Type 0
IsAsked line (Ok request) = line ≡ Ok (command_line_of request)
IsAsked line (Err none.BadNumber) = line ≡ Err bad_words
IsAsked line (Err none.BadEngine) = line ≡ Err bad_words
IsAsked line (Err none.BadOrder) = line ≡ Err bad_words
IsAsked line (Err none.BadHold) = line ≡ Err bad_hold
IsAsked line (Err none.NoMemory) = ⊤

-- the words are bad, or memory was refused
abbrev pub IsBadWords : WordsRefusal → Type 0
IsBadWords (refusal.BadWords text) = ⊤
IsBadWords refusal.NoMemory = ⊤
IsBadWords _ = ⊥

-- the refusal for this cause
abbrev pub BecomesRefusal : NoRequest → WordsRefusal → Type 0
BecomesRefusal none.BadNumber r = IsBadWords r
BecomesRefusal none.BadEngine r = IsBadWords r
BecomesRefusal none.BadOrder r = IsBadWords r
BecomesRefusal none.BadHold r = r ≡ refusal.BadHold
BecomesRefusal none.NoMemory r = r ≡ refusal.NoMemory
