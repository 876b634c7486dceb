-- The statuses exclude each other, so that "only where" in each row is "exactly where": by what the files hold, the status is one of few.
use Rattle.std.specs.Prelude.{◌≡◌, ⊤, List, Some, Ok, Err}
use Rattle.statement.specs.Benches.{Text}
use Rattle.outside.specs.Causes.{Rose}
use Rattle.outside.specs.Shelf.{Files}
use Rattle.command_line.specs.CommandLine.{CommandLine, NoLine, bad_hold, bad_prefix, bad_words, command_line, reads, writes_over}
use Rattle.commands.specs.Names.{file_name_of}
use Rattle.commands.specs.World.{NoneFailed, World}
use Rattle.commands.specs.Contents.{Whole, Missing, TooLong, contents_of}
use Rattle.commands.specs.Due.{Refuse, Deliver}
use Rattle.commands.specs.Laws.{IsEnded, IsExclusive, IsFailure, IsMissing, IsRefusedFor, IsTooLong, OrFails}
use Rattle.commands.specs.declared.ending.Finding.{Finding}
use Rattle.commands.specs.declared.ending.Ending.{Ending}
use Rattle.commands.specs.declared.ending.Ending.TheVariants as ending
use Rattle.atpg_top.specs.Commands.{due}
use Rattle.atpg_top.specs.Rows.{TopRow}
use Rattle.command_steps.specs.declared.refusal.Refusal.{Refusal}
use Rattle.atpg_top.specs.declared.status.Status.{Status}
use Rattle.atpg_top.specs.declared.status.Status.TheVariants as status

-- the command ended so
abbrev pub EndsBy : (Ending Refusal → Type 0) → Status → Type 0
EndsBy P (status.Command e) = P e
EndsBy P _ = ⊥

-- a call with a command line over files that are told
pub record IsTopCall (words : List Text) (line : CommandLine) (files : Files) (a b : World) (s : Status) : Type 0 where
  pub taken : command_line words ≡ Ok line
  pub told : a.files ≡ Some files
  pub row : TopRow words a b s

-- the call ended for this cause, or memory was refused
abbrev pub IsDeclinedFor : NoLine → Status → Type 0
IsDeclinedFor cause (status.BadWords text) = cause ≡ bad_words
IsDeclinedFor cause status.BadHold = cause ≡ bad_hold
IsDeclinedFor cause (status.BadPrefix prefix) = cause ≡ bad_prefix prefix.now
IsDeclinedFor cause (status.WritesOver name) = cause ≡ writes_over (file_name_of name)
IsDeclinedFor cause (status.Command ending.Memory) = ⊤
IsDeclinedFor cause (status.Command _) = ⊥

-- the words are no command line: status 2, which says why
abbrev pub DeclinedExactly : Type 0
DeclinedExactly = (words : List Text) (cause : NoLine) (a b : World) (s : Status) → command_line words ≡ Err cause → TopRow words a b s → IsDeclinedFor cause s

-- what is due of the same texts is alike: the same refusal, or the same finding
abbrev pub EachExclusive : Type 0
EachExclusive = (line : CommandLine) → IsExclusive (due line)

-- the first file that can't be had isn't there: status 7 with its name
abbrev pub MissingExactly : Type 0
MissingExactly =
    (words : List Text) (line : CommandLine) (files : Files) (a b : World) (s : Status) (name : Text) → IsTopCall words line files a b s
    → contents_of files (reads line) ≡ Missing name → EndsBy (OrFails (IsMissing name) a b) s

-- the first file that can't be had is too long: status 8 with its name
abbrev pub TooLongExactly : Type 0
TooLongExactly =
    (words : List Text) (line : CommandLine) (files : Files) (a b : World) (s : Status) (name : Text) → IsTopCall words line files a b s
    → contents_of files (reads line) ≡ TooLong name → EndsBy (OrFails (IsTooLong name) a b) s

-- the texts are refused: the refusal's status
abbrev pub RefusedExactly : Type 0
RefusedExactly =
    (words : List Text) (line : CommandLine) (files : Files) (a b : World) (s : Status) (texts : List Text) (r : Refusal) → IsTopCall words line files a b s
    → contents_of files (reads line) ≡ Whole texts → due line texts (Refuse r) → EndsBy (OrFails (IsRefusedFor r) a b) s

-- A call of the shelf or the output failed: status 5 or 6, which says whose.
abbrev pub FailedExactly : Type 0
FailedExactly =
    (words : List Text) (line : CommandLine) (a b : World) (s : Status) → command_line words ≡ Ok line → TopRow words a b s
    → ¬ NoneFailed a b → EndsBy (IsFailure a b) s

-- Nothing is in the way, and no count rose: the command did its work, or memory was refused.
abbrev pub NothingElse : Type 0
NothingElse =
    (words : List Text) (line : CommandLine) (files : Files) (a b : World) (s : Status) (texts made : List Text) (shown : Text) (finding : Finding)
    → IsTopCall words line files a b s
    → contents_of files (reads line) ≡ Whole texts → due line texts (Deliver made shown finding)
    → ¬ Rose a.shelf_failures b.shelf_failures → ¬ Rose a.out_failures b.out_failures → EndsBy (OrFails (IsEnded finding) a b) s
