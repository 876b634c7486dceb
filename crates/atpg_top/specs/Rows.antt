-- The status of a call of the program, and what it leaves.
use Rattle.std.specs.Prelude.{◌≡◌, ℕ, Bool, List, [], Option, Result, Ok, Err, map}
use Rattle.statement.specs.Benches.{Text}
use Rattle.command_line.specs.CommandLine.{CommandLine, NoLine, bad_hold, bad_prefix, bad_words, command_line, reads, run, transition, writes, writes_over}
use Rattle.command_line.specs.HoldLists.{HoldItem}
use Rattle.commands.specs.Names.{file_name_of}
use Rattle.commands.specs.World.{IsAsBefore, World}
use Rattle.commands.specs.Rows.{CommandRow}
use Rattle.commands.specs.declared.ending.Ending.{Ending}
use Rattle.commands.specs.declared.ending.Ending.TheVariants as ending
use Rattle.commands.specs.Lines.{IsSaid}
use Rattle.atpg_top.specs.Commands.{due}
use Rattle.atpg_top.specs.Lines.{status_line}
use Rattle.command_steps.specs.declared.refusal.Refusal.{Refusal}
use Rattle.atpg_top.specs.declared.status.Status.{Status}
use Rattle.atpg_top.specs.declared.status.Status.TheVariants as status

-- the row of the command that a command line asks for
abbrev pub LineRow : CommandLine → World → World → Ending Refusal → Type 0
LineRow line a b e = CommandRow (reads line) (writes line) (due line) a b e

-- the same of words that may be no command line: then only want of memory can have come before that was known
abbrev pub WordsRow : Result CommandLine NoLine → World → World → Ending Refusal → Type 0
WordsRow (Ok line) a b e = LineRow line a b e
WordsRow (Err cause) a b ending.Memory = IsAsBefore a b
WordsRow (Err cause) a b _ = ⊥

abbrev pub TopRow : List Text → World → World → Status → Type 0
TopRow given a b (status.BadWords text) = (command_line given ≡ Err bad_words) × IsAsBefore a b
TopRow given a b status.BadHold = (command_line given ≡ Err bad_hold) × IsAsBefore a b
TopRow given a b (status.BadPrefix prefix) = (command_line given ≡ Err (bad_prefix prefix.now)) × IsAsBefore a b
TopRow given a b (status.WritesOver name) = (command_line given ≡ Err (writes_over (file_name_of name))) × IsAsBefore a b
TopRow given a b (status.Command e) = WordsRow (command_line given) a b e

-- the names of the inputs that a command line wants held
abbrev pub held_names : Result CommandLine NoLine → List Text
held_names (Ok (run net prefix order list first options holds)) = map (λ (h : HoldItem). h.0) holds
held_names (Ok (transition net prefix options holds)) = map (λ (h : HoldItem). h.0) holds
held_names _ = []

-- The error output gains the line of the status. Where the command did its work it is left alone.
abbrev pub ErrRow : Bool → List Text → Status → Option Text → ℕ → Option Text → ℕ → Type 0
ErrRow takes_memory names (status.Command (ending.Ended finding)) a f b g = (b ≡ a) × (g ≡ f)
ErrRow takes_memory names s a f b g = IsSaid takes_memory (status_line names s) a f b g
