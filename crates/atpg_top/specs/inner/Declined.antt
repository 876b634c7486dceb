-- Words that are no request.
use Rattle.std.specs.Prelude.{◌≡◌, ⊤}
use Rattle.command_line.specs.declared.WordsRefusal.{WordsRefusal}
use Rattle.command_line.specs.declared.WordsRefusal.TheVariants as words
use Rattle.commands.specs.declared.ending.Ending.TheVariants as ending
use Rattle.atpg_top.specs.declared.status.Status.{Status}
use Rattle.atpg_top.specs.declared.status.Status.TheVariants as status

-- what becomes of words that are no request
abbrev pub DeclineRow : WordsRefusal → Status → Type 0
DeclineRow (words.BadWords text) (status.BadWords shown) = ⊤
DeclineRow words.BadHold status.BadHold = ⊤
DeclineRow (words.BadPrefix prefix) (status.BadPrefix shown) = shown.now ≡ prefix.now
DeclineRow (words.WritesOver name) (status.WritesOver shown) = shown ≡ name
DeclineRow words.NoMemory (status.Command ending.Memory) = ⊤
DeclineRow _ _ = ⊥
