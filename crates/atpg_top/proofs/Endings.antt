-- A call with a command line has the row of its command.
use Rattle.std.proofs.Common.{◌≡◌, ◌∙◌, List, Result, Ok, Err, sym, subst}
use Rattle.statement.specs.Benches.{Text}
use Rattle.command_line.specs.CommandLine.{CommandLine, NoLine, bad_hold, bad_prefix, bad_words, command_line, writes_over}
use Rattle.commands.specs.Names.{file_name_of}
use Rattle.commands.specs.World.{World}
use Rattle.commands.specs.declared.ending.Ending.{Ending}
use Rattle.commands.specs.declared.ending.Ending.TheVariants as ending
use Rattle.atpg_top.specs.Laws.{DeclinedExactly, EndsBy, IsDeclinedFor}
use Rattle.atpg_top.specs.Rows.{LineRow, TopRow, WordsRow}
use Rattle.command_steps.specs.declared.refusal.Refusal.{Refusal}
use Rattle.atpg_top.specs.declared.status.Status.{Status}
use Rattle.atpg_top.specs.declared.status.Status.TheVariants as status

no_line : (r : Result CommandLine NoLine) (cause : NoLine) (line : CommandLine) → r ≡ Err cause → r ≡ Ok line → ⊥
no_line r cause line e l = let k : Err cause ≡ Ok line = sym e ∙ l in cc

-- what holds of each ending with that row holds of the status
pub ends_by : (P : Ending Refusal → Type 0) (words : List Text) (line : CommandLine) (a b : World) (s : Status) → command_line words ≡ Ok line → TopRow words a b s
    → ((e : Ending Refusal) → LineRow line a b e → P e) → EndsBy P s
ends_by P words line a b (status.BadWords text) taken row each = absurd (no_line (command_line words) bad_words line row.0 taken)
ends_by P words line a b status.BadHold taken row each = absurd (no_line (command_line words) bad_hold line row.0 taken)
ends_by P words line a b (status.BadPrefix prefix) taken row each = absurd (no_line (command_line words) (bad_prefix prefix.now) line row.0 taken)
ends_by P words line a b (status.WritesOver name) taken row each = absurd (no_line (command_line words) (writes_over (file_name_of name)) line row.0 taken)
ends_by P words line a b (status.Command e) taken row each = each e (subst (λ o. WordsRow o a b e) taken row)

-- a call that did what its words ask for
pub row_of : (words : List Text) (line : CommandLine) (a b : World) (e : Ending Refusal) → command_line words ≡ Ok line → LineRow line a b e → TopRow words a b (status.Command e)
row_of words line a b e taken row = subst (λ o. WordsRow o a b e) (sym taken) row

same_cause : (r : Result CommandLine NoLine) (c d : NoLine) → r ≡ Err c → r ≡ Err d → c ≡ d
same_cause r c d e f = let k = sym e ∙ f in cc

only_memory : (cause : NoLine) (a b : World) (e : Ending Refusal) → WordsRow (Err cause) a b e → IsDeclinedFor cause (status.Command e)
only_memory cause a b (ending.Ended finding) row = absurd row
only_memory cause a b (ending.Refused r) row = absurd row
only_memory cause a b (ending.ReadFailed n) row = absurd row
only_memory cause a b (ending.WriteFailed failure) row = absurd row
only_memory cause a b (ending.Missing n) row = absurd row
only_memory cause a b (ending.TooLong n) row = absurd row
only_memory cause a b ending.Memory row = tt

-- words that are no command line end for their cause
pub declined : DeclinedExactly
declined words cause a b (status.BadWords text) none row = same_cause (command_line words) cause bad_words none row.0
declined words cause a b status.BadHold none row = same_cause (command_line words) cause bad_hold none row.0
declined words cause a b (status.BadPrefix prefix) none row = same_cause (command_line words) cause (bad_prefix prefix.now) none row.0
declined words cause a b (status.WritesOver name) none row = same_cause (command_line words) cause (writes_over (file_name_of name)) none row.0
declined words cause a b (status.Command e) none row = only_memory cause a b e (subst (λ o. WordsRow o a b e) none row)
