use Rattle.std.proofs.Common.{ap, map, ◌∙◌}
use Rattle.std.proofs.lemmas.Result.{IfOk-weaker}
use Rattle.std.specs.String.{string_bytes}
use Rattle.clap.specs.Words.{App, is_simple, subcommand_of}
use Rattle.clap.specs.Faults.{fault_of, is_simple_and_free}
use Rattle.clap.proofs.FaultLemmas.{fails_as}
use Rattle.command_line.proofs.TableLemmas.{table_is_simple, table_is_free}
use Rattle.command_line.proofs.matches.Goals as goal

pub returns-clause-rows : goal.returns-clause-rows
returns-clause-rows c =
    let parse = c.try_get_matches_from in
    let words = map string_bytes c.args.words.now in
    IfOk-weaker parse.result _ _ (λ m h. (h (ap is_simple c.in_ok-table.ensures ∙ table_is_simple)).1 ∙ ap (λ (a : App). subcommand_of a words) c.in_ok-table.ensures) parse.ensures.matches

pub returns-clause-kinds : goal.returns-clause-kinds
returns-clause-kinds c =
    let parse = c.try_get_matches_from in
    let words = map string_bytes c.args.words.now in
    fails_as parse.result _ _ (ap (λ (a : App). fault_of a words) c.in_ok-table.ensures) (parse.ensures.kinds (ap is_simple_and_free c.in_ok-table.ensures ∙ table_is_free))
