use Rattle.std.proofs.Common.{◌≡◌, ◌∙◌, ap}
use Rattle.std.proofs.lemmas.Result.{IfOk-weaker}
use Rattle.clap.specs.Words.{app_of}
use Rattle.command_line.specs.Table.{command_table, program}
use Rattle.command_line.specs.inner.Arguments.{with_subcommands}
use Rattle.command_line.proofs.TableLemmas.{is_table}
use Rattle.command_line.proofs.clap_table.table.Goals as goal

pub returns : goal.returns
returns c = IfOk-weaker c.with_commands.result _ (λ k. app_of k ≡ command_table) (λ k is. is ∙ ap (with_subcommands program) c.commands.ensures ∙ is_table) c.with_commands.ensures
