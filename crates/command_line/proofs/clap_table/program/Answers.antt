use Rattle.std.proofs.Common.{◌≡◌, ap, ◌∙◌, true}
use Rattle.std.proofs.lemmas.Result.{IfOk-weaker}
use Rattle.clap.specs.Words.{Shape, app_of}
use Rattle.clap.specs.Simple.{on_top}
use Rattle.command_line.specs.Table.{program}
use Rattle.command_line.proofs.TableLemmas.{with_name, with_no_help, with_required, with_version}
use Rattle.command_line.proofs.clap_table.program.Goals as goal

pub returns : goal.returns
returns c =
    let version = with_version c.new.result c.version.result _ c.version.ensures ∙ ap (on_top (λ (s : Shape). record s { has_version = true })) c.new.ensures.app in
    let no_help = with_no_help c.version.result c.disable_help_subcommand.result c.disable_help_subcommand.ensures ∙ ap (on_top (λ (s : Shape). record s { disable_help_subcommand = true })) version in
    let required = with_required c.disable_help_subcommand.result c.subcommand_required.result c.subcommand_required.ensures ∙ ap (on_top (λ (s : Shape). record s { subcommand_required = true })) no_help in
    IfOk-weaker c.bin_name.result _ (λ k. app_of k ≡ program) (λ k named. with_name c.subcommand_required.result k named.0 ∙ required) c.bin_name.ensures
