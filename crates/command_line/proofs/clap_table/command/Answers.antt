use Rattle.std.proofs.Common.{[], ◌∙◌, map}
use Rattle.command_line.specs.inner.Arguments.{asked_by}
use Rattle.command_line.proofs.TableLemmas.{about_local, shaped, started, with_about}
use Rattle.command_line.proofs.clap_table.command.Goals as goal

pub returns : goal.returns
returns c =
    let new = c.new.result in
    let about = c.about-command.result in
    let start = started c.args.listed.name.now about (with_about new about _ c.about-command.ensures ∙ c.new.ensures.app) (about_local new about _ c.about-command.ensures ∙ c.new.ensures.local) in
    shaped c.args.listed.name.now [] (map asked_by c.args.listed.arguments.now) about c.with_arguments.result start c.with_arguments.ensures
