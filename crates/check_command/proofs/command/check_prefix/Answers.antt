use Rattle.std.proofs.Common.{List, [], subst}
use Rattle.statement.specs.Benches.{Text}
use Rattle.commands.specs.Rows.{CommandRow}
use Rattle.commands.specs.World.{world}
use Rattle.check_command.specs.Checking.{five_texts_due}
use Rattle.check_command.proofs.command.check_prefix.Goals as goal

pub returns : goal.returns
returns g c =
    let before = world (g.S.Shelf.files c.args.shelf.now) (g.S.Shelf.failures c.args.shelf.now) (g.T.Sink.taken c.args.out.now) (g.T.Sink.failures c.args.out.now) in
    let after = world (g.S.Shelf.files c.run_command.new.shelf) (g.S.Shelf.failures c.run_command.new.shelf) (g.T.Sink.taken c.run_command.new.out) (g.T.Sink.failures c.run_command.new.out) in
    subst (λ (reads : List Text). CommandRow reads [] five_texts_due before after c.run_command.result) c.file_names-reads.ensures c.run_command.ensures
