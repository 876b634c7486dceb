use Rattle.commands.specs.World.{world}
use Rattle.commands.specs.Names.{file_names_of, texts_of}
use Rattle.commands.proofs.CommandLemmas.{command_row, unread_row}
use Rattle.commands.proofs.command.run_command.Goals as goal

pub returns-in-Err : goal.returns-in-Err
returns-in-Err g c =
    unread_row (file_names_of c.args.reads.now) (file_names_of c.args.writes.now) (g.W.Work.due c.args.work.now) _ _ _ _ _ _ c.in-Err.ending c.in-Err.ensures.0 c.in-Err.ensures.1

pub returns : goal.returns
returns g c =
    let read = c.in-Ok.ensures in
    let after = world (g.S.Shelf.files c.deliver.new.shelf) (g.S.Shelf.failures c.deliver.new.shelf) (g.T.Sink.taken c.deliver.new.out) (g.T.Sink.failures c.deliver.new.out) in
    command_row (file_names_of c.args.reads.now) (file_names_of c.args.writes.now) (g.W.Work.due c.args.work.now) _ _ _ _ _ _ after (texts_of c.in-Ok.texts.items)
    (g.W.Work.writes c.args.work.now) c.work-worked.result c.deliver.result read.0 read.1 read.2 c.work-worked.ensures c.deliver.ensures
