use Rattle.std.proofs.Common.{[], refl}
use Rattle.commands.specs.World.{world}
use Rattle.commands.proofs.CommandLemmas.{command_row, nothing_read}
use Rattle.atpg_top.specs.Commands.{sweep_due}
use Rattle.atpg_top.proofs.sweeping.sweep_sample.Goals as goal

pub returns : goal.returns
returns g c =
    let files = g.S.Shelf.files c.args.shelf.now in
    let failures = g.S.Shelf.failures c.args.shelf.now in
    let taken = g.T.Sink.taken c.args.out.now in
    let unwritten = g.T.Sink.failures c.args.out.now in
    let after = world (g.S.Shelf.files c.deliver.new.shelf) (g.S.Shelf.failures c.deliver.new.shelf) (g.T.Sink.taken c.deliver.new.out) (g.T.Sink.failures c.deliver.new.out) in
    command_row [] [] (sweep_due c.args.seed c.args.gates) files failures files failures taken unwritten after [] 0 c.work-worked.result c.deliver.result
    (nothing_read files) refl refl c.work-worked.ensures c.deliver.ensures
