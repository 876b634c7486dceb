use Rattle.std.proofs.Common.{[], ◌∷◌, ap, map}
use Rattle.statement.specs.Benches.{Text}
use Rattle.commands.specs.Names.{file_name_of, file_names_of, run_files, texts_of}
use Rattle.commands.specs.World.{world}
use Rattle.commands.proofs.CommandLemmas.{command_row}
use Rattle.command_line.specs.CommandLine.{hold_of}
use Rattle.atpg_top.specs.Commands.{transition_due}
use Rattle.command_steps.proofs.RowLemmas.{row_at}
use Rattle.atpg_top.proofs.slow_lines.test_slow_lines.Goals as goal

pub returns : goal.returns
returns g c =
    let files = g.S.Shelf.files c.args.shelf.now in
    let failures = g.S.Shelf.failures c.args.shelf.now in
    let taken = g.T.Sink.taken c.args.out.now in
    let unwritten = g.T.Sink.failures c.args.out.now in
    let after = world (g.S.Shelf.files c.deliver.new.shelf) (g.S.Shelf.failures c.deliver.new.shelf) (g.T.Sink.taken c.deliver.new.out) (g.T.Sink.failures c.deliver.new.out) in
    let due = transition_due c.args.asked.now.options (map hold_of c.args.asked.now.named.now) in
    let reads = file_name_of c.of.result ∷ [] in
    let writes = file_names_of c.file_names-writes.result in
    let read = c.in-Ok.ensures in
    let row = command_row reads writes due files failures (g.S.Shelf.files c.read_in_order.new.shelf) (g.S.Shelf.failures c.read_in_order.new.shelf) taken unwritten after
    (texts_of c.in-Ok.texts.items) 5 c.work-worked.result c.deliver.result read.0 read.1 read.2 c.work-worked.ensures c.deliver.ensures in
    row_at reads (c.args.asked.now.net.now ∷ []) writes (run_files c.args.asked.now.prefix.now) due (world files failures taken unwritten) after c.deliver.result (ap (λ (t : Text). t ∷ []) c.of.ensures)
    c.file_names-writes.ensures row
