use Rattle.std.proofs.Common.{map, option_map, refl}
use Rattle.commands.specs.Names.{file_names_of, run_files, texts_of}
use Rattle.commands.specs.World.{world}
use Rattle.commands.proofs.CommandLemmas.{command_row}
use Rattle.command_line.specs.CommandLine.{hold_of, run_reads}
use Rattle.asked_run.specs.Asked.{ordered_run_due}
use Rattle.command_steps.proofs.RowLemmas.{row_at}
use Rattle.asked_run.proofs.running.run_netlist.Goals as goal

pub returns : goal.returns
returns g c =
    let files = g.S.Shelf.files c.args.shelf.now in
    let failures = g.S.Shelf.failures c.args.shelf.now in
    let taken = g.T.Sink.taken c.args.out.now in
    let unwritten = g.T.Sink.failures c.args.out.now in
    let after = world (g.S.Shelf.files c.deliver.new.shelf) (g.S.Shelf.failures c.deliver.new.shelf) (g.T.Sink.taken c.deliver.new.out) (g.T.Sink.failures c.deliver.new.out) in
    let order = option_map (λ t. t.now) c.args.words.names.order in
    let list = option_map (λ t. t.now) c.args.words.names.list in
    let first = option_map (λ t. t.now) c.args.words.names.first in
    let due = ordered_run_due order list first c.args.words.options (map hold_of c.args.words.named.now) in
    let reads = run_reads c.args.words.names.net.now order list first in
    let writes = file_names_of c.file_names-writes.result in
    let read = c.in-Ok.ensures in
    let row = command_row reads writes due files failures (g.S.Shelf.files c.read_texts.new.shelf) (g.S.Shelf.failures c.read_texts.new.shelf) taken unwritten after
    (texts_of c.in-Ok.texts.items) 5 c.ordered_work-worked.result c.deliver.result read.0 read.1 read.2 c.ordered_work-worked.ensures c.deliver.ensures in
    row_at reads reads writes (run_files c.args.words.names.prefix.now) due (world files failures taken unwritten) after c.deliver.result refl c.file_names-writes.ensures row
