use Rattle.std.proofs.Common.{map, option_map}
use Rattle.commands.specs.Names.{texts_of}
use Rattle.command_line.specs.CommandLine.{hold_of}
use Rattle.asked_run.specs.Asked.{run_read}
use Rattle.asked_run.proofs.AskLemmas.{case_stopped, case_worked}
use Rattle.asked_run.proofs.running.work.Goals as goal

pub returns-in-Ok : goal.returns-in-Ok
returns-in-Ok g c =
    let read = run_read (option_map (λ t. t.now) c.args.names.list) (option_map (λ t. t.now) c.args.names.first) (texts_of c.args.texts.items) in
    case_worked c.args.options (map hold_of c.args.named.now) 5 read c.in-Ok.case c.run_case.result c.in-Ok.ensures.reads c.run_case.ensures

pub returns-in-Err : goal.returns-in-Err
returns-in-Err g c =
    let read = run_read (option_map (λ t. t.now) c.args.names.list) (option_map (λ t. t.now) c.args.names.first) (texts_of c.args.texts.items) in
    case_stopped c.args.options (map hold_of c.args.named.now) 5 read c.in-Err.stop c.in-Err.ensures.reads
