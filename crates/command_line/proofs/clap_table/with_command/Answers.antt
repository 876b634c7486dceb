use Rattle.command_line.proofs.TableLemmas.{adds, adds_none}
use Rattle.command_line.proofs.clap_table.with_command.Goals as goal

pub returns-in-Ok : goal.returns-in-Ok
returns-in-Ok c = adds c.args.table c.in-Ok.command c.args.command c.subcommand.result c.in-Ok.is c.subcommand.ensures

pub returns-in-Err : goal.returns-in-Err
returns-in-Err c = adds_none c.args.table c.args.command _
