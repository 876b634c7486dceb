use Rattle.std.proofs.Common.{map}
use Rattle.commands.specs.Names.{texts_of}
use Rattle.command_line.specs.CommandLine.{hold_of}
use Rattle.command_steps.proofs.RunLemmas.{design_stops, design_works}
use Rattle.atpg_top.specs.Commands.{named_slow_due}
use Rattle.atpg_top.proofs.slow_lines.work.Goals as goal

pub returns-in-Ok : goal.returns-in-Ok
returns-in-Ok g c = design_works (named_slow_due c.args.asked.now.options (map hold_of c.args.asked.now.named.now)) 5 (texts_of c.args.texts.items) c.in-Ok.netlist c.test_design.result c.in-Ok.ensures c.test_design.ensures

pub returns-in-Err : goal.returns-in-Err
returns-in-Err g c = design_stops (named_slow_due c.args.asked.now.options (map hold_of c.args.asked.now.named.now)) 5 (texts_of c.args.texts.items) c.in-Err.stop c.in-Err.ensures
