use Rattle.commands.specs.Names.{texts_of}
use Rattle.command_steps.proofs.RunLemmas.{design_stops, design_works}
use Rattle.atpg_top.specs.Commands.{scanned_due}
use Rattle.atpg_top.proofs.scanning.work.Goals as goal

pub returns-in-Ok : goal.returns-in-Ok
returns-in-Ok c = design_works (scanned_due c.args.chains) 1 (texts_of c.args.texts.items) c.in-Ok.netlist c.product_of-worked.result c.in-Ok.ensures c.product_of-worked.ensures

pub returns-in-Err : goal.returns-in-Err
returns-in-Err c = design_stops (scanned_due c.args.chains) 1 (texts_of c.args.texts.items) c.in-Err.stop c.in-Err.ensures
