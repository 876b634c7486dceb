use Rattle.std.proofs.Common.{length, option_map}
use Rattle.commands.specs.Names.{texts_of}
use Rattle.command_steps.proofs.OrderLemmas.{ordered_stopped, ordered_worked}
use Rattle.atpg_top.specs.Commands.{scan_due}
use Rattle.atpg_top.proofs.ScanLemmas.{one_left, two_read}
use Rattle.atpg_top.proofs.scanning.ordered_work.Goals as goal

pub in_order-requires-clause-count : goal.in_order-requires-clause-count
in_order-requires-clause-count c = two_read c.args.order (length c.args.texts.items) c.requires.count

pub work-requires-clause-count : goal.work-requires-clause-count
work-requires-clause-count c = one_left (option_map (λ t. t.now) c.args.order) c.args.chains c.args.texts.items c.in-Ok.ordered c.in-Ok.ensures.ordered c.requires.count

pub returns-in-Ok : goal.returns-in-Ok
returns-in-Ok c =
    ordered_worked scan_due 1 (option_map (λ t. t.now) c.args.order) c.args.chains (texts_of c.args.texts.items) c.in-Ok.ordered c.work.result c.in-Ok.ensures.ordered c.work.ensures

pub returns-in-Err : goal.returns-in-Err
returns-in-Err c = ordered_stopped scan_due 1 (option_map (λ t. t.now) c.args.order) c.args.chains (texts_of c.args.texts.items) c.in-Err.stop c.in-Err.ensures.ordered
