use Rattle.std.proofs.Common.{length, map, option_map, subst, sym}
use Rattle.commands.specs.Names.{texts_of}
use Rattle.command_line.specs.CommandLine.{AreInRunRange, hold_of}
use Rattle.command_line.specs.declared.requests.RunOptions.{RunOptions}
use Rattle.commands.specs.Worked.{IsWorked}
use Rattle.command_steps.proofs.OrderLemmas.{ordered_stopped, ordered_worked}
use Rattle.asked_run.specs.Asked.{run_due, with_chains}
use Rattle.asked_run.proofs.OrderLemmas.{in_range, left_over, two_texts}
use Rattle.asked_run.proofs.running.ordered_work.Goals as goal

pub in_order-requires-clause-count : goal.in_order-requires-clause-count
in_order-requires-clause-count g c =
    two_texts c.args.names.order (option_map (λ t. t.now) c.args.names.list) (option_map (λ t. t.now) c.args.names.first) (length c.args.texts.items) c.requires.count

pub work-requires-clause-count : goal.work-requires-clause-count
work-requires-clause-count g c κs within =
    left_over (option_map (λ t. t.now) c.args.names.order) (option_map (λ t. t.now) c.args.names.list) (option_map (λ t. t.now) c.args.names.first) c.args.options.numbers.chains c.args.texts.items c.in-Ok.ordered
    c.in-Ok.ensures.ordered c.requires.count

pub work-requires-clause-range : goal.work-requires-clause-range
work-requires-clause-range g c κs within =
    subst (λ (o : RunOptions). AreInRunRange o) (sym c.with_chains-options.ensures) (in_range c.args.options c.in-Ok.ordered.chains c.requires.range c.in-Ok.ensures.range)

pub returns-in-Ok : goal.returns-in-Ok
returns-in-Ok g c =
    let list = option_map (λ t. t.now) c.args.names.list in
    let first = option_map (λ t. t.now) c.args.names.first in
    let named = map hold_of c.args.named.now in
    ordered_worked (λ chains. run_due list first (with_chains c.args.options chains) named) 5 (option_map (λ t. t.now) c.args.names.order) c.args.options.numbers.chains (texts_of c.args.texts.items)
    c.in-Ok.ordered c.work.result c.in-Ok.ensures.ordered
    (subst (λ (o : RunOptions). IsWorked (run_due list first o named (texts_of c.in-Ok.ordered.texts.items)) 5 c.work.result) c.with_chains-options.ensures c.work.ensures)

pub returns-in-Err : goal.returns-in-Err
returns-in-Err g c =
    let list = option_map (λ t. t.now) c.args.names.list in
    let first = option_map (λ t. t.now) c.args.names.first in
    ordered_stopped (λ chains. run_due list first (with_chains c.args.options chains) (map hold_of c.args.named.now)) 5 (option_map (λ t. t.now) c.args.names.order) c.args.options.numbers.chains
    (texts_of c.args.texts.items) c.in-Err.stop c.in-Err.ensures.ordered
