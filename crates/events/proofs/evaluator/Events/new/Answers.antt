use Rattle.std.proofs.Common.{subst, arith}
use Rattle.netlist.specs.Conditions.{IsSound}
use Rattle.netlist.proofs.Orders.{gates_few}
use Rattle.events.proofs.evaluator.Events.new.Goals as goal

pub new-requires : goal.new-requires
new-requires g c =
    let n = c.args.core.now in
    let sound : IsSound n = subst IsSound c.netlist.ensures c.sound.ensures in
    let few = gates_few n sound.formed.numbered c.in_ok-tables.tables.order.items c.in_ok-tables.ensures.ordered in
    let small = sound.sized.small in
    let count = c.len.ensures in
    let size = c.in_ok-tables.tables.order.ok.0 in
    omega arith
