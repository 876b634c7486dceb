use Rattle.std.proofs.Common.{◌≤◌, length}
use Rattle.statement.specs.Netlists.{Definition as Equation}
use Rattle.netlist.specs.Conditions.{whole}
use Rattle.netlist.proofs.Lists.{All-from_contains}
use Rattle.netlist.proofs.WellFormed.{few_pins_of}
use Rattle.netlist.proofs.Sorting.{start_room, started}
use Rattle.netlist.proofs.order.Placing.start.Goals as goal

pub returns-clause-room : goal.returns-clause-room
returns-clause-room c =
    start_room (whole c.args.parts.now) _ c.in_ok-with_capacity.ensures.items c.in_ok-start_ranks.ensures c.in_ok-start_counts.ensures c.requires.numbered c.requires.small

pub returns-clause-started : goal.returns-clause-started
returns-clause-started c =
    started (whole c.args.parts.now) _ c.in_ok-with_capacity.ensures.items c.in_ok-start_ranks.ensures c.in_ok-start_counts.ensures c.requires.numbered

pub start_counts-requires : goal.start_counts-requires
start_counts-requires c =
    let n = whole c.args.parts.now in
    All-from_contains (λ (d : Equation). length d.pins ≤ 1024) n.definitions (few_pins_of n c.requires.closed)
