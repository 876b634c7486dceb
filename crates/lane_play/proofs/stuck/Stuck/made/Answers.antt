use Rattle.std.proofs.Common.{map, ◌∙◌}
use Rattle.netlist.specs.Settled.{at}
use Rattle.lane_play.specs.inner.Lanes.{unknown}
use Rattle.lane_play.proofs.Stuckness.{any_fault, free_made}
use Rattle.lane_play.proofs.stuck.Stuck.made.Goals as goal

pub returns-then-is_empty : goal.returns-then-is_empty
returns-then-is_empty c =
    c.gate_of.ensures
    ∙ free_made c.args.self.now.faults.now c.args.id c.span-span.result c.span-span.ensures (c.is_empty.ensures.empty c.if-is_empty.true) any_fault c.args.kind
    (map (at c.args.values.now unknown) c.args.pins.now)
