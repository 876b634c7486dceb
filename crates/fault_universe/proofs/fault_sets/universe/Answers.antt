use Rattle.std.proofs.Common.{ap, length, arith}
use Rattle.fault_universe.specs.Universe.{all_lines}
use Rattle.fault_universe.proofs.FaultLists.{length-faults}
use Rattle.fault_universe.proofs.fault_sets.universe.Goals as goal

pub lines-requires : goal.lines-requires
lines-requires c =
    let h = length-faults (all_lines c.args.netlist.now) in
    let r = c.requires in
    omega arith

pub invariant_of-result : goal.invariant_of-result
invariant_of-result c =
    let h = length-faults (all_lines c.args.netlist.now) in
    let r = c.requires in
    let e = ap length c.in-Ok.ensures in
    omega arith
