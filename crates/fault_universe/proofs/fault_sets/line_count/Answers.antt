use Rattle.std.proofs.Common.{◌∙◌, ◌<◌, ap, take, length, length-append, arith}
use Rattle.std.specs.List.{flat_map}
use Rattle.statement.specs.Netlists.{signals}
use Rattle.statement.specs.Faults.{lines_of}
use Rattle.fault_universe.proofs.LineLists.{one_more, room}
use Rattle.fault_universe.proofs.fault_sets.line_count.Goals as goal

pub overflow_add-count-in-loop-x : goal.overflow_add-count-in-loop-x
overflow_add-count-in-loop-x c =
    let n = c.args.netlist.now in
    let within : c.loop-x.x < length (signals n) = omega arith in
    let h = room n c.sound.ensures.formed.numbered (lines_of n) c.loop-x.x within in
    let e = ap length c.branches.ensures in
    let i = c.loop-x.invariant in
    omega arith

pub loop-x-preserved : goal.loop-x-preserved
loop-x-preserved c =
    let n = c.args.netlist.now in
    let within : c.loop-x.x < length (signals n) = omega arith in
    let e = ap length c.branches.ensures in
    let i = c.loop-x.invariant in
    let more = ap length (one_more n c.sound.ensures.formed.numbered (lines_of n) c.loop-x.x within)
    ∙ length-append (flat_map (lines_of n) (take c.loop-x.x (signals n))) (lines_of n c.loop-x.x) in
    omega arith
