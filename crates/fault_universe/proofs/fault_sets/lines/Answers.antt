use Rattle.std.proofs.Common.{◌<◌, length, arith}
use Rattle.statement.specs.Netlists.{signals}
use Rattle.fault_universe.proofs.LineLists.{added}
use Rattle.fault_universe.proofs.fault_sets.lines.Goals as goal

pub loop-x-preserved : goal.loop-x-preserved
loop-x-preserved c =
    let n = c.args.netlist.now in
    let within : c.loop-x.x < length (signals n) = omega arith in
    let b = c.branches.ensures in
    let p = c.in_ok-push.ensures.items in
    let q = c.in_ok-extend_from_slice.ensures.items in
    let i = c.loop-x.invariant in
    added n c.sound.ensures.formed.numbered c.loop-x.x within _ _ _ _ i p b q
