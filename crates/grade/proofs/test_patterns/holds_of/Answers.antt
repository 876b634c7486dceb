use Rattle.std.proofs.Common.{length, ap, arith}
use Rattle.netlist.proofs.Placed.{signals_length}
use Rattle.grade.proofs.test_patterns.holds_of.Goals as goal

pub overflow_cast-k : goal.overflow_cast-k
overflow_cast-k c =
    let count = ap length c.inputs-count.ensures in
    let all = signals_length c.netlist-netlist.result.now in
    let small = c.sound.ensures.sized.small in
    omega (arith, c.loop-k-test.true, c.min-k-end.ensures, count, all, small)
