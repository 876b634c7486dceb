use Rattle.std.proofs.Common.{arith}
use Rattle.fault_collapse.proofs.Stems.{input_number, lines_within, more_lines}
use Rattle.fault_collapse.proofs.drivers.input_line_count.Goals as goal

pub branches-requires : goal.branches-requires
branches-requires c =
    let number = input_number c.args.netlist.now c.sound.ensures.formed.numbered c.inputs-x-items.result.now c.inputs-x-items.ensures c.loop-x.x-index c.x-item.result c.loop-x-test.true c.x-item.is in
    omega (arith, number.0, number.1)

pub overflow_add-count-in-loop-x : goal.overflow_add-count-in-loop-x
overflow_add-count-in-loop-x c =
    let n = c.args.netlist.now in
    let number = input_number n c.sound.ensures.formed.numbered c.inputs-x-items.result.now c.inputs-x-items.ensures c.loop-x.x-index c.x-item.result c.loop-x-test.true c.x-item.is in
    let h = lines_within n c.sound.ensures.formed.numbered c.loop-x.x-index c.x-item.result number.0 number.1 c.branches.result.now c.branches.ensures in
    let i = c.loop-x.invariant in
    omega arith

pub loop-x-preserved : goal.loop-x-preserved
loop-x-preserved c =
    let n = c.args.netlist.now in
    let number = input_number n c.sound.ensures.formed.numbered c.inputs-x-items.result.now c.inputs-x-items.ensures c.loop-x.x-index c.x-item.result c.loop-x-test.true c.x-item.is in
    let h = more_lines n c.sound.ensures.formed.numbered c.loop-x.x-index c.x-item.result number.0 number.1 c.branches.result.now c.branches.ensures in
    let i = c.loop-x.invariant in
    omega arith
