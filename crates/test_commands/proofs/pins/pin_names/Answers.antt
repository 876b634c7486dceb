use Rattle.std.proofs.Common.{arith}
use Rattle.stil_vectors.proofs.FitLemmas.{output_small}
use Rattle.test_commands.proofs.pins.pin_names.Goals as goal

pub overflow_cast-output : goal.overflow_cast-output
overflow_cast-output c =
    let small = output_small c.args.netlist.now c.loop-output.output c.outputs-output-end.result.now c.sound.ensures c.outputs-output-end.ensures c.loop-output-test.true in
    omega (arith, small)
