use Rattle.std.proofs.Common.{arith}
use Rattle.unknown_inputs.proofs.Making.{known_few}
use Rattle.unknown_inputs.proofs.opening.opened_with_numbers.Goals as goal

pub overflow_cast-len : goal.overflow_cast-len
overflow_cast-len c =
    let few = known_few c.args.netlist.now c.requires c.args.unknown.now c.inputs-inputs.result.now c.in_ok-known.known.items c.inputs-inputs.ensures c.in_ok-known.ensures in
    let size = c.in_ok-known.known.ok.0 in
    let len = c.len.ensures in
    omega arith

pub input_numbers-requires : goal.input_numbers-requires
input_numbers-requires c =
    let few = known_few c.args.netlist.now c.requires c.args.unknown.now c.inputs-inputs.result.now c.in_ok-known.known.items c.inputs-inputs.ensures c.in_ok-known.ensures in
    let size = c.in_ok-known.known.ok.0 in
    let len = c.len.ensures in
    omega arith
