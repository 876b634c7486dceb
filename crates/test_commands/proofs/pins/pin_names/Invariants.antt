use Rattle.std.proofs.Common.{◌≡◌, map, take}
use Rattle.statement.specs.Runs.{output_name}
use Rattle.test_commands.proofs.pins.pin_names.Given as goal

abbrev pub invariant-loop-output : goal.invariant-loop-output
invariant-loop-output l = l.names ≡ map (output_name l.netlist) (take l.output l.netlist.outputs)
