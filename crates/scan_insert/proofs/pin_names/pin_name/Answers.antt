use Rattle.scan_insert.proofs.Ready.{output_below}
use Rattle.scan_insert.proofs.pin_names.pin_name.Goals as goal

pub name_at_output-requires-clause-within : goal.name_at_output-requires-clause-within
name_at_output-requires-clause-within c =
    output_below c.args.netlist.now c.sound.ensures c.args.output c.index-outputs-output.result c.outputs.result.now c.outputs.ensures c.requires c.index-outputs-output.is
