-- Files that set the known inputs of a netlist alone.
use Rattle.std.specs.Prelude.{◌≡◌, ◌↔◌, ◌++◌, length, map}
use Rattle.statement.specs.Netlists.{Netlist, cells, name_of}
use Rattle.statement.specs.Runs.{output_name}
use Rattle.statement.specs.Stils.{StilFile, scan_inputs, scan_outputs}
use Rattle.unknown_inputs.specs.Unknowns.{Unknowns, known_part}

-- The inputs and the scan inputs are the netlist's known inputs, the outputs and the scan outputs the pins of its outputs, in order, and there are chains
-- exactly where there are cells. An unknown input is no cell here, and an output that is one keeps its pin's name.
pub record FitsKnown (f : StilFile) (n : Netlist) (unknown : Unknowns) : Type 0 where
  pub inputs : f.pi ++ scan_inputs f ≡ map (name_of n) (known_part unknown n.inputs)
  pub outputs : f.po ++ scan_outputs f ≡ map (output_name n) n.outputs
  pub chains : (length f.chains ≡ 0) ↔ (length (cells n) ≡ 0)
