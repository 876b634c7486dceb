-- Files and netlists that fit together.
use Rattle.std.specs.Prelude.{ℕ, ◌≡◌, ◌+◌, ◌↔◌, List, [], ◌++◌, length, map}
use Rattle.statement.specs.Netlists.{Netlist, cells, name_of}
use Rattle.statement.specs.Runs.{output_name, Cycle}
use Rattle.statement.specs.Stils.{StilFile, scan_inputs, scan_outputs}

-- The inputs and the scan inputs are the netlist's inputs, the outputs and the scan outputs the pins of its outputs, in order, and there are chains exactly where there are cells.
pub record FitsNetlist (f : StilFile) (n : Netlist) : Type 0 where
  pub inputs : f.pi ++ scan_inputs f ≡ map (name_of n) n.inputs
  pub outputs : f.po ++ scan_outputs f ≡ map (output_name n) n.outputs
  pub chains : (length f.chains ≡ 0) ↔ (length (cells n) ≡ 0)

-- a bit for each input of the file, and a strobe for each output
pub record IsCycleFor (f : StilFile) (c : Cycle) : Type 0 where
  pub drive : length c.drive ≡ length f.pi + length f.chains
  pub strobe : length c.strobe ≡ length f.po + length f.chains
