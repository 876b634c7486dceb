-- Observed points of a netlist.
use Rattle.std.specs.Prelude.{◌<◌, length}
use Rattle.statement.specs.declared.lines.Point.{Point}
use Rattle.statement.specs.declared.lines.Point.TheVariants.{Output, Cell}
use Rattle.statement.specs.Netlists.{Netlist, cells}

-- one of its outputs, or the pin of one of its cells
abbrev pub IsPointOf : Netlist → Point → Type 0
IsPointOf n (Output k) = k < length n.outputs
IsPointOf n (Cell q) = q < length (cells n)
