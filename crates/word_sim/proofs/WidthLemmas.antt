-- Patterns of a netlist have its widths.
use Rattle.std.proofs.Common.{List}
use Rattle.std.specs.List.{All}
use Rattle.statement.specs.Netlists.{Netlist}
use Rattle.statement.specs.Patterns.{Holds, Pattern}
use Rattle.cubes.specs.Cubes.{IsPatternOf}
use Rattle.word_sim.specs.Words.{HasWidthsOf}

pub widths : (n : Netlist) (holds : Holds) (patterns : List Pattern) → All (IsPatternOf n holds) patterns → All (HasWidthsOf n) patterns
widths n holds patterns all k d lt = let p = all k d lt in record { inputs = p.inputs; cells = p.cells }
