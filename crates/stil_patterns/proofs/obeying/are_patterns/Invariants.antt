use Rattle.std.proofs.Common.{take}
use Rattle.std.specs.List.{All}
use Rattle.cubes.specs.Cubes.{IsPatternOf}
use Rattle.stil_patterns.proofs.obeying.are_patterns.Given as goal

abbrev pub invariant-loop-pattern : goal.invariant-loop-pattern
invariant-loop-pattern l = All (IsPatternOf l.netlist l.holds) (take l.pattern-index l.patterns)
