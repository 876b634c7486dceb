use Rattle.std.specs.List.{All}
use Rattle.cubes.specs.Cubes.{IsPatternOf}
use Rattle.run_files.proofs.near.all_near_tests.Given as goal

abbrev pub invariant-loop-k : goal.invariant-loop-k
invariant-loop-k g l = All (IsPatternOf l.turning.core.now l.turning.holds.now) l.all.items
