use Rattle.std.proofs.Common.{◌≡◌, length}
use Rattle.std.specs.List.{All}
use Rattle.cubes.specs.Cubes.{IsCubeOf, IsPatternOf}
use Rattle.run_files.proofs.drawing.drawn_batch.Given as goal

abbrev pub invariant-loop-drawn : goal.invariant-loop-drawn
invariant-loop-drawn g l = record {
  count : length l.patterns.items ≡ l._drawn;
  obey : (n : _) (holds : _) → IsCubeOf n holds l.cube → All (IsPatternOf n holds) l.patterns.items;
}
