use Rattle.std.proofs.Common.{ℕ, ◌<◌}
use Rattle.cubes.specs.Cubes.{Contradicts}
use Rattle.cubes.specs.Merging.{cube_at}
use Rattle.cubes.proofs.merging.first_clear.Given as goal

abbrev pub invariant-loop-place : goal.invariant-loop-place
invariant-loop-place l = (p : ℕ) → p < l.place → Contradicts (cube_at l.results p) l.cube
