use Rattle.std.proofs.Common.{◌≡◌, ◌++◌, drop}
use Rattle.cubes.specs.Filling.{filled_all, words_after_all}
use Rattle.cubes.proofs.filling.fill_all.Given as goal

abbrev pub invariant-loop-cube : goal.invariant-loop-cube
invariant-loop-cube g l = record {
  patterns : l.patterns.items ++ filled_all (drop l.cube-index l.cubes) (g.R.Rng.stream l.rng) ≡ filled_all l.cubes (g.R.Rng.stream l.initial.rng);
  left : words_after_all (drop l.cube-index l.cubes) (g.R.Rng.stream l.rng) ≡ words_after_all l.cubes (g.R.Rng.stream l.initial.rng);
}
