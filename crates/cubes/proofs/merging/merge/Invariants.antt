use Rattle.std.proofs.Common.{◌≤◌, length}
use Rattle.cubes.specs.Merging.{AreMerged}
use Rattle.cubes.proofs.merging.merge.Given as goal

abbrev pub invariant-loop-cube : goal.invariant-loop-cube
invariant-loop-cube l = record {
  merged : AreMerged l.cubes l.results.items l.cube-index;
  few : length l.results.items ≤ l.cube-index;
}
