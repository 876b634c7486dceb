use Rattle.std.proofs.Common.{ℕ, ◌<◌, get_or}
use Rattle.cubes.specs.Cubes.{HaveSameWidths}
use Rattle.netlist_calls.proofs.cubes_of.are_alike.Given as goal

abbrev pub invariant-loop-cube : goal.invariant-loop-cube
invariant-loop-cube l = (k : ℕ) → k < l.cube-index → HaveSameWidths l.first (get_or l.cubes k l.first)
