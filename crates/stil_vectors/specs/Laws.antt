-- Laws of a file's vectors.
use Rattle.std.specs.Prelude.{ℕ, ◌≡◌, List}
use Rattle.std.specs.List.{All}
use Rattle.statement.specs.Netlists.{Netlist}
use Rattle.statement.specs.Patterns.{Holds, Pattern}
use Rattle.statement.specs.Tests.{Response, vectors_in}
use Rattle.scan_play.specs.Vectors.{vectors}
use Rattle.scan_play.specs.Cycles.{IsCycleOf}
use Rattle.stil_write.specs.StilFiles.{IsStilFile}
use Rattle.statement.specs.Stils.{StilFile}
use Rattle.stil_vectors.specs.Fitting.{FitsNetlist}
use Rattle.stil_vectors.specs.TestFiles.{test_file}

-- a file that fits a netlist has vectors of its widths
abbrev pub FittingCycles : Type 0
FittingCycles = (f : StilFile) (n : Netlist) → IsStilFile f → FitsNetlist f n → All (IsCycleOf n) (vectors_in f)

-- The file of a test has the vectors of the test.
abbrev pub TestVectors : Type 0
TestVectors =
    (n : Netlist) (holds : Holds) (chains : List (List ℕ)) (tests : List (Pattern × Response)) → vectors_in (test_file n holds chains tests) ≡ vectors n holds chains tests
