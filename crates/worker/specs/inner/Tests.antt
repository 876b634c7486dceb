-- Tests that aren't published yet.
use Rattle.std.specs.Prelude.{List}
use Rattle.std.specs.List.{All}
use Rattle.cubes.specs.Cubes.{IsCubeOf}
use Rattle.list_core.specs.Subjects.{Subject}
use Rattle.worker.specs.declared.hands.Test.{Test}

-- the cube of each is one of the netlist and obeys the held inputs
abbrev pub AreTestsOf : Subject → List Test → Type 0
AreTestsOf j tests = All (λ (t : Test). IsCubeOf j.netlist j.holds t.cube) tests
