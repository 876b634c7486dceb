-- The cube of a test: its own evidence.
use Rattle.statement.specs.declared.lines.Fault.{Fault}
use Rattle.statement.specs.declared.lines.Point.{Point}
use Rattle.statement.specs.Netlists.{Netlist}
use Rattle.statement.specs.Patterns.{Holds, Detects, Pattern}
use Rattle.cubes.specs.Cubes.{Cube, AgreesWith, IsCubeOf}

-- a cube of the netlist that has the bits of the held inputs, and every pattern that agrees with it detects the fault at the point
pub record IsTestCube (f : Fault) (n : Netlist) (holds : Holds) (cube : Cube) (point : Point) : Type 0 where
  pub is_cube : IsCubeOf n holds cube
  pub detects : (p : Pattern) → AgreesWith p cube → Detects n f p.inputs p.cells point
