-- Which patterns have the bits of cubes.
use Rattle.std.specs.Prelude.{◌≡◌, ◌++◌, List}
use Rattle.std.specs.List.{Contains}
use Rattle.cubes.specs.Cubes.{Cube, AgreesWith}
use Rattle.statement.specs.Patterns.{Pattern}

-- some pattern has the bits of the cube
abbrev pub HasAgreeing : List Pattern → Cube → Type 0
HasAgreeing patterns c = (p : Pattern) × Contains patterns p × AgreesWith p c

-- these patterns stand before others
abbrev pub BeginsWith : List Pattern → List Pattern → Type 0
BeginsWith batch patterns = (others : List Pattern) × (patterns ≡ batch ++ others)
