-- When a batch of patterns and hits is true.
use Rattle.std.specs.Prelude.{◌≢◌, List}
use Rattle.std.specs.List.{All, AllPairs}
use Rattle.statement.specs.Patterns.{Pattern}
use Rattle.cubes.specs.Cubes.{IsPatternOf}
use Rattle.word_sim.specs.declared.batches.Hit.{Hit}
use Rattle.word_sim.specs.Hits.{Batch}
use Rattle.list_core.specs.Subjects.{Subject, DetectsClass}

-- the hit's pattern detects the fault of the hit's class at the hit's point
abbrev pub IsTrueHit : Subject → List Pattern → Hit → Type 0
IsTrueHit j patterns h = DetectsClass j patterns h.class h.pattern h.point

-- all patterns are of the netlist and obey the held inputs, each hit is true, and no class is hit twice
pub record IsTrueBatch (j : Subject) (b : Batch) : Type 0 where
  pub patterns : All (IsPatternOf j.netlist j.holds) b.patterns
  pub hits : All (IsTrueHit j b.patterns) b.hits
  pub once : AllPairs (λ g h. g.class ≢ h.class) b.hits
