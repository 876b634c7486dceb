-- What the labels at some observed points tell.
use Rattle.std.specs.Prelude.{◌≡◌, ◌⊎◌, Bool, true, false, List, IsTrue, IsFalse}
use Rattle.std.specs.List.{All, Contains}
use Rattle.tri.specs.declared.labels.Label.{Label}
use Rattle.tri.specs.Paths.{HaveNoEffect, IsFirstEffect, IsFirstPoint}
use Rattle.pair_sim.specs.declared.points.PointsSight.{PointsSight}
use Rattle.pair_sim.specs.declared.points.PointsSight.TheVariants.{Effect, Differs, Same}
use Rattle.pair_sim.specs.declared.states.State.{State}
use Rattle.pair_sim.specs.declared.states.State.TheVariants.{Test, Blocked, Going}

-- the first point at which the fault has an effect; else whether some point may differ
abbrev pub IsSight : List Label → PointsSight → Type 0
IsSight labels (Effect k) = IsFirstEffect labels k
IsSight labels Differs = HaveNoEffect labels × ((l : Label) × Contains labels l × IsTrue l.may_differ)
IsSight labels Same = HaveNoEffect labels × All (λ (l : Label). IsFalse l.may_differ) labels

abbrev pub MayNot : List Label → Type 0
MayNot labels = All (λ (l : Label). IsFalse l.may_differ) labels

abbrev pub SomeMay : List Label → Type 0
SomeMay labels = (l : Label) × Contains labels l × IsTrue l.may_differ

-- where a path stands, from whether a decision is contradicted, and the labels at outputs and at cells' pins
abbrev pub IsStateOf : Bool → List Label → List Label → State → Type 0
IsStateOf contradicted outputs cells (Test point) = (contradicted ≡ false) × IsFirstPoint outputs cells point
IsStateOf contradicted outputs cells Blocked = (contradicted ≡ true) ⊎ (MayNot outputs × MayNot cells)
IsStateOf contradicted outputs cells Going = (contradicted ≡ false) × HaveNoEffect outputs × HaveNoEffect cells × (SomeMay outputs ⊎ SomeMay cells)
