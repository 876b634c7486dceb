-- Three values of which no fewer are known.
use Rattle.std.specs.Prelude.{Bool, true, List, IsTrue}
use Rattle.std.specs.List.{AllZip}
use Rattle.statement.specs.declared.kinds.Tri.{Tri}
use Rattle.statement.specs.declared.kinds.Tri.TheVariants.{Zero, One, X}
use Rattle.netlist.specs.ThreeValues.{is_zero, is_one}

-- the value may stand where the first one does: X allows each
abbrev pub allows_tri : Tri → Tri → Bool
allows_tri Zero w = is_zero w
allows_tri One w = is_one w
allows_tri X w = true

abbrev pub AreAllowedTris : List Tri → List Tri → Type 0
AreAllowedTris values others = AllZip (λ v w. IsTrue (allows_tri v w)) values others
