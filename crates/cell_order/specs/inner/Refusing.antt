-- Why names are not those of cells, and why cells are not all, each once.
use Rattle.std.specs.Prelude.{ℕ, ◌≢◌, List}
use Rattle.std.specs.List.{All, AllPairs, Contains}
use Rattle.statement.specs.Netlists.{Netlist}
use Rattle.statement.specs.Benches.{Text}
use Rattle.scan_insert.specs.Scanned.{cell_ids}
use Rattle.cell_order.specs.Orders.{IsLeftOut, IsStranger, IsTwice}
use Rattle.cell_order.specs.declared.refusal.OrderRefusal.{OrderRefusal}
use Rattle.cell_order.specs.declared.refusal.OrderRefusal.TheVariants.{NotCell, Twice, LeftOut}

abbrev pub HasStranger : Netlist → List Text → OrderRefusal → Type 0
HasStranger n names (NotCell number) = IsStranger n names number
HasStranger n names _ = ⊥

pub record IsComplete (n : Netlist) (order : List ℕ) : Type 0 where
  pub once : AllPairs (λ x y. x ≢ y) order
  pub all : All (Contains order) (cell_ids n)

abbrev pub IsIncomplete : Netlist → List ℕ → OrderRefusal → Type 0
IsIncomplete n order (Twice number) = IsTwice order number
IsIncomplete n order (LeftOut number) = AllPairs (λ x y. x ≢ y) order × IsLeftOut n order number
IsIncomplete n order _ = ⊥
