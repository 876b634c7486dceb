use Rattle.std.proofs.Common.{take}
use Rattle.cell_order.specs.Orders.{AreCells}
use Rattle.cell_order.specs.inner.Reads.{texts_in}
use Rattle.cell_order.proofs.naming.cells_named.Given as goal

abbrev pub invariant-loop-place : goal.invariant-loop-place
invariant-loop-place l = AreCells l.names (texts_in (take l.place l.texts)) l.order.items
