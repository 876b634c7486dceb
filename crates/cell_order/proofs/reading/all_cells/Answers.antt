use Rattle.std.proofs.Common.{◌≡◌, ◌+◌, ℕ, Bool, List, length, ap, sym, subst, arith}
use Rattle.std.specs.List.{All, Contains}
use Rattle.statement.specs.Netlists.{Definition, Netlist, signals}
use Rattle.netlist.proofs.Placed.{signals_length}
use Rattle.netlist.proofs.Settling.{cells_below}
use Rattle.scan_insert.specs.Scanned.{cell_ids}
use Rattle.cell_order.specs.Orders.{AreCells}
use Rattle.cell_order.specs.inner.Reads.{AreMarked, texts_in}
use Rattle.cell_order.proofs.WholeLemmas.{all_of}
use Rattle.cell_order.proofs.reading.all_cells.Goals as goal

pub marks_of-requires : goal.marks_of-requires
marks_of-requires c =
    let n = c.args.netlist.now in
    let size : length c.inputs.result.now + length c.definitions.result.now ≡ length (signals n) =
    (let a = ap (λ (xs : List ℕ). length xs) c.inputs.ensures in
    let b = ap (λ (ds : List Definition). length ds) c.definitions.ensures in
    let s = signals_length n in
    omega arith) in
    cells_below n c.sound.ensures.formed.numbered c.cells.result.now (length c.inputs.result.now + length c.definitions.result.now) c.cells.ensures size

pub cells_named-requires-clause-cells : goal.cells_named-requires-clause-cells
cells_named-requires-clause-cells c =
    let items = c.in-Ok-marks_of.is_cell.items in
    subst (λ (ms : List Bool). AreMarked (cell_ids c.in-Ok.names) ms) (sym c.as_slice.ensures.value)
    (subst (λ (m : Netlist). AreMarked (cell_ids m) items) (sym c.in-Ok.ensures) (subst (λ (xs : List ℕ). AreMarked xs items) c.cells.ensures c.in-Ok-marks_of.ensures.marks))

pub complete-requires-clause-cells : goal.complete-requires-clause-cells
complete-requires-clause-cells c =
    subst (λ (m : Netlist). All (Contains (cell_ids m)) c.in-Ok-cells_named.order.items) c.in-Ok.ensures c.in-Ok-cells_named.ensures.cells

pub returns : goal.returns
returns c =
    let names = texts_in c.args.texts.now in
    all_of c.args.netlist.now names c.in-Ok-cells_named.order
    (subst (λ (m : Netlist). AreCells m names c.in-Ok-cells_named.order.items) c.in-Ok.ensures c.in-Ok-cells_named.ensures) c.complete.result c.complete.ensures
