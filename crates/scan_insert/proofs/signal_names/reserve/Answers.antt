use Rattle.std.proofs.Common.{length, refl}
use Rattle.statement.specs.Netlists.{signals}
use Rattle.netlist.proofs.Settling.{cells_below}
use Rattle.scan_insert.proofs.signal_names.reserve.Goals as goal

pub bytes_of-requires-2 : goal.bytes_of-requires-2
bytes_of-requires-2 c =
    let n = c.args.netlist.now in
    cells_below n c.requires.formed.numbered c.cells-cells.result.now (length (signals n)) c.cells-cells.ensures refl
