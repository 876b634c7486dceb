use Rattle.std.proofs.Common.{arith}
use Rattle.netlist.proofs.Settling.{cells_distinct}
use Rattle.command_steps.proofs.Cells.{few_cells}
use Rattle.asked_run.proofs.asking.chains_of_file.Goals as goal

pub overflow_cast-asked : goal.overflow_cast-asked
overflow_cast-asked c =
    let few = few_cells c.args.netlist.now c.cells-cells.result.now c.cells-cells.ensures in
    let small = c.requires.small in
    let least = c.min.ensures in
    let most = c.max-asked.ensures in
    omega arith

pub stitch-requires-clause-few : goal.stitch-requires-clause-few
stitch-requires-clause-few c =
    let few = few_cells c.args.netlist.now c.cells-cells.result.now c.cells-cells.ensures in
    let small = c.requires.small in
    omega arith

pub stitch-requires-clause-distinct : goal.stitch-requires-clause-distinct
stitch-requires-clause-distinct c = cells_distinct c.args.netlist.now c.sound.ensures.formed.numbered c.cells-cells.result.now c.cells-cells.ensures
