use Rattle.std.proofs.Common.{ℕ, List, ap, ◌∙◌, arith}
use Rattle.scan_insert.specs.Chains.{chains_of}
use Rattle.netlist.proofs.Settling.{cells_distinct}
use Rattle.command_steps.proofs.Cells.{few_cells}
use Rattle.command_steps.proofs.design.scanned_of.Goals as goal

pub stitch-requires-clause-few : goal.stitch-requires-clause-few
stitch-requires-clause-few c =
    let few = few_cells c.args.netlist.now c.cells.result.now c.cells.ensures in
    let small = c.requires.design.small in
    omega arith

pub stitch-requires-clause-distinct : goal.stitch-requires-clause-distinct
stitch-requires-clause-distinct c = cells_distinct c.args.netlist.now c.sound.ensures.formed.numbered c.cells.result.now c.cells.ensures

pub insert-requires-clause-chains : goal.insert-requires-clause-chains
insert-requires-clause-chains c =
    record { asked = c.args.asked; some = c.requires.some; are = c.in_ok-chains.ensures ∙ ap (λ (ids : List ℕ). chains_of ids c.args.asked) c.cells.ensures }
