use Rattle.std.proofs.Common.{◌≡◌, ℕ, List, ap, ◌∙◌, arith}
use Rattle.std.proofs.lemmas.Result.{IfOk-weaker}
use Rattle.scan_insert.specs.Chains.{chains_of}
use Rattle.netlist.proofs.Settling.{cells_distinct}
use Rattle.command_steps.proofs.Cells.{few_cells}
use Rattle.good_files.specs.ScanOff.{design_chains}
use Rattle.test_commands.proofs.grading.chains_by.Goals as goal

pub stitch-requires-clause-few : goal.stitch-requires-clause-few
stitch-requires-clause-few c =
    let few = few_cells c.args.netlist.now c.cells.result.now c.cells.ensures in
    let small = c.requires.design.small in
    omega arith

pub stitch-requires-clause-distinct : goal.stitch-requires-clause-distinct
stitch-requires-clause-distinct c = cells_distinct c.args.netlist.now c.sound.ensures.formed.numbered c.cells.result.now c.cells.ensures

pub returns : goal.returns
returns c =
    let n = c.args.netlist.now in
    IfOk-weaker c.stitch.result (λ (chains : List (List ℕ)). chains ≡ chains_of c.cells.result.now c.args.asked) (λ (chains : List (List ℕ)). chains ≡ design_chains n c.args.asked)
    (λ (chains : List (List ℕ)) made. made ∙ ap (λ (ids : List ℕ). chains_of ids c.args.asked) c.cells.ensures)
    c.stitch.ensures
