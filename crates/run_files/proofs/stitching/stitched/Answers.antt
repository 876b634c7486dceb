use Rattle.std.proofs.Common.{◌≡◌, ℕ, List, length, ap, ◌∙◌, arith}
use Rattle.std.proofs.lemmas.List.{length-map}
use Rattle.std.proofs.lemmas.Result.{IfOk-weaker}
use Rattle.statement.specs.Netlists.{Definition, cells}
use Rattle.netlist.proofs.Settling.{cells_distinct}
use Rattle.scan_insert.specs.Chains.{chains_of}
use Rattle.scan_play.proofs.ApplyLemmas.{few_cells}
use Rattle.good_files.specs.ScanOff.{design_chains}
use Rattle.run_files.proofs.stitching.stitched.Goals as goal

pub stitch-requires-clause-few : goal.stitch-requires-clause-few
stitch-requires-clause-few c =
    let n = c.args.netlist.now in
    omega (arith, few_cells n c.sound.ensures, ap length c.cells.ensures, length-map (cells n) (λ (d : Definition). d.id))

pub stitch-requires-clause-distinct : goal.stitch-requires-clause-distinct
stitch-requires-clause-distinct c = cells_distinct c.args.netlist.now c.sound.ensures.formed.numbered c.cells.result.now c.cells.ensures

pub returns : goal.returns
returns c =
    let n = c.args.netlist.now in
    IfOk-weaker c.stitch.result (λ (chains : List (List ℕ)). chains ≡ chains_of c.cells.result.now c.args.asked) (λ (chains : List (List ℕ)). chains ≡ design_chains n c.args.asked)
    (λ (chains : List (List ℕ)) made. made ∙ ap (λ (ids : List ℕ). chains_of ids c.args.asked) c.cells.ensures)
    c.stitch.ensures
