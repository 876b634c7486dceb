use Rattle.std.proofs.Common.{length, ap, arith}
use Rattle.std.proofs.lemmas.List.{length-map}
use Rattle.statement.specs.Netlists.{Definition, cells}
use Rattle.netlist.proofs.Settling.{cells_distinct}
use Rattle.scan_play.proofs.ApplyLemmas.{few_cells}
use Rattle.check_parts.proofs.ChainLemmas.{stitched_as}
use Rattle.check_parts.proofs.scanning.scan_with.Goals as goal

pub stitch-requires-clause-few : goal.stitch-requires-clause-few
stitch-requires-clause-few c =
    let n = c.args.netlist.now in
    omega (arith, few_cells n c.sound.ensures, ap length c.cells.ensures, length-map (cells n) (λ (d : Definition). d.id))

pub stitch-requires-clause-distinct : goal.stitch-requires-clause-distinct
stitch-requires-clause-distinct c = cells_distinct c.args.netlist.now c.sound.ensures.formed.numbered c.cells.result.now c.cells.ensures

pub returns : goal.returns
returns c =
    stitched_as c.args.netlist.now c.args.count c.max.result c.cells.result.now c.in_ok-chains.chains c.in_ok-scanned.scanned c.requires.count c.max.ensures c.cells.ensures
    c.in_ok-chains.ensures c.in_ok-scanned.ensures
