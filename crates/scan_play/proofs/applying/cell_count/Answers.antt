use Rattle.std.proofs.Common.{length, map, ◌∙◌, ap, subst, arith}
use Rattle.std.proofs.lemmas.List.{length-map}
use Rattle.statement.specs.Netlists.{Netlist, Definition, cells}
use Rattle.netlist.specs.Conditions.{IsSound}
use Rattle.scan_play.proofs.Widths.{cells_count}
use Rattle.scan_play.proofs.ApplyLemmas.{few_cells}
use Rattle.scan_play.proofs.applying.cell_count.Goals as goal

pub returns-clause-count : goal.returns-clause-count
returns-clause-count c =
    ap length c.cells.ensures ∙ (ap (λ (m : Netlist). length (map (λ (d : Definition). d.id) (cells m))) c.netlist-2.ensures
    ∙ (length-map (cells c.args.core.now) (λ (d : Definition). d.id) ∙ cells_count c.args.core.now c.args.chains.now c.requires))

pub returns-clause-cells : goal.returns-clause-cells
returns-clause-cells c = cells_count c.args.core.now c.args.chains.now c.requires

pub returns-clause-few : goal.returns-clause-few
returns-clause-few c = let few = few_cells c.args.core.now (subst IsSound c.netlist.ensures c.sound.ensures) in omega arith
