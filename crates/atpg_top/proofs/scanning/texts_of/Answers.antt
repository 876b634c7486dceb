use Rattle.std.proofs.Common.{◌≡◌, ℕ, List, ap, ◌∙◌, length, refl, arith}
use Rattle.statement.specs.Benches.{canonical}
use Rattle.scan_insert.specs.Chains.{chains_of}
use Rattle.scan_insert.specs.Scanned.{scanned_of}
use Rattle.good_files.specs.ScanOff.{design_chains}
use Rattle.netlist.proofs.Settling.{cells_distinct}
use Rattle.command_steps.proofs.Cells.{few_cells}
use Rattle.atpg_top.proofs.ScanLemmas.{cell_count, line_same}
use Rattle.good_files.proofs.Chains.{behaves}
use Rattle.atpg_top.proofs.scanning.texts_of.Goals as goal

pub stitch-requires-clause-few : goal.stitch-requires-clause-few
stitch-requires-clause-few c =
    let few = few_cells c.args.netlist.now c.cells.result.now c.cells.ensures in
    let small = c.requires.design.small in
    omega arith

pub stitch-requires-clause-distinct : goal.stitch-requires-clause-distinct
stitch-requires-clause-distinct c = cells_distinct c.args.netlist.now c.sound.ensures.formed.numbered c.cells.result.now c.cells.ensures

pub scanned_text-requires-clause-chains : goal.scanned_text-requires-clause-chains
scanned_text-requires-clause-chains c =
    record { asked = c.args.asked; some = c.requires.some; are = c.in_ok-chains.ensures ∙ ap (λ (ids : List ℕ). chains_of ids c.args.asked) c.cells.ensures }

pub returns-in-Ok : goal.returns-in-Ok
returns-in-Ok c =
    let n = c.args.netlist.now in
    let chains_are : c.in_ok-chains.chains ≡ design_chains n c.args.asked =
    c.in_ok-chains.ensures ∙ ap (λ (ids : List ℕ). chains_of ids c.args.asked) c.cells.ensures in
    record {
      text_is = c.in_ok-text.ensures ∙ ap (λ (chains : List (List ℕ)). canonical (scanned_of n chains)) chains_are;
      line_is = c.in-Ok.ensures ∙ line_same n (design_chains n c.args.asked) (length c.cells-cells.result.now) c.count-count.result
          (cell_count n c.cells-cells.result.now c.cells-cells.ensures) (c.count-count.ensures ∙ ap length chains_are);
      behaves = behaves c.scan_behaves.ensures n c.args.asked c.sound.ensures (record { asked = c.args.asked; some = c.requires.some; are = refl }) (design_chains n c.args.asked) refl;
    }
