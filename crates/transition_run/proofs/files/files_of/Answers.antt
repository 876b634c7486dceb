use Rattle.std.proofs.Common.{◌≡◌, ℕ, List, length, subst, ◌∙◌, ap, arith}
use Rattle.std.proofs.lemmas.List.{length-map}
use Rattle.netlist.specs.Conditions.{IsSound}
use Rattle.statement.specs.Netlists.{Definition, cells}
use Rattle.netlist.proofs.Settling.{cells_distinct}
use Rattle.scan_play.proofs.ApplyLemmas.{few_cells}
use Rattle.scan_insert.specs.Scanned.{cell_ids}
use Rattle.good_files.specs.ScanOff.{design_chains}
use Rattle.transition_run.specs.inner.Written.{IsWritten}
use Rattle.transition_run.proofs.FileLemmas.{are_chains, dealt}
use Rattle.transition_run.proofs.files.files_of.Goals as goal

pub stitch-requires-clause-few : goal.stitch-requires-clause-few
stitch-requires-clause-few g c =
    let n = c.netlist-netlist.result.now in
    omega (arith, few_cells n c.sound.ensures, ap length c.cells.ensures, length-map (cells n) (λ (d : Definition). d.id))

pub stitch-requires-clause-distinct : goal.stitch-requires-clause-distinct
stitch-requires-clause-distinct g c =
    cells_distinct c.netlist-netlist.result.now c.sound.ensures.formed.numbered c.cells.result.now c.cells.ensures

pub texts_of-requires-clause-chains : goal.texts_of-requires-clause-chains
texts_of-requires-clause-chains g c =
    let n = c.args.lines.now.core.now in
    are_chains n c.args.asked c.in_ok-chains.chains c.requires.1.0
    (dealt n c.args.asked c.cells.result.now c.in_ok-chains.chains (c.cells.ensures ∙ ap cell_ids c.netlist-netlist.ensures) c.in_ok-chains.ensures)

pub returns : goal.returns
returns g c =
    let l = c.args.lines.now in
    let n = l.core.now in
    let patterns = c.args.tests.patterns.items in
    let verdicts = c.args.tests.verdicts.items in
    let files = c.in_ok-files.files in
    let rest = c.requires.1.1 in
    let same : c.in_ok-chains.chains ≡ design_chains n c.args.asked =
    dealt n c.args.asked c.cells.result.now c.in_ok-chains.chains (c.cells.ensures ∙ ap cell_ids c.netlist-netlist.ensures) c.in_ok-chains.ensures in
    let written = subst (λ (cs : List (List ℕ)). IsWritten n l.holds.now cs l.limit patterns verdicts files) same c.in_ok-files.ensures in
    c.written_is_run.ensures n l.holds.now c.args.asked l.limit g.refutes patterns verdicts files
    (subst IsSound c.netlist-netlist.ensures c.sound.ensures) c.requires.0.design c.requires.0.held c.requires.1.0 rest.0 rest.1.0 rest.1.1.0 written
