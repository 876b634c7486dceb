use Rattle.net_gen.specs.Samples.{drawn_cells}
use Rattle.net_gen.proofs.DrawLemmas.{cells_first, cells_more, cells_last}
use Rattle.net_gen.proofs.draws.draw_cells.Goals as goal

pub loop-k-init : goal.loop-k-init
loop-k-init g c =
    cells_first c.args.count c.args.id c.args.first c.args.gates (g.R.Rng.stream c.args.rng.now) c.in_ok-cells.cells.items c.in_ok-cells.ensures.items

pub loop-k-preserved : goal.loop-k-preserved
loop-k-preserved g c =
    cells_more c.args.count c.args.id c.args.first c.args.gates c.loop-k.k (g.R.Rng.stream c.loop-k.rng) (g.R.Rng.stream c.draw_cell.new.rng)
    c.loop-k.cells.items c.push.new.self.items (drawn_cells c.args.count c.args.id c.args.first c.args.gates (g.R.Rng.stream c.args.rng.now)) _
    c.loop-k-test.true c.in_ok-draw_cell.ensures.cell c.in_ok-draw_cell.ensures.left c.in_ok-push.ensures.items c.loop-k.invariant

pub returns : goal.returns
returns g c =
    cells_last c.args.count c.args.id c.args.first c.args.gates c.loop-k.k (g.R.Rng.stream c.loop-k.rng) c.loop-k.cells.items
    (drawn_cells c.args.count c.args.id c.args.first c.args.gates (g.R.Rng.stream c.args.rng.now)) c.loop-k-test.false c.loop-k.invariant
