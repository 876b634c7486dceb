use Rattle.std.proofs.Common.{inl, inr}
use Rattle.pair_sim.proofs.points.state_of.Goals as goal

pub returns-in-Effect-sight_at_cells : goal.returns-in-Effect-sight_at_cells
returns-in-Effect-sight_at_cells c path = (c.if-contradicted.false, ((c.in-Differs.ensures path).0, c.in-Effect-sight_at_cells.ensures path))

pub returns-in-Differs-sight_at_cells : goal.returns-in-Differs-sight_at_cells
returns-in-Differs-sight_at_cells c path =
    (c.if-contradicted.false, (c.in-Differs.ensures path).0, (c.in-Differs-sight_at_cells.ensures path).0, inl (c.in-Differs.ensures path).1)

pub returns-in-Same-sight_at_cells : goal.returns-in-Same-sight_at_cells
returns-in-Same-sight_at_cells c path =
    (c.if-contradicted.false, (c.in-Differs.ensures path).0, (c.in-Same-sight_at_cells.ensures path).0, inl (c.in-Differs.ensures path).1)

pub returns-in-Effect-sight_at_cells-2 : goal.returns-in-Effect-sight_at_cells-2
returns-in-Effect-sight_at_cells-2 c path = (c.if-contradicted.false, ((c.in-Same.ensures path).0, c.in-Effect-sight_at_cells-2.ensures path))

pub returns-in-Differs-sight_at_cells-2 : goal.returns-in-Differs-sight_at_cells-2
returns-in-Differs-sight_at_cells-2 c path =
    (c.if-contradicted.false, (c.in-Same.ensures path).0, (c.in-Differs-sight_at_cells-2.ensures path).0, inr (c.in-Differs-sight_at_cells-2.ensures path).1)

pub returns-in-Same-sight_at_cells-2 : goal.returns-in-Same-sight_at_cells-2
returns-in-Same-sight_at_cells-2 c path = inr ((c.in-Same.ensures path).1, (c.in-Same-sight_at_cells-2.ensures path).1)
