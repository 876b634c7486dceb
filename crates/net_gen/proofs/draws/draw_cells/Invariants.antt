use Rattle.std.proofs.Common.{◌≡◌, ◌+◌, ◌-◌, ◌++◌}
use Rattle.net_gen.specs.Samples.{drawn_cells}
use Rattle.net_gen.proofs.draws.draw_cells.Given as goal

abbrev pub invariant-loop-k : goal.invariant-loop-k
invariant-loop-k g l =
    l.cells.items ++ drawn_cells (l.count - l.k) (l.id + l.k) l.first l.gates (g.R.Rng.stream l.rng)
    ≡ drawn_cells l.count l.id l.first l.gates (g.R.Rng.stream l.initial.rng)
