use Rattle.std.proofs.Common.{◌≡◌, ◌-◌, ◌++◌}
use Rattle.transition_tests.specs.Batches.{drawn}
use Rattle.transition_tests.proofs.dropping.drawn.Given as goal

abbrev pub invariant-loop-done : goal.invariant-loop-done
invariant-loop-done g l = l.patterns.items ++ drawn (l.count - l._done) l.cube (g.N.Rng.stream l.rng) ≡ drawn l.count l.cube (g.N.Rng.stream l.initial.rng)
