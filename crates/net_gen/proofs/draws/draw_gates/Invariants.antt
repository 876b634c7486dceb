use Rattle.std.proofs.Common.{◌≡◌, ◌+◌, ◌-◌, ◌++◌}
use Rattle.net_gen.specs.Samples.{drawn_gates, after_gates}
use Rattle.net_gen.proofs.draws.draw_gates.Given as goal

abbrev pub invariant-loop-j : goal.invariant-loop-j
invariant-loop-j g l = record {
  gates : l.gates.items ++ drawn_gates (l.count - l.j) (l.first + l.j) (g.R.Rng.stream l.rng) ≡ drawn_gates l.count l.first (g.R.Rng.stream l.initial.rng);
  left : after_gates (l.count - l.j) (g.R.Rng.stream l.rng) ≡ after_gates l.count (g.R.Rng.stream l.initial.rng);
}
