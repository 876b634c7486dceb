use Rattle.std.proofs.Common.{◌≡◌, ◌+◌, ◌≤◌, ◌++◌, length, drop, vec_len}
use Rattle.std.specs.Prelude.{vec_capacity}
use Rattle.cubes.specs.Filling.{filled, words_after}
use Rattle.cubes.proofs.filling.fill_values.Given as goal

abbrev pub invariant-loop-value : goal.invariant-loop-value
invariant-loop-value g l = record {
  bits : l.bits.items ++ filled (drop l.value-index l.values) (g.R.Rng.stream l.rng) ≡ l.initial.bits.items ++ filled l.values (g.R.Rng.stream l.initial.rng);
  left : words_after (drop l.value-index l.values) (g.R.Rng.stream l.rng) ≡ words_after l.values (g.R.Rng.stream l.initial.rng);
  room : vec_len l.bits + length (drop l.value-index l.values) ≤ vec_capacity l.bits;
}
