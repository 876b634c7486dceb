use Rattle.std.proofs.Common.{◌≡◌, ◌+◌, ◌≤◌, ◌++◌, take, length, vec_len, vec_capacity}
use Rattle.std.specs.List.{flat_map}
use Rattle.pair_sim.specs.inner.Reach.{reached_one}
use Rattle.pair_sim.proofs.reach.collect.Given as goal

abbrev pub invariant-loop-change : goal.invariant-loop-change
invariant-loop-change l = record {
  signals : l.signals.items ≡ l.initial.signals.items ++ flat_map (reached_one l.points.first.items (length l.points.seen.items) l.values) (take l.change-index l.changes);
  len : vec_len l.signals ≤ vec_len l.initial.signals + l.change-index;
  room : vec_capacity l.signals ≡ vec_capacity l.initial.signals;
}
