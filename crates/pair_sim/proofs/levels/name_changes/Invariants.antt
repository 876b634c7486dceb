use Rattle.std.proofs.Common.{◌≡◌, ◌≤◌, ◌++◌, map, take, vec_capacity}
use Rattle.tri.specs.declared.labels.Label.{Label}
use Rattle.events.specs.declared.trails.Change.{Change}
use Rattle.pair_sim.proofs.levels.name_changes.Given as goal

abbrev pub invariant-loop-change : goal.invariant-loop-change
invariant-loop-change l = record {
  names : l.names.items ≡ l.initial.names.items ++ map (λ (c : Change Label). c.signal) (take l.change-index l.changes);
  room : vec_capacity l.initial.names ≤ vec_capacity l.names;
}
