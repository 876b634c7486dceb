use Rattle.std.proofs.Common.{◌≡◌, None, length, replicate}
use Rattle.std.specs.List.{All}
use Rattle.statement.specs.declared.kinds.Tri.TheVariants.{X}
use Rattle.lane_play.specs.declared.packing.Machine.{Machine}
use Rattle.lane_play.proofs.legs.first_machines.Given as goal

abbrev pub invariant-loop-place : goal.invariant-loop-place
invariant-loop-place l = record {
  size : length l.machines.items ≡ l._place;
  blank : All (λ (m : Machine). (m.state.items ≡ replicate l.cells X) × (m.said ≡ None)) l.machines.items;
}
