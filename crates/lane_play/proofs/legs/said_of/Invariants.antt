use Rattle.std.proofs.Common.{◌≡◌, map, take}
use Rattle.lane_play.specs.declared.packing.Machine.{Machine}
use Rattle.lane_play.proofs.legs.said_of.Given as goal

abbrev pub invariant-loop-machine : goal.invariant-loop-machine
invariant-loop-machine l = l.said.items ≡ map (λ (m : Machine). m.said) (take l.machine-index l.machines)
