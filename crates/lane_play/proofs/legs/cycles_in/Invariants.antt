use Rattle.std.proofs.Common.{◌≡◌, length, take}
use Rattle.scan_play.specs.Bursts.{all_cycles}
use Rattle.lane_play.proofs.legs.cycles_in.Given as goal

abbrev pub invariant-loop-burst : goal.invariant-loop-burst
invariant-loop-burst l = l.count ≡ length (all_cycles (take l.burst-index l.bursts))
