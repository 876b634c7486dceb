use Rattle.std.proofs.Common.{◌≡◌, ◌++◌, drop, take}
use Rattle.scan_play.specs.Bursts.{all_cycles}
use Rattle.diagnose.proofs.cutting.first_cycles.Given as goal

abbrev pub invariant-loop-burst : goal.invariant-loop-burst
invariant-loop-burst l = all_cycles l.bursts.items ++ take l.left (all_cycles (drop l.burst-index l.burst-items)) ≡ take l.count l.vectors
