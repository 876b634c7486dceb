use Rattle.std.proofs.Common.{◌≡◌, ◌+◌, ◌*◌, ◌≤◌, drop, length}
use Rattle.list_core.specs.Enough.{detected_weight}
use Rattle.list_core.proofs.goals.detected_weight_of.Given as goal

abbrev pub invariant-loop-class : goal.invariant-loop-class
invariant-loop-class l = record {
  sum : l.weight + detected_weight (drop (length l.yielded) l.weights) (drop (length l.yielded) l.verdicts) ≡ detected_weight l.weights l.verdicts;
  few : l.weight ≤ length l.yielded * 4294967295;
}
