use Rattle.std.specs.List.{All}
use Rattle.netlist.specs.Netlist.{IsGateAt}
use Rattle.scan_play.proofs.planning.choose.Given as goal

abbrev pub invariant-loop-gate : goal.invariant-loop-gate
invariant-loop-gate l = All (IsGateAt l.core) l.steps.items
