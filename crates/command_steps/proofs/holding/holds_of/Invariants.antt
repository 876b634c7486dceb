use Rattle.std.proofs.Common.{◌≡◌, length, map, take}
use Rattle.netlist.specs.Holds.{none_held}
use Rattle.command_line.specs.CommandLine.{hold_of}
use Rattle.command_steps.specs.Runs.{AreHeldFrom}
use Rattle.command_steps.proofs.holding.holds_of.Given as goal

abbrev pub invariant-loop-place : goal.invariant-loop-place
invariant-loop-place l = record {
  held : AreHeldFrom l.core (none_held l.core) (map hold_of (take l.place l.named)) l.holds;
  size : length l.holds ≡ length l.core.inputs;
}
