use Rattle.std.proofs.Common.{◌≡◌, drop, map}
use Rattle.command_line.specs.CommandLine.{hold_of}
use Rattle.command_line.specs.HoldLists.{are_new}
use Rattle.command_line.proofs.HoldLemmas.{texts_in}
use Rattle.command_line.proofs.holds.are_new.Given as goal

abbrev pub invariant-loop-hold : goal.invariant-loop-hold
invariant-loop-hold l =
    are_new (texts_in l.fn.seen.keys) (map (λ h. h.0) (map hold_of l.holds)) ≡ are_new (texts_in l.seen.keys) (map (λ h. h.0) (map hold_of (drop l.hold-index l.holds)))
