use Rattle.std.proofs.Common.{◌≡◌, ◌==◌, drop, length, map}
use Rattle.std.specs.List.{slice_split}
use Rattle.command_line.specs.CommandLine.{hold_of}
use Rattle.command_line.specs.HoldLists.{holds_of}
use Rattle.command_line.proofs.HoldLemmas.{after}
use Rattle.command_line.proofs.holds.items_of.Given as goal

-- what the list holds is what is held so far and what the items to come hold
abbrev pub invariant-loop-item : goal.invariant-loop-item
invariant-loop-item l =
    holds_of (slice_split (λ b. b == 44) l.list) ≡ after (map hold_of l.holds.items) (holds_of (drop (length l.yielded) (slice_split (λ b. b == 44) l.list)))
