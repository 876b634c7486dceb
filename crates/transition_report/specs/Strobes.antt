-- Where the tester sees a point by launch on capture.
use Rattle.std.specs.Prelude.{ℕ, ◌≡◌, List}
use Rattle.statement.specs.declared.lines.Point.{Point}
use Rattle.statement.specs.Netlists.{Netlist}
use Rattle.scan_insert.specs.Names.{pin_name_of}
use Rattle.scan_insert.specs.Scanned.{scanned_of}
use Rattle.transition_play.specs.LaunchVectors.{IsLaunchStrobedAt}

-- the tester sees a point of this pattern, by launch on capture, in this cycle at this pin
abbrev pub IsLaunchSeenAt : Netlist → List (List ℕ) → ℕ → Point → ℕ → List ℕ → Type 0
IsLaunchSeenAt n chains place point cycle pin = (output : ℕ) × IsLaunchStrobedAt n chains place point cycle output × (pin ≡ pin_name_of (scanned_of n chains) output)
