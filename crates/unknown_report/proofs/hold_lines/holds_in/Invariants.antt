use Rattle.std.proofs.Common.{◌≡◌, ◌++◌, length}
use Rattle.std.specs.List.{All, flat_map}
use Rattle.report.specs.Texts.{hold_line}
use Rattle.report.specs.inner.Lines.{IsHold}
use Rattle.unknown_report.proofs.hold_lines.holds_in.Given as goal

abbrev pub invariant-holds : goal.invariant-holds
invariant-holds l = record { read : l.text ≡ flat_map hold_line l.holds ++ l.rest; valid : All IsHold l.holds }

abbrev pub decreases-holds : goal.decreases-holds
decreases-holds l = length l.rest
