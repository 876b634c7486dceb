use Rattle.std.proofs.Common.{◌≡◌, ◌++◌, length}
use Rattle.std.specs.List.{All, flat_map}
use Rattle.unknown_report.specs.Reports.{IsLine, ended}
use Rattle.unknown_report.proofs.line_lists.lines_in.Given as goal

abbrev pub invariant-lines : goal.invariant-lines
invariant-lines l = record { read : l.text ≡ flat_map ended l.lines ++ l.rest; valid : All IsLine l.lines }

abbrev pub decreases-lines : goal.decreases-lines
decreases-lines l = length l.rest
