use Rattle.std.proofs.Common.{◌≡◌, ◌++◌, length}
use Rattle.std.specs.List.{All}
use Rattle.report.specs.Texts.{times_lines}
use Rattle.report.specs.Beginnings.{IsCount}
use Rattle.report.proofs.reading.times.Given as goal

abbrev pub invariant-times : goal.invariant-times
invariant-times l = record { read : l.initial.rest ≡ times_lines l.of.items ++ l.rest; small : All IsCount l.of.items }

abbrev pub decreases-times : goal.decreases-times
decreases-times l = length l.rest
