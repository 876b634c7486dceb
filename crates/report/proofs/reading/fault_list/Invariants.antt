use Rattle.std.proofs.Common.{◌≡◌, ◌++◌, length}
use Rattle.std.specs.List.{All, flat_map}
use Rattle.report.specs.Reports.{IsLineBy}
use Rattle.statement.specs.Reports.{fault_line}
use Rattle.report.proofs.reading.fault_list.Given as goal

abbrev pub invariant-faults : goal.invariant-faults
invariant-faults l = record { read : l.text ≡ flat_map fault_line l.lines ++ l.rest; valid : All (IsLineBy l.model) l.lines }

abbrev pub decreases-faults : goal.decreases-faults
decreases-faults l = length l.rest
