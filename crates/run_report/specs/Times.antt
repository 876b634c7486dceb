-- How often each fault is detected, as a report says it.
use Rattle.std.specs.Prelude.{◌≡◌, ◌⊎◌, List}
use Rattle.std.specs.List.{AllZip}
use Rattle.statement.specs.Netlists.{Netlist}
use Rattle.statement.specs.Patterns.{Pattern}
use Rattle.statement.specs.Faults.{universe_of}
use Rattle.report.specs.Reports.{Times}
use Rattle.detections.specs.Times.{IsTimes}

-- no number is told, or that of each fault, in order
abbrev pub HasTimes : Netlist → List Pattern → Times → Type 0
HasTimes n patterns times = (times.most ≡ 0) ⊎ AllZip (IsTimes n patterns times.most) (universe_of n) times.of
