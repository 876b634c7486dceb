use Rattle.std.proofs.Common.{◌≡◌, ◌++◌, take}
use Rattle.std.specs.List.{flat_map}
use Rattle.unknown_report.specs.Reports.{unknown_line}
use Rattle.unknown_report.proofs.unknown_lines.push_unknowns.Given as goal

abbrev pub invariant-loop-k : goal.invariant-loop-k
invariant-loop-k l = l.out.items ≡ l.initial.out.items ++ flat_map unknown_line (take l.k l.unknown)
