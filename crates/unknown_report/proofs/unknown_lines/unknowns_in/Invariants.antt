use Rattle.std.proofs.Common.{◌≡◌, ◌++◌, length}
use Rattle.std.specs.List.{All, flat_map}
use Rattle.report.specs.Reports.{IsBenchWord}
use Rattle.unknown_report.specs.Reports.{unknown_line}
use Rattle.unknown_report.proofs.unknown_lines.unknowns_in.Given as goal

abbrev pub invariant-unknown : goal.invariant-unknown
invariant-unknown l = record { read : l.text ≡ flat_map unknown_line l.unknown ++ l.rest; valid : All IsBenchWord l.unknown }

abbrev pub decreases-unknown : goal.decreases-unknown
decreases-unknown l = length l.rest
