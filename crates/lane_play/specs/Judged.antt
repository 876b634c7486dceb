-- What is said of each of some faults. (Parallel fault simulation: Seshu, On an improved diagnosis program, 1965.)
use Rattle.std.specs.Prelude.{List, Option, Some}
use Rattle.std.specs.List.{AllZip}
use Rattle.statement.specs.declared.lines.Fault.{Fault}
use Rattle.statement.specs.Netlists.{Netlist}
use Rattle.scan_play.specs.declared.played.Played.{Played}
use Rattle.statement.specs.Runs.{Cycle}
use Rattle.scan_play.specs.Judging.{IsJudged, Judging}

-- for each of these faults what is first said of its run in three values
abbrev pub AreJudged : Judging → Netlist → List Fault → List Cycle → List (Option Played) → Type 0
AreJudged says n faults cycles found = AllZip (λ f said. IsJudged says n (Some f) cycles said) faults found
