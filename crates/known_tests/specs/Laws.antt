-- Laws of tests that set the known inputs alone, each the contract of a function of its name.
use Rattle.std.specs.Prelude.{List, ℕ}
use Rattle.std.specs.List.{All}
use Rattle.statement.specs.declared.lines.Line.{Line}
use Rattle.statement.specs.Netlists.{Netlist}
use Rattle.statement.specs.Stils.{StilFile}
use Rattle.statement.specs.Tests.{vectors_in}
use Rattle.netlist.specs.Conditions.{IsSound}
use Rattle.netlist.specs.Lines.{IsLineOf}
use Rattle.scan_insert.specs.Scanned.{AreChainsOf, line_at, scanned_of, sites_of}
use Rattle.scan_play.specs.Cycles.{IsCycleOf}
use Rattle.stil_write.specs.StilFiles.{IsStilFile}
use Rattle.unknown_inputs.specs.Opened.{opened}
use Rattle.unknown_inputs.specs.Unknowns.{Unknowns}
use Rattle.known_tests.specs.Fitting.{FitsKnown}

-- A file that fits has vectors of the opened netlist's widths.
abbrev pub KnownCycles : Type 0
KnownCycles = (f : StilFile) (n : Netlist) (unknown : Unknowns) → IsStilFile f → FitsKnown f n unknown → All (IsCycleOf (opened n unknown)) (vectors_in f)

-- A line of a netlist stands, at its site, on a line of the scanned netlist.
abbrev pub SitesAreLines : Type 0
SitesAreLines = (n : Netlist) (chains : List (List ℕ)) (line : Line) → IsSound n → AreChainsOf n chains → IsLineOf n line → IsLineOf (scanned_of n chains) (line_at (sites_of n chains) line)
