-- What `sweep` plays, and shows part by part.
use Rattle.std.specs.Prelude.{ℕ, ◌≡◌, ◌++◌, codes, None, Vec}
use Rattle.std.specs.declared.alloc.Global.{Global}
use Rattle.statement.specs.Benches.{Text}
use Rattle.statement.specs.Netlists.{Netlist}
use Rattle.statement.specs.Stils.{StilFile}
use Rattle.statement.specs.Tests.{vectors_in}
use Rattle.scan_play.specs.Playing.{PlaysAs}
use Rattle.scan_play.specs.declared.played.Played.{Played}
use Rattle.scan_play.specs.declared.played.Played.TheVariants.{Passes}
use Rattle.stil_read.specs.Reading.{StandsFor}
use Rattle.stil_vectors.specs.Fitting.{FitsNetlist}
use Rattle.report.specs.declared.counts.ReportCounts.{ReportCounts}
use Rattle.run_files.specs.declared.files.RunFiles.{RunFiles}
use Rattle.test_commands.specs.Plays.{IsPlay}
use Rattle.atpg_top.specs.Sweeps.{IsSweep, number_line, sweep_text}

-- the text is a file's, and the netlist passes each file that it is
pub record IsPassedText (n : Netlist) (text : Text) : Type 0 where
  pub some : (file : StilFile) × StandsFor text file
  pub fits : (file : StilFile) → StandsFor text file → FitsNetlist file n
  pub passes : (file : StilFile) → StandsFor text file → (answer : Played) → PlaysAs n None (vectors_in file) answer → answer ≡ Passes

-- the text, read back and played on the netlist, passes
pub record IsPlayedText (n : Netlist) (text : Text) : Type 0 where
  pub file : StilFile
  pub read_back : StandsFor text file
  pub plays : IsPlay n None (vectors_in file) Passes

-- what is shown of a run whose test passes
abbrev pub IsSweepShown : Netlist → Vec ℕ Global → Type 0
IsSweepShown n text = (made : RunFiles) × IsSweep n made × (text.items ≡ sweep_text made.said)

-- the lines on the netlist and its faults
abbrev pub sizes_text : ReportCounts → Text
sizes_text c = number_line (codes "gates ") c.gates ++ (number_line (codes "cells ") c.cells ++ (number_line (codes "faults ") c.faults ++ number_line (codes "classes ") c.classes))

-- those on what became of the classes
abbrev pub outcomes_text : ReportCounts → Text
outcomes_text c = number_line (codes "detected ") c.detected ++ (number_line (codes "redundant ") c.redundant ++ number_line (codes "aborted ") c.aborted)

-- those on the test
abbrev pub test_text : ReportCounts → Text
test_text c = number_line (codes "patterns ") c.patterns ++ (number_line (codes "cycles ") c.cycles ++ codes "play ok\n")
