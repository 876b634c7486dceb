-- What `scan` makes of a design.
use Rattle.std.specs.Prelude.{ℕ, ◌≡◌, List, ◌++◌, length, codes, decimal}
use Rattle.statement.specs.Netlists.{Netlist, cells}
use Rattle.scan_insert.specs.Scanned.{scanned_of}
use Rattle.statement.specs.Benches.{canonical}
use Rattle.statement.specs.Statement.{BehavesWithScanOff}
use Rattle.good_files.specs.ScanOff.{design_chains}

-- `cells 3 chains 1`
abbrev pub scan_line : Netlist → List (List ℕ) → List ℕ
scan_line n chains = codes "cells " ++ (decimal (length (cells n)) ++ (codes " chains " ++ (decimal (length chains) ++ codes "\n")))

-- the text that is written and the line that is printed, and that the netlist of the text can be trusted
pub record IsScanProduct (n : Netlist) (asked : ℕ) (text line : List ℕ) : Type 0 where
  pub text_is : text ≡ canonical (scanned_of n (design_chains n asked))
  pub line_is : line ≡ scan_line n (design_chains n asked)
  pub behaves : BehavesWithScanOff n (scanned_of n (design_chains n asked)) (design_chains n asked)
