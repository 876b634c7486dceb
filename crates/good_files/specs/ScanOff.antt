-- The scan chains of a design.
use Rattle.std.specs.Prelude.{ℕ, List}
use Rattle.statement.specs.Netlists.{Netlist}
use Rattle.scan_insert.specs.Chains.{chains_of}
use Rattle.scan_insert.specs.Scanned.{cell_ids}

-- the chains of a design, at most so many as are asked for
abbrev pub design_chains : Netlist → ℕ → List (List ℕ)
design_chains n asked = chains_of (cell_ids n) asked
