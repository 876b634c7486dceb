-- Chains, and the netlist scanned with them.
use Rattle.std.specs.Prelude.{ℕ, ◌≡◌, List}
use Rattle.statement.specs.Netlists.{Netlist}
use Rattle.scan_insert.specs.Scanned.{AreChainsOf, insertion_of}
use Rattle.check_parts.specs.declared.scanning.Stitched.{Stitched}

pub record IsStitched (n : Netlist) (chains : List (List ℕ)) (s : Stitched) : Type 0 where
  pub chains_are : s.chains ≡ chains
  pub dealt : AreChainsOf n chains
  pub scanned_is : s.scanned ≡ insertion_of n chains
