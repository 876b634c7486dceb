-- What evidence says of a fault: of a tree and of a refutation the same three things.
use Rattle.std.specs.Prelude.{ℕ, ⊤, Bool, IsTrue}
use Rattle.statement.specs.declared.lines.Fault.{Fault}
use Rattle.statement.specs.Netlists.{Netlist}
use Rattle.statement.specs.Patterns.{Holds}
use Rattle.redundancy_cert.specs.Trees.{closed_count, open_count}
use Rattle.redundancy_cert.specs.Fits.{Fits}
use Rattle.refutation.specs.Refutations.{Refutes}
use Rattle.evidence.specs.declared.kinds.Evidence.{Evidence}
use Rattle.evidence.specs.declared.kinds.Evidence.TheVariants.{Tree, Refutation}

-- the tree fits, or the steps refute the fault
abbrev pub Shows : Fault → Netlist → Holds → Evidence → Type 0
Shows f n holds (Tree nodes) = Fits f n holds nodes
Shows f n holds (Refutation steps) = Refutes f n holds steps

-- how many ends are open, and how many closed
abbrev pub open_ends : Evidence → ℕ
open_ends (Tree nodes) = open_count nodes
open_ends (Refutation steps) = 0

abbrev pub closed_ends : Evidence → ℕ
closed_ends (Tree nodes) = closed_count nodes
closed_ends (Refutation steps) = 0

-- a refutation only where refutations are given
abbrev pub MayBe : Bool → Evidence → Type 0
MayBe refutes (Tree nodes) = ⊤
MayBe refutes (Refutation steps) = IsTrue refutes
