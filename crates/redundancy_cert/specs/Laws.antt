-- The law of trees, the contract of a function of its name.
use Rattle.std.specs.Prelude.{◌≡◌, List}
use Rattle.statement.specs.declared.lines.Fault.{Fault}
use Rattle.statement.specs.Netlists.{Netlist}
use Rattle.statement.specs.Patterns.{Holds}
use Rattle.netlist.specs.Conditions.{IsSound}
use Rattle.netlist.specs.Detection.{IsRedundant}
use Rattle.redundancy_cert.specs.declared.nodes.Node.{Node}
use Rattle.redundancy_cert.specs.Trees.{open_count}
use Rattle.redundancy_cert.specs.Fits.{Fits}

-- A tree that fits a fault and leaves nothing open shows that no pattern that obeys the held inputs detects the fault.
abbrev pub ClosedTreeIsRedundant : Type 0
ClosedTreeIsRedundant =
    (f : Fault) (n : Netlist) (holds : Holds) (nodes : List Node) → IsSound n → Fits f n holds nodes → open_count nodes ≡ 0 → IsRedundant n holds f
