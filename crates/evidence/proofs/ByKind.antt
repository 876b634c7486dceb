-- Evidence by its kind.
use Rattle.std.proofs.Common.{◌≡◌}
use Rattle.statement.specs.declared.lines.Fault.{Fault}
use Rattle.statement.specs.Netlists.{Netlist}
use Rattle.statement.specs.Patterns.{Holds}
use Rattle.netlist.specs.Conditions.{IsSound}
use Rattle.netlist.specs.Detection.{IsRedundant}
use Rattle.redundancy_cert.specs.Laws.{ClosedTreeIsRedundant}
use Rattle.refutation.specs.Laws.{RefutedIsRedundant}
use Rattle.evidence.specs.declared.kinds.Evidence.{Evidence}
use Rattle.evidence.specs.declared.kinds.Evidence.TheVariants.{Tree, Refutation}
use Rattle.evidence.specs.Evidence.{Shows, open_ends}

pub shown : ClosedTreeIsRedundant → RefutedIsRedundant → (f : Fault) (n : Netlist) (holds : Holds) (e : Evidence) → IsSound n → Shows f n holds e → open_ends e ≡ 0 → IsRedundant n holds f
shown by_tree by_steps f n holds (Tree nodes) sound shows none = by_tree f n holds nodes sound shows none
shown by_tree by_steps f n holds (Refutation steps) sound shows none = by_steps f n holds steps sound shows
