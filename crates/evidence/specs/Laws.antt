-- Laws of evidence, each the contract of a function of its name.
use Rattle.std.specs.Prelude.{◌≡◌}
use Rattle.statement.specs.declared.lines.Fault.{Fault}
use Rattle.statement.specs.Netlists.{Netlist}
use Rattle.statement.specs.Patterns.{Holds}
use Rattle.netlist.specs.Conditions.{IsSound}
use Rattle.netlist.specs.Detection.{IsRedundant}
use Rattle.evidence.specs.declared.kinds.Evidence.{Evidence}
use Rattle.evidence.specs.Evidence.{Shows, open_ends}

-- Evidence of a fault that leaves nothing open shows that no pattern that obeys the held inputs detects the fault.
abbrev pub ShownIsRedundant : Type 0
ShownIsRedundant = (f : Fault) (n : Netlist) (holds : Holds) (e : Evidence) → IsSound n → Shows f n holds e → open_ends e ≡ 0 → IsRedundant n holds f
