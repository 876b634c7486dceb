use Rattle.netlist.specs.Settling.{IsDriven}
use Rattle.netlist.proofs.rules.drive.Given as goal

abbrev pub invariant-loop-k : goal.invariant-loop-k
invariant-loop-k g l = IsDriven (g.L.Logic.rule l.logic) l.ids l.driven l.initial.values.items l.values.items l.k
