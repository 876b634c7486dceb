use Rattle.std.proofs.Common.{◌≡◌, map, take}
use Rattle.statement.specs.declared.lines.Line.TheVariants.{Out}
use Rattle.netlist.specs.Settled.{at}
use Rattle.netlist.proofs.observing.outs_into.Given as goal

abbrev pub invariant-loop-x : goal.invariant-loop-x
invariant-loop-x g l =
    (d : g.row.L-Value.Denot) → l.found.items ≡ map (λ x. (g.L.Logic.rule l.logic).line (Out x) (at l.values d x)) (take l.x-index l.netlist.outputs)
