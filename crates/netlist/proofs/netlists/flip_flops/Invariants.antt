use Rattle.std.proofs.Common.{◌≡◌, take, map}
use Rattle.std.specs.List.{filter}
use Rattle.statement.specs.Netlists.{Definition, is_cell}
use Rattle.netlist.proofs.netlists.flip_flops.Given as goal

abbrev pub invariant-loop-definition : goal.invariant-loop-definition
invariant-loop-definition l = l.cells.items ≡ map (λ (d : Definition). d.id) (filter is_cell (take l.definition-index l.parts.definitions.items))
