use Rattle.std.proofs.Common.{◌≡◌, map, take}
use Rattle.statement.specs.declared.kinds.Tri.TheVariants.{X}
use Rattle.tri.specs.Labels.{source_label}
use Rattle.tri.specs.Labelling.{decided_in}
use Rattle.tri.proofs.labelling.cell_labels.Given as goal

abbrev pub invariant-loop-id : goal.invariant-loop-id
invariant-loop-id l = l.found.items ≡ map (λ x. source_label (decided_in l.labelling.decided.items) x X) (take l.id-index l.ids)
